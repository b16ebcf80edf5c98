use Rattle.ss_changes.proofs.Completeness.{changes_are_all}
use Rattle.ss_changes.proofs.laws.what_a_step_changed_is_all.Goals as goal

pub returns : goal.returns
returns c = changes_are_all
