use Rattle.ss_changes.proofs.Exactness.{changes_are_exact}
use Rattle.ss_changes.proofs.laws.what_a_step_changed_is_exact.Goals as goal

pub returns : goal.returns
returns c = changes_are_exact
