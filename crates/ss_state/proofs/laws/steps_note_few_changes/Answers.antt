use Rattle.ss_state.proofs.LawsHold.{few_changes}
use Rattle.ss_state.proofs.laws.steps_note_few_changes.Goals as goal

pub returns : goal.returns
returns c = few_changes
