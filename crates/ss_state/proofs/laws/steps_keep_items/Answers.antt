use Rattle.ss_state.proofs.SameItems.{step_items}
use Rattle.ss_state.proofs.laws.steps_keep_items.Goals as goal

pub returns : goal.returns
returns c = step_items
