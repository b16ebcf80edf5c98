use Rattle.ss_prompt.proofs.Ways.{found}
use Rattle.ss_prompt.proofs.laws.states_left_are_found.Goals as goal

pub returns : goal.returns
returns c = found
