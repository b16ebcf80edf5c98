use Rattle.ss_state.proofs.LawsHold.{states_well}
use Rattle.ss_state.proofs.laws.states_stay_well_formed.Goals as goal

pub returns : goal.returns
returns c = states_well
