use Rattle.ss_routines.proofs.Misfits.{fitting_is_condition}
use Rattle.ss_routines.proofs.laws.fitting_is_condition.Goals as goal

pub returns : goal.returns
returns c = fitting_is_condition
