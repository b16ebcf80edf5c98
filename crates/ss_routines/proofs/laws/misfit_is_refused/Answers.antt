use Rattle.ss_routines.proofs.Misfits.{misfit_is_refused}
use Rattle.ss_routines.proofs.laws.misfit_is_refused.Goals as goal

pub returns : goal.returns
returns c = misfit_is_refused
