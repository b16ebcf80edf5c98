use Rattle.ss_routines.proofs.Misfits.{condition_fits}
use Rattle.ss_routines.proofs.laws.condition_fits.Goals as goal

pub returns : goal.returns
returns c = condition_fits
