use Rattle.ss_routines.proofs.Unique.{hold}
use Rattle.ss_routines.proofs.laws.limits_hold.Goals as goal

pub returns : goal.returns
returns c = hold
