use Rattle.ss_routines.proofs.Unique.{refuse}
use Rattle.ss_routines.proofs.laws.limits_refuse.Goals as goal

pub returns : goal.returns
returns c = refuse
