use Rattle.ss_preamble.proofs.Unique.{hold}
use Rattle.ss_preamble.proofs.laws.limits_hold.Goals as goal

pub returns : goal.returns
returns c = hold
