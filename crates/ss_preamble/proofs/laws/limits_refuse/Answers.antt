use Rattle.ss_preamble.proofs.Unique.{refuse}
use Rattle.ss_preamble.proofs.laws.limits_refuse.Goals as goal

pub returns : goal.returns
returns c = refuse
