use Rattle.ss_routines.proofs.Unique.{let_pass}
use Rattle.ss_routines.proofs.laws.limits_let_pass.Goals as goal

pub returns : goal.returns
returns c = let_pass
