use Rattle.ss_routines.proofs.AskedWords.{spelled_is_expression}
use Rattle.ss_routines.proofs.laws.spelled_is_expression.Goals as goal

pub returns : goal.returns
returns c = spelled_is_expression
