use Rattle.ss_routines.proofs.AskedWords.{expression_is_spelled}
use Rattle.ss_routines.proofs.laws.expression_is_spelled.Goals as goal

pub returns : goal.returns
returns c = expression_is_spelled
