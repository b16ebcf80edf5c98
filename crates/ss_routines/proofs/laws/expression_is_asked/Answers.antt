use Rattle.ss_routines.proofs.AskedExamples.{expression_is_asked}
use Rattle.ss_routines.proofs.laws.expression_is_asked.Goals as goal

pub returns : goal.returns
returns c = expression_is_asked
