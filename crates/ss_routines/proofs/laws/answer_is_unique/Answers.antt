use Rattle.ss_routines.proofs.Unique.{one_answer}
use Rattle.ss_routines.proofs.laws.answer_is_unique.Goals as goal

pub returns : goal.returns
returns c = one_answer
