use Rattle.ss_preamble.proofs.AnswerByReading.{always}
use Rattle.ss_preamble.proofs.laws.words_are_answered.Goals as goal

pub returns : goal.returns
returns c = always
