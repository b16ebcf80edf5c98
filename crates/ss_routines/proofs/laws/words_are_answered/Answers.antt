use Rattle.ss_routines.proofs.AlwaysAnswered.{always}
use Rattle.ss_routines.proofs.laws.words_are_answered.Goals as goal

pub returns : goal.returns
returns c = always
