use Rattle.ss_routines.proofs.AskedWords.{spelled_is_condition}
use Rattle.ss_routines.proofs.laws.spelled_is_condition.Goals as goal

pub returns : goal.returns
returns c = spelled_is_condition
