use Rattle.ss_routines.proofs.LimitWords.{limit_is_counted}
use Rattle.ss_routines.proofs.laws.limit_is_counted.Goals as goal

pub returns : goal.returns
returns c = limit_is_counted
