use Rattle.ss_routines.proofs.LimitWords.{count_passes_limit}
use Rattle.ss_routines.proofs.laws.count_passes_limit.Goals as goal

pub returns : goal.returns
returns c = count_passes_limit
