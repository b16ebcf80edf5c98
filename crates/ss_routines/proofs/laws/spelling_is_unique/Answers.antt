use Rattle.ss_routines.proofs.Unique.{unique}
use Rattle.ss_routines.proofs.laws.spelling_is_unique.Goals as goal

pub returns : goal.returns
returns c = unique
