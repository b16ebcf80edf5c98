use Rattle.ss_preamble.proofs.Unique.{unique}
use Rattle.ss_preamble.proofs.laws.spelling_is_unique.Goals as goal

pub returns : goal.returns
returns c = unique
