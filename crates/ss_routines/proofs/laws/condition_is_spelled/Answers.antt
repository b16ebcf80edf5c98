use Rattle.ss_routines.proofs.AskedWords.{condition_is_spelled}
use Rattle.ss_routines.proofs.laws.condition_is_spelled.Goals as goal

pub returns : goal.returns
returns c = condition_is_spelled
