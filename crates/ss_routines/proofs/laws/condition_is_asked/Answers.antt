use Rattle.ss_routines.proofs.AskedExamples.{condition_is_asked}
use Rattle.ss_routines.proofs.laws.condition_is_asked.Goals as goal

pub returns : goal.returns
returns c = condition_is_asked
