use Rattle.ss_routines.proofs.Misfits.{expression_begins}
use Rattle.ss_routines.proofs.laws.expression_begins.Goals as goal

pub returns : goal.returns
returns c = expression_begins
