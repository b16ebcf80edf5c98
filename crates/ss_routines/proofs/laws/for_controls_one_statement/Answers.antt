use Rattle.ss_routines.proofs.Examples.{for_controls_one_statement}
use Rattle.ss_routines.proofs.laws.for_controls_one_statement.Goals as goal

pub returns : goal.returns
returns c = for_controls_one_statement
