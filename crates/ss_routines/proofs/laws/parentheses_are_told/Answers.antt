use Rattle.ss_routines.proofs.Examples.{parentheses_are_told}
use Rattle.ss_routines.proofs.laws.parentheses_are_told.Goals as goal

pub returns : goal.returns
returns c = parentheses_are_told
