use Rattle.ss_routines.proofs.Examples.{else_is_of_the_inner_if}
use Rattle.ss_routines.proofs.laws.else_is_of_the_inner_if.Goals as goal

pub returns : goal.returns
returns c = else_is_of_the_inner_if
