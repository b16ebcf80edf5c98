use Rattle.std.proofs.Common.{arith}
use Rattle.std.proofs.lemmas.Int.{ints}
use Rattle.ss_machine.proofs.history.folding.unfold.Goals as goal

pub overflow_cast-half : goal.overflow_cast-half
overflow_cast-half c = omega (arith, ints)

pub overflow_sub-result : goal.overflow_sub-result
overflow_sub-result c = omega (arith, ints)

pub overflow_sub-result-else-number-eq0 : goal.overflow_sub-result-else-number-eq0
overflow_sub-result-else-number-eq0 c = omega (arith, ints)

pub returns-then-number-eq0 : goal.returns-then-number-eq0
returns-then-number-eq0 c = grind (arith, ints)

pub returns-else-number-eq0 : goal.returns-else-number-eq0
returns-else-number-eq0 c = grind (arith, ints)
