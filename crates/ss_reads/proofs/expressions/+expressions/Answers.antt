use Rattle.std.proofs.Common as usual
use Rattle.std.proofs.lemmas.Grind as steps
use borrow.Author.Tests as branches
use Rattle.ss_program.specs.declared.sum.Factor.TheFolds as folds
use Rattle.ss_reads.proofs.expressions.+expressions.Goals as goal

-- goals that the tactics prove only late, here by the tactic that proves them
pub see_arguments-see_sum-requires-in-loop-further : goal.see_arguments-see_sum-requires-in-loop-further
see_arguments-see_sum-requires-in-loop-further g t c κs within =
    grind (folds.the_lemmas, usual.arith, steps.common_steps) steps 2000000

pub see_arguments-loop-further-preserved : goal.see_arguments-loop-further-preserved
see_arguments-loop-further-preserved g t c = grind (usual.arith, steps.common_steps) steps 2000000

pub see_arguments-returns : goal.see_arguments-returns
see_arguments-returns g t c = grind (usual.arith, steps.common_steps) steps 2000000

pub see_sum-see_term-requires-in-loop-further : goal.see_sum-see_term-requires-in-loop-further
see_sum-see_term-requires-in-loop-further g t c κs within =
    grind (folds.the_lemmas, usual.arith, steps.common_steps) steps 2000000

pub see_sum-loop-further-preserved : goal.see_sum-loop-further-preserved
see_sum-loop-further-preserved g t c = search (branches.tests, usual.rules, folds.the_lemmas, steps.common_steps)

pub see_sum-returns : goal.see_sum-returns
see_sum-returns g t c = grind (usual.arith, steps.common_steps) steps 2000000

pub see_term-see_factor-requires-in-loop-further : goal.see_term-see_factor-requires-in-loop-further
see_term-see_factor-requires-in-loop-further g t c κs within =
    grind (folds.the_lemmas, usual.arith, steps.common_steps) steps 2000000

pub see_term-loop-further-preserved : goal.see_term-loop-further-preserved
see_term-loop-further-preserved g t c = grind (usual.arith, steps.common_steps) steps 2000000

pub see_term-returns : goal.see_term-returns
see_term-returns g t c = grind (usual.arith, steps.common_steps) steps 2000000
