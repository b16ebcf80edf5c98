use Rattle.std.proofs.Common as usual
use Rattle.std.proofs.lemmas.Grind as steps
use borrow.Author.Tests as branches
use Rattle.ss_program.specs.declared.sum.Factor.TheFolds as folds
use Rattle.ss_reads.proofs.written.+written.Goals as goal

-- goals that the tactics prove only late, here by the tactic that proves them
pub push_arguments-push_sum-requires-in-loop-further : goal.push_arguments-push_sum-requires-in-loop-further
push_arguments-push_sum-requires-in-loop-further t c =
    grind (folds.the_lemmas, usual.arith, steps.common_steps) steps 2000000

pub push_arguments-loop-further-preserved : goal.push_arguments-loop-further-preserved
push_arguments-loop-further-preserved t c = grind (usual.arith, steps.common_steps) steps 2000000

pub push_arguments-returns : goal.push_arguments-returns
push_arguments-returns t c = grind (usual.arith, steps.common_steps) steps 2000000

pub push_sum-extend_from_slice-requires-in-loop-further : goal.push_sum-extend_from_slice-requires-in-loop-further
push_sum-extend_from_slice-requires-in-loop-further t c κs =
    search (branches.tests, usual.rules, folds.the_lemmas, steps.common_steps)

pub push_sum-push_term-requires-in-loop-further : goal.push_sum-push_term-requires-in-loop-further
push_sum-push_term-requires-in-loop-further t c =
    grind (folds.the_lemmas, usual.arith, steps.common_steps) steps 2000000

pub push_sum-loop-further-preserved : goal.push_sum-loop-further-preserved
push_sum-loop-further-preserved t c = search (branches.tests, usual.rules, folds.the_lemmas, steps.common_steps)

pub push_sum-returns : goal.push_sum-returns
push_sum-returns t c = grind (usual.arith, steps.common_steps) steps 2000000

pub push_term-push_factor-requires-in-loop-further : goal.push_term-push_factor-requires-in-loop-further
push_term-push_factor-requires-in-loop-further t c =
    grind (folds.the_lemmas, usual.arith, steps.common_steps) steps 2000000

pub push_term-loop-further-preserved : goal.push_term-loop-further-preserved
push_term-loop-further-preserved t c = grind (usual.arith, steps.common_steps) steps 2000000

pub push_term-returns : goal.push_term-returns
push_term-returns t c = grind (usual.arith, steps.common_steps) steps 2000000
