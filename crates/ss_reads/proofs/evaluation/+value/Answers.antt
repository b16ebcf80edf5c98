use Rattle.std.proofs.Common as usual
use Rattle.std.proofs.lemmas.Grind as steps
use borrow.Author.Tests as branches
use Rattle.ss_program.specs.declared.sum.Factor.TheFolds as folds
use Rattle.ss_reads.proofs.evaluation.+value.Goals as goal

-- goals that the tactics prove only late, here by the tactic that proves them
pub factor_value-member_kept-requires : goal.factor_value-member_kept-requires
factor_value-member_kept-requires g c =
    grind (folds.the_lemmas, usual.arith, steps.common_steps) steps 2000000

pub greatest_value-sum_value-requires-in-loop-further : goal.greatest_value-sum_value-requires-in-loop-further
greatest_value-sum_value-requires-in-loop-further g c =
    grind (folds.the_lemmas, usual.arith, steps.common_steps) steps 2000000

pub greatest_value-returns-in_err-next : goal.greatest_value-returns-in_err-next
greatest_value-returns-in_err-next g c = grind (usual.arith, steps.common_steps) steps 2000000

pub greatest_value-loop-further-preserved : goal.greatest_value-loop-further-preserved
greatest_value-loop-further-preserved g c = grind (usual.arith, steps.common_steps) steps 2000000

pub greatest_value-returns : goal.greatest_value-returns
greatest_value-returns g c = grind (usual.arith, steps.common_steps) steps 2000000

pub least_value-sum_value-requires-in-loop-further : goal.least_value-sum_value-requires-in-loop-further
least_value-sum_value-requires-in-loop-further g c =
    grind (folds.the_lemmas, usual.arith, steps.common_steps) steps 2000000

pub least_value-returns-in_err-next : goal.least_value-returns-in_err-next
least_value-returns-in_err-next g c = grind (usual.arith, steps.common_steps) steps 2000000

pub least_value-loop-further-preserved : goal.least_value-loop-further-preserved
least_value-loop-further-preserved g c = grind (usual.arith, steps.common_steps) steps 2000000

pub least_value-returns : goal.least_value-returns
least_value-returns g c = grind (usual.arith, steps.common_steps) steps 2000000

pub sum_value-term_value-requires-in-loop-further : goal.sum_value-term_value-requires-in-loop-further
sum_value-term_value-requires-in-loop-further g c =
    grind (folds.the_lemmas, usual.arith, steps.common_steps) steps 2000000

pub sum_value-returns-in_err-next : goal.sum_value-returns-in_err-next
sum_value-returns-in_err-next g c = search (
  branches.tests,
  usual.rules,
  folds.the_lemmas,
  steps.common_steps,
)

pub sum_value-returns-in_err-total-2 : goal.sum_value-returns-in_err-total-2
sum_value-returns-in_err-total-2 g c = search (
  branches.tests,
  usual.rules,
  folds.the_lemmas,
  steps.common_steps,
)

pub sum_value-loop-further-preserved : goal.sum_value-loop-further-preserved
sum_value-loop-further-preserved g c = search (
  branches.tests,
  usual.rules,
  folds.the_lemmas,
  steps.common_steps,
)

pub sum_value-returns : goal.sum_value-returns
sum_value-returns g c = grind (usual.arith, steps.common_steps) steps 2000000

pub term_value-factor_value-requires-in-loop-further : goal.term_value-factor_value-requires-in-loop-further
term_value-factor_value-requires-in-loop-further g c =
    grind (folds.the_lemmas, usual.arith, steps.common_steps) steps 2000000

pub term_value-returns-in_err-next : goal.term_value-returns-in_err-next
term_value-returns-in_err-next g c = grind (usual.arith, steps.common_steps) steps 2000000

pub term_value-returns-in_err-total-2 : goal.term_value-returns-in_err-total-2
term_value-returns-in_err-total-2 g c = grind (usual.arith, steps.common_steps) steps 2000000

pub term_value-loop-further-preserved : goal.term_value-loop-further-preserved
term_value-loop-further-preserved g c = search (
  branches.tests,
  usual.rules,
  folds.the_lemmas,
  steps.common_steps,
)

pub term_value-returns : goal.term_value-returns
term_value-returns g c = grind (usual.arith, steps.common_steps) steps 2000000
