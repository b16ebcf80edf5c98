use Rattle.std.proofs.Common as usual
use Rattle.std.proofs.lemmas.Grind as steps
use borrow.Author.Tests as branches
use Rattle.ss_program.specs.declared.condition.Relation.TheFolds as folds
use Rattle.ss_reads.proofs.expressions.+conditions.Goals as goal

-- goals that the tactics prove only late, here by the tactic that proves them
pub see_all-see_relation-requires-in-loop-further : goal.see_all-see_relation-requires-in-loop-further
see_all-see_relation-requires-in-loop-further g t c κs within =
    grind (folds.the_lemmas, usual.arith, steps.common_steps) steps 2000000

pub see_all-loop-further-preserved : goal.see_all-loop-further-preserved
see_all-loop-further-preserved g t c = grind (usual.arith, steps.common_steps) steps 2000000

pub see_all-returns : goal.see_all-returns
see_all-returns g t c = grind (usual.arith, steps.common_steps) steps 2000000

pub see_any-see_all-requires-in-loop-further : goal.see_any-see_all-requires-in-loop-further
see_any-see_all-requires-in-loop-further g t c κs within =
    grind (folds.the_lemmas, usual.arith, steps.common_steps) steps 2000000

pub see_any-loop-further-preserved : goal.see_any-loop-further-preserved
see_any-loop-further-preserved g t c = grind (usual.arith, steps.common_steps) steps 2000000

pub see_any-returns : goal.see_any-returns
see_any-returns g t c = grind (usual.arith, steps.common_steps) steps 2000000
