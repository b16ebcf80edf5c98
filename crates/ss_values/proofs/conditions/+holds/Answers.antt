use Rattle.std.proofs.Common as usual
use Rattle.std.proofs.lemmas.Grind as steps
use Rattle.ss_program.specs.declared.condition.Relation.TheFolds as folds
use Rattle.ss_values.proofs.conditions.+holds.Goals as goal

-- goals that the tactics prove only late, here by the tactic that proves them
pub all_hold-returns-then-not-truth : goal.all_hold-returns-then-not-truth
all_hold-returns-then-not-truth g c = grind (usual.arith, steps.common_steps) steps 2000000

pub all_hold-relation_holds-requires-in-loop-further : goal.all_hold-relation_holds-requires-in-loop-further
all_hold-relation_holds-requires-in-loop-further g c =
    grind (folds.the_lemmas, usual.arith, steps.common_steps) steps 2000000

pub all_hold-returns-in_err-truth-2 : goal.all_hold-returns-in_err-truth-2
all_hold-returns-in_err-truth-2 g c = grind (usual.arith, steps.common_steps) steps 2000000

pub all_hold-loop-further-preserved : goal.all_hold-loop-further-preserved
all_hold-loop-further-preserved g c = grind (usual.arith, steps.common_steps) steps 2000000

pub all_hold-returns : goal.all_hold-returns
all_hold-returns g c = grind (usual.arith, steps.common_steps) steps 2000000

pub any_holds-returns-then-truth : goal.any_holds-returns-then-truth
any_holds-returns-then-truth g c = grind (usual.arith, steps.common_steps) steps 2000000

pub any_holds-all_hold-requires-in-loop-further : goal.any_holds-all_hold-requires-in-loop-further
any_holds-all_hold-requires-in-loop-further g c =
    grind (folds.the_lemmas, usual.arith, steps.common_steps) steps 2000000

pub any_holds-returns-in_err-truth-2 : goal.any_holds-returns-in_err-truth-2
any_holds-returns-in_err-truth-2 g c = grind (usual.arith, steps.common_steps) steps 2000000

pub any_holds-loop-further-preserved : goal.any_holds-loop-further-preserved
any_holds-loop-further-preserved g c = grind (usual.arith, steps.common_steps) steps 2000000

pub any_holds-returns : goal.any_holds-returns
any_holds-returns g c = grind (usual.arith, steps.common_steps) steps 2000000
