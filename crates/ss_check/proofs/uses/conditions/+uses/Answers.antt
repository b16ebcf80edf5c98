use Rattle.std.proofs.Common.{◌++◌, append_assoc, refl}
use Rattle.std.specs.Prelude.{map}
use Rattle.ss_routines.specs.declared.tree.condition.Relation.TheFolds.{fold_out-Condition, fold_out-Conjunction}
use Rattle.ss_routines.specs.Condition.{Relation, Condition, Conjunction}
use Rattle.ss_routines.specs.Condition.{alternatives_of, additions_of}
use Rattle.ss_routines.specs.View.{condition_view, conjunction_view, relation_view, relation_step, condition_step}
use Rattle.ss_routines.specs.View.{conjunction_step}
use Rattle.ss_check.specs.Uses.{uses_condition, uses_alternatives, uses_conjunction, uses_additions, uses_relation}
use Rattle.ss_check.proofs.TableTurns.{added_end, added_turn}
use Rattle.ss_check.proofs.uses.conditions.+uses.Goals as goal

pub add_condition-loop-further-init : goal.add_condition-loop-further-init
add_condition-loop-further-init t c =
    rw (
      c.in_ok-add_conjunction.ensures,
      c.deref-further-items.ensures.value,
      fold_out-Condition Relation Condition Conjunction relation_step condition_step conjunction_step,
      append_assoc,
    )
    refl

pub add_condition-loop-further-preserved : goal.add_condition-loop-further-preserved
add_condition-loop-further-preserved t c =
    rw c.in_ok-add_conjunction-2.ensures
    (added_turn (λ ys. uses_alternatives (alternatives_of (map conjunction_view ys)))
    (λ y. uses_conjunction (conjunction_view y)) c.loop-further.uses c.deref-further-items.result.now
    c.loop-further.further-index c.further-item.result
    (c.args.uses.now ++ uses_condition (condition_view c.args.c.now)) (λ y ys. refl) c.loop-further-test.true
    c.further-item.is c.loop-further.invariant)

pub add_condition-returns : goal.add_condition-returns
add_condition-returns t c =
    added_end (λ ys. uses_alternatives (alternatives_of (map conjunction_view ys))) c.loop-further.uses
    c.deref-further-items.result.now c.loop-further.further-index
    (c.args.uses.now ++ uses_condition (condition_view c.args.c.now)) refl c.loop-further-test.false
    c.loop-further.invariant

pub add_conjunction-loop-further-init : goal.add_conjunction-loop-further-init
add_conjunction-loop-further-init t c =
    rw (
      c.in_ok-add_relation.ensures,
      c.deref-further-items.ensures.value,
      fold_out-Conjunction Relation Condition Conjunction relation_step condition_step conjunction_step,
      append_assoc,
    )
    refl

pub add_conjunction-loop-further-preserved : goal.add_conjunction-loop-further-preserved
add_conjunction-loop-further-preserved t c =
    rw c.in_ok-add_relation-2.ensures
    (added_turn (λ ys. uses_additions (additions_of (map relation_view ys))) (λ y. uses_relation (relation_view y))
    c.loop-further.uses c.deref-further-items.result.now c.loop-further.further-index c.further-item.result
    (c.args.uses.now ++ uses_conjunction (conjunction_view c.args.c.now)) (λ y ys. refl) c.loop-further-test.true
    c.further-item.is c.loop-further.invariant)

pub add_conjunction-returns : goal.add_conjunction-returns
add_conjunction-returns t c =
    added_end (λ ys. uses_additions (additions_of (map relation_view ys))) c.loop-further.uses
    c.deref-further-items.result.now c.loop-further.further-index
    (c.args.uses.now ++ uses_conjunction (conjunction_view c.args.c.now)) refl c.loop-further-test.false
    c.loop-further.invariant
