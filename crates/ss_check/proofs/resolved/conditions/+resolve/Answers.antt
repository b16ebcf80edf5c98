use Rattle.std.proofs.Common.{◌≡◌, ap, ◌∙◌, refl}
use Rattle.std.specs.Prelude.{map}
use Rattle.ss_routines.specs.declared.tree.condition.Condition.{out-Condition}
use Rattle.ss_routines.specs.declared.tree.condition.Conjunction.{out-Conjunction}
use Rattle.ss_routines.specs.declared.tree.condition.Relation.TheFolds.{fold_out-Condition, fold_out-Conjunction}
use Rattle.ss_program.specs.declared.condition.Relation.TheFolds.{fold-roll-Conjunction, fold-roll-Disjunction}
use Rattle.ss_routines.specs.Condition as tree
use Rattle.ss_routines.specs.Condition.{alternatives_of, additions_of}
use Rattle.ss_routines.specs.View as written
use Rattle.ss_program.specs.ProgramCondition as checked
use Rattle.ss_check.specs.Resolved.{resolved_conjunction, resolved_relation, resolved_alternatives}
use Rattle.ss_check.specs.Resolved.{resolved_additions}
use Rattle.ss_check.specs.Scope.{in_scope}
use Rattle.ss_check.proofs.TreeParts.{alternatives_map, additions_map, shown_all, shown_put}
use Rattle.ss_check.proofs.resolved.conditions.+resolve.Goals as goal

pub resolve_disjunction-loop-further-preserved : goal.resolve_disjunction-loop-further-preserved
resolve_disjunction-loop-further-preserved t c =
    rw c.in_ok-push.ensures.items
    (shown_put (λ a. in_scope c.args.scope resolved_conjunction (written.conjunction_view a)) checked.conjunction_of
    c.loop-further.more.items c.in_ok-resolve_conjunction.field-0 c.deref-further-items.result.now
    c.loop-further.further-index c.further-item.result c.loop-further-test.true c.further-item.is
    c.in_ok-resolve_conjunction.ensures c.loop-further.invariant)

pub resolve_conjunction-loop-further-preserved : goal.resolve_conjunction-loop-further-preserved
resolve_conjunction-loop-further-preserved t c =
    rw c.in_ok-push.ensures.items
    (shown_put (λ a. in_scope c.args.scope resolved_relation (written.relation_view a)) checked.relation_of
    c.loop-further.more.items c.in_ok-resolve_relation.field-0 c.deref-further-items.result.now
    c.loop-further.further-index c.further-item.result c.loop-further-test.true c.further-item.is
    c.in_ok-resolve_relation.ensures c.loop-further.invariant)

pub resolve_disjunction-returns : goal.resolve_disjunction-returns
resolve_disjunction-returns t c =
    let s = c.args.scope in
    let parts = (out-Condition c.args.c.now).more.items in
    let all : map checked.conjunction_of c.loop-further.more.items
    ≡ map (λ a. in_scope s resolved_conjunction (written.conjunction_view a)) parts
    = shown_all (λ a. in_scope s resolved_conjunction (written.conjunction_view a)) checked.conjunction_of
    c.loop-further.more.items c.deref-further-items.result.now c.loop-further.further-index c.loop-further-test.false
    c.loop-further.invariant
    ∙ ap (map (λ a. in_scope s resolved_conjunction (written.conjunction_view a)))
    c.deref-further-items.ensures.value in
    let others : checked.conjunctions_of (map checked.conjunction_of c.loop-further.more.items)
    ≡ in_scope s resolved_alternatives (alternatives_of (map written.conjunction_view parts))
    = ap checked.conjunctions_of all
    ∙ alternatives_map s.whole.now s.names.now s.locals.now written.conjunction_view parts in
    rw (
      fold-roll-Disjunction checked.Relation checked.Conjunction checked.Condition checked.relation_level
          checked.conjunction_level checked.disjunction_level,
      fold_out-Condition tree.Relation tree.Condition tree.Conjunction written.relation_step written.condition_step
          written.conjunction_step,
      c.in_ok-first.ensures,
      others,
    ) refl

pub resolve_conjunction-returns : goal.resolve_conjunction-returns
resolve_conjunction-returns t c =
    let s = c.args.scope in
    let parts = (out-Conjunction c.args.c.now).more.items in
    let all : map checked.relation_of c.loop-further.more.items
    ≡ map (λ a. in_scope s resolved_relation (written.relation_view a)) parts
    = shown_all (λ a. in_scope s resolved_relation (written.relation_view a)) checked.relation_of
    c.loop-further.more.items c.deref-further-items.result.now c.loop-further.further-index c.loop-further-test.false
    c.loop-further.invariant
    ∙ ap (map (λ a. in_scope s resolved_relation (written.relation_view a))) c.deref-further-items.ensures.value in
    let others : checked.relations_of (map checked.relation_of c.loop-further.more.items)
    ≡ in_scope s resolved_additions (additions_of (map written.relation_view parts))
    = ap checked.relations_of all
    ∙ additions_map s.whole.now s.names.now s.locals.now written.relation_view parts in
    rw (
      fold-roll-Conjunction checked.Relation checked.Conjunction checked.Condition checked.relation_level
          checked.conjunction_level checked.disjunction_level,
      fold_out-Conjunction tree.Relation tree.Condition tree.Conjunction written.relation_step written.condition_step
          written.conjunction_step,
      c.in_ok-first.ensures,
      others,
    ) refl
