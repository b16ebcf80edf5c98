use Rattle.std.proofs.Common.{rules, w64, FitsSigned, ap, sym, ◌∙◌, ◌-◌, refl}
use Rattle.std.proofs.lemmas.Int.{to_z-of_z}
use Rattle.ss_store.specs.Store.{number_of}
use Rattle.ss_store.specs.Making.{numbering_by}
use Rattle.ss_store.proofs.MakingAnswers.{at_of}
use Rattle.ss_store.proofs.ValueWrites.{signed_range, lies, living_at, as_value, set_pair, set_outcome_to, set_none_to}
use Rattle.ss_store.proofs.ListOrders.{set_order}
use Rattle.ss_store.proofs.EndingAnswers.{seats_below}
use Rattle.ss_store.proofs.store.Store.set.Goals as goal

pub returns-in-None : goal.returns-in-None
returns-in-None g c = set_none_to _ _ c.args.class c.number_of_value-number.result _ c.args.attribute c.args.value
    c.self.view_is
    c.self.invariant.2 (sym c.row_of.ensures ∙ c.in-None.is) (let fits : FitsSigned w64 c.args.entity = search rules in
    c.number_of_value-number.ensures ∙ ap number_of (to_z-of_z w64 _ fits))

pub replace-old-requires-clause-living : goal.replace-old-requires-clause-living
replace-old-requires-clause-living g c =
    let k = at_of _ _ c.args.class c.index-shape.result.now c.self.view_is c.self.invariant.2 c.requires
    c.index-shape.ensures in
    let l = lies _ _ c.args.class c.number_of_value-number.result c.index-shape.result.now _ k (sym c.row_of.ensures
    ∙ c.in-Some.is) in (
      l.value,
      living_at _ c.args.class c.number_of_value-number.result
          (c.number_of_value-number.result - 1) c.index-shape.result.now l
          refl,
    )

pub is_ranked_by-ranked-requires : goal.is_ranked_by-ranked-requires
is_ranked_by-ranked-requires g c = seats_below _ _ c.args.class c.number_of_value-number.result
    c.index-shape.result.now c.in-Some.row _
    (at_of _ _ c.args.class c.index-shape.result.now c.self.view_is c.self.invariant.2 c.requires c.index-shape.ensures)
    (sym c.row_of.ensures ∙ c.in-Some.is) c.deref.ensures.value

pub invariant_of-self : goal.invariant_of-self
invariant_of-self g c =
    let k = at_of _ _ c.args.class c.index-shape.result.now c.self.view_is c.self.invariant.2 c.requires
    c.index-shape.ensures in
    let l = lies _ _ c.args.class c.number_of_value-number.result c.index-shape.result.now _ k (sym c.row_of.ensures
    ∙ c.in-Some.is) in
    set_pair _ _ c.args.class c.number_of_value-number.result
    (c.number_of_value-number.result - 1) c.args.attribute c.args.value
    c.index-shape.result.now _ k (signed_range c.args.value c.ranges.value.sfits) l refl
    (as_value _ c.self.inside.entities (numbering_by c.index-shape.result.now.permanent c.args.class)
    (c.number_of_value-number.result - 1) c.args.attribute l.value c.args.value _
    (c.replace-old.ensures.rows l.value
    (living_at _ c.args.class c.number_of_value-number.result (c.number_of_value-number.result - 1)
    c.index-shape.result.now l refl)) (let fits : FitsSigned w64 c.args.value = search rules in
    to_z-of_z w64 _ fits)) _
    (set_order _ _ _ c.args.class c.number_of_value-number.result
    (c.number_of_value-number.result - 1) c.args.attribute c.args.value c.in-Some.row c.index-shape.result.now _ _ _
    c.self.invariant.2 c.self.invariant.3 l (sym c.row_of.ensures ∙ c.in-Some.is) refl
    (as_value _ c.self.inside.entities (numbering_by c.index-shape.result.now.permanent c.args.class)
    (c.number_of_value-number.result - 1) c.args.attribute l.value c.args.value _
    (c.replace-old.ensures.rows l.value
    (living_at _ c.args.class c.number_of_value-number.result (c.number_of_value-number.result - 1)
    c.index-shape.result.now l refl)) (let fits : FitsSigned w64 c.args.value = search rules in
    to_z-of_z w64 _ fits)) c.deref.ensures.value c.is_ranked_by-ranked.ensures c.forget_if.ensures.forgotten
    c.forget_if.ensures.kept)

pub returns : goal.returns
returns g c =
    let k = at_of _ _ c.args.class c.index-shape.result.now c.self.view_is c.self.invariant.2 c.requires
    c.index-shape.ensures in
    let er = sym c.row_of.ensures ∙ c.in-Some.is in
    let l = lies _ _ c.args.class c.number_of_value-number.result c.index-shape.result.now _ k er in
    let there = living_at _ c.args.class c.number_of_value-number.result
    (c.number_of_value-number.result - 1) c.index-shape.result.now l
    refl in
    let in_range : FitsSigned w64 c.replace-old.result = search rules in
    set_outcome_to _ _ c.args.class c.number_of_value-number.result _
    (c.number_of_value-number.result - 1) c.args.attribute c.args.value _
    c.index-shape.result.now _ _ c.self.view_is c.self.invariant.2 k (signed_range c.args.value c.ranges.value.sfits) l
    er refl
    (as_value _ c.self.inside.entities (numbering_by c.index-shape.result.now.permanent c.args.class)
    (c.number_of_value-number.result - 1) c.args.attribute l.value c.args.value _
    (c.replace-old.ensures.rows l.value there)
    (let fits : FitsSigned w64 c.args.value = search rules in to_z-of_z w64 _ fits))
    (to_z-of_z w64 _ in_range ∙ c.replace-old.ensures.value l.value there)
    (let fits : FitsSigned w64 c.args.entity = search rules in
    c.number_of_value-number.ensures ∙ ap number_of (to_z-of_z w64 _ fits))
