use Rattle.std.proofs.lemmas.Int.{to_z-of_z}
use Rattle.std.proofs.Common.{rules, w64, FitsSigned, ◌-◌, refl}
use Rattle.ss_store.specs.Making.{numbering_by}
use Rattle.ss_store.proofs.MakingAnswers.{at_of}
use Rattle.ss_store.proofs.ValueWrites.{signed_range, row_there, lies, living_at, as_value, set_pair, set_value}
use Rattle.ss_store.proofs.ListOrders.{none_known}
use Rattle.ss_store.proofs.store.Store.reset.Goals as goal

pub replace-requires-clause-living : goal.replace-requires-clause-living
replace-requires-clause-living g c =
    let k = at_of _ _ c.args.class c.index-shape.result.now c.self.view_is c.self.invariant.2 c.requires.class
    c.index-shape.ensures in
    let r = row_there _ _ c.args.class c.args.number c.index-shape.result.now k c.requires.there in
    let l = lies _ _ c.args.class c.args.number c.index-shape.result.now r.0 k r.1 in
    (l.value, living_at _ c.args.class c.args.number (c.args.number - 1) c.index-shape.result.now l refl)

pub invariant_of-self : goal.invariant_of-self
invariant_of-self g c =
    let k = at_of _ _ c.args.class c.index-shape.result.now c.self.view_is c.self.invariant.2 c.requires.class
    c.index-shape.ensures in
    let r = row_there _ _ c.args.class c.args.number c.index-shape.result.now k c.requires.there in
    let l = lies _ _ c.args.class c.args.number c.index-shape.result.now r.0 k r.1 in
    set_pair _ _ c.args.class c.args.number (c.args.number - 1) c.args.attribute c.args.value c.index-shape.result.now _
    k (signed_range c.args.value c.ranges.value.sfits) l refl
    (as_value _ c.self.inside.entities (numbering_by c.index-shape.result.now.permanent c.args.class)
    (c.args.number - 1) c.args.attribute l.value c.args.value _
    (c.replace.ensures.rows l.value (living_at _ c.args.class c.args.number (c.args.number - 1)
    c.index-shape.result.now l refl)) (let fits : FitsSigned w64 c.args.value = search rules in
    to_z-of_z w64 _ fits)) _
    (none_known _ _ c.forget.ensures)

pub returns : goal.returns
returns g c =
    let k = at_of _ _ c.args.class c.index-shape.result.now c.self.view_is c.self.invariant.2 c.requires.class
    c.index-shape.ensures in
    let r = row_there _ _ c.args.class c.args.number c.index-shape.result.now k c.requires.there in
    let l = lies _ _ c.args.class c.args.number c.index-shape.result.now r.0 k r.1 in
    set_value _ _ c.args.class c.args.number (c.args.number - 1) c.args.attribute c.args.value c.index-shape.result.now
    _ c.self.view_is c.self.invariant.2 k (signed_range c.args.value c.ranges.value.sfits) l refl
    (as_value _ c.self.inside.entities (numbering_by c.index-shape.result.now.permanent c.args.class)
    (c.args.number - 1) c.args.attribute l.value c.args.value _
    (c.replace.ensures.rows l.value (living_at _ c.args.class c.args.number (c.args.number - 1)
    c.index-shape.result.now l refl)) (let fits : FitsSigned w64 c.args.value = search rules in
    to_z-of_z w64 _ fits))
