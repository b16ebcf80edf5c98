use Rattle.std.proofs.Common.{rules, w64, FitsSigned, ap, sym, ◌∙◌, length, arith, ℕ, refl}
use Rattle.std.specs.Option.{option_map}
use Rattle.std.proofs.lemmas.Int.{to_z-of_z}
use Rattle.ss_store.specs.Store.{number_of}
use Rattle.ss_store.specs.Parts.{number_at}
use Rattle.ss_store.proofs.Calls.{case_of, seat_small}
use Rattle.ss_store.proofs.KeptAttributes.{kept_seat, predecessor_below, successor_below, neighbours_none}
use Rattle.ss_store.proofs.KeptAttributes.{neighbours_are}
use Rattle.ss_store.proofs.store.Store.neighbours.Goals as goal

pub seat_of-requires : goal.seat_of-requires
seat_of-requires g c = seat_small _ _ c.args.set c.index-shape.result.now _
    (case_of _ _ c.args.set c.index-shape.result.now c.self.view_is c.self.invariant.2 c.requires c.index-shape.ensures)
    refl c.known.ensures.seats c.number_of_value.result

pub prev-earlier-requires : goal.prev-earlier-requires
prev-earlier-requires g c = kept_seat _ _ c.args.set c.index-shape.result.now c.number_of_value.result c.in-Some.seat
    (case_of _ _ c.args.set c.index-shape.result.now c.self.view_is c.self.invariant.2 c.requires c.index-shape.ensures)
    (sym c.seat_of.ensures ∙ c.in-Some.is)

pub next-later-requires : goal.next-later-requires
next-later-requires g c = kept_seat _ _ c.args.set c.index-shape.result.now c.number_of_value.result c.in-Some.seat
    (case_of _ _ c.args.set c.index-shape.result.now c.self.view_is c.self.invariant.2 c.requires c.index-shape.ensures)
    (sym c.seat_of.ensures ∙ c.in-Some.is)

pub member_if-before-requires : goal.member_if-before-requires
member_if-before-requires g c x e =
    let b = predecessor_below _ _ c.args.set c.index-shape.result.now c.number_of_value.result c.in-Some.seat
    c.prev-earlier.result
    (case_of _ _ c.args.set c.index-shape.result.now c.self.view_is c.self.invariant.2 c.requires
    c.index-shape.ensures) (sym c.seat_of.ensures ∙ c.in-Some.is) c.prev-earlier.ensures.value x e in
    let is = ap (length {A = ℕ}) c.deref.ensures.value in omega (arith, b, is)

pub member_if-behind-requires : goal.member_if-behind-requires
member_if-behind-requires g c x e =
    let b = successor_below _ _ c.args.set c.index-shape.result.now c.number_of_value.result c.in-Some.seat
    c.next-later.result
    (case_of _ _ c.args.set c.index-shape.result.now c.self.view_is c.self.invariant.2 c.requires
    c.index-shape.ensures) (sym c.seat_of.ensures ∙ c.in-Some.is) c.next-later.ensures.value x e in
    let is = ap (length {A = ℕ}) c.deref-in-Some.ensures.value in omega (arith, b, is)

pub place-requires : goal.place-requires
place-requires g c = kept_seat _ _ c.args.set c.index-shape.result.now c.number_of_value.result c.in-Some.seat
    (case_of _ _ c.args.set c.index-shape.result.now c.self.view_is c.self.invariant.2 c.requires c.index-shape.ensures)
    (sym c.seat_of.ensures ∙ c.in-Some.is)

pub returns-in-None : goal.returns-in-None
returns-in-None g c = neighbours_none _ _ c.args.set c.index-shape.result.now c.number_of_value.result _
    (case_of _ _ c.args.set c.index-shape.result.now c.self.view_is c.self.invariant.2 c.requires c.index-shape.ensures)
    (sym c.seat_of.ensures ∙ c.in-None.is)
    (let fits : FitsSigned w64 c.args.member =
    search rules in c.number_of_value.ensures ∙ ap number_of (to_z-of_z w64 _ fits))

pub returns-in-Some : goal.returns-in-Some
returns-in-Some g c = neighbours_are _ _ c.args.set c.index-shape.result.now c.number_of_value.result _ c.in-Some.seat
    (record {
      before = c.member_if-before.result;
      behind = c.member_if-behind.result;
      is_filed = c.is_some-is_filed.result;
    })
    c.prev-earlier.result c.next-later.result c.place.result (case_of _ _ c.args.set c.index-shape.result.now
    c.self.view_is c.self.invariant.2 c.requires c.index-shape.ensures) (sym c.seat_of.ensures ∙ c.in-Some.is)
    (let fits : FitsSigned w64 c.args.member =
    search rules in c.number_of_value.ensures ∙ ap number_of (to_z-of_z w64 _ fits)) c.prev-earlier.ensures.value
    (c.member_if-before.ensures ∙ ap (λ z. option_map (number_at z) c.prev-earlier.result) c.deref.ensures.value)
    c.next-later.ensures.value (c.member_if-behind.ensures
    ∙ ap (λ z. option_map (number_at z) c.next-later.result) c.deref-in-Some.ensures.value) c.place.ensures.value
    c.is_some-is_filed.ensures
