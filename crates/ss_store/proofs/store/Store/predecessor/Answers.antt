use Rattle.std.proofs.Common.{rules, w64, FitsSigned, ap, sym, ◌∙◌, length, arith, ℕ, refl}
use Rattle.std.specs.Option.{option_map}
use Rattle.std.proofs.lemmas.Int.{to_z-of_z}
use Rattle.ss_store.specs.Tables.{set_of}
use Rattle.ss_store.specs.Store.{number_of}
use Rattle.ss_store.specs.Filing.{predecessor}
use Rattle.ss_store.specs.Parts.{number_at}
use Rattle.ss_store.proofs.Calls.{case_of, seat_small}
use Rattle.ss_store.proofs.KeptAttributes.{kept_seat, predecessor_none, predecessor_is, predecessor_below}
use Rattle.ss_store.proofs.store.Store.predecessor.Goals as goal

pub seat_of-requires : goal.seat_of-requires
seat_of-requires g c = seat_small _ _ c.args.set c.index-shape.result.now _
    (case_of _ _ c.args.set c.index-shape.result.now c.self.view_is c.self.invariant.2 c.requires c.index-shape.ensures)
    refl c.known.ensures.seats c.number_of_value.result

pub returns-in-None : goal.returns-in-None
returns-in-None g c = predecessor_none _ _ c.args.set c.index-shape.result.now c.number_of_value.result
    (case_of _ _ c.args.set c.index-shape.result.now c.self.view_is c.self.invariant.2 c.requires c.index-shape.ensures)
    (sym c.seat_of.ensures ∙ c.in-None.is) ∙ ap
    (predecessor (set_of c.args.self.now.tables c.args.set) c.args.self.now.state)
    (let fits : FitsSigned w64 c.args.member =
    search rules in c.number_of_value.ensures ∙ ap number_of (to_z-of_z w64 _ fits))

pub prev-earlier-requires : goal.prev-earlier-requires
prev-earlier-requires g c = kept_seat _ _ c.args.set c.index-shape.result.now c.number_of_value.result c.in-Some.seat
    (case_of _ _ c.args.set c.index-shape.result.now c.self.view_is c.self.invariant.2 c.requires c.index-shape.ensures)
    (sym c.seat_of.ensures ∙ c.in-Some.is)

pub member_if-requires : goal.member_if-requires
member_if-requires g c x e =
    let b = predecessor_below _ _ c.args.set c.index-shape.result.now c.number_of_value.result c.in-Some.seat
    c.prev-earlier.result
    (case_of _ _ c.args.set c.index-shape.result.now c.self.view_is c.self.invariant.2 c.requires
    c.index-shape.ensures) (sym c.seat_of.ensures ∙ c.in-Some.is) c.prev-earlier.ensures.value x e in
    let is = ap (length {A = ℕ}) c.deref.ensures.value in omega (arith, b, is)

pub returns-in-Some : goal.returns-in-Some
returns-in-Some g c = predecessor_is _ _ c.args.set c.index-shape.result.now c.number_of_value.result c.in-Some.seat
    c.prev-earlier.result c.member_if.result (case_of _ _ c.args.set c.index-shape.result.now c.self.view_is
    c.self.invariant.2 c.requires c.index-shape.ensures) (sym c.seat_of.ensures
    ∙ c.in-Some.is) c.prev-earlier.ensures.value (c.member_if.ensures
    ∙ ap (λ z. option_map (number_at z) c.prev-earlier.result) c.deref.ensures.value)
    ∙ ap (predecessor (set_of c.args.self.now.tables c.args.set) c.args.self.now.state)
    (let fits : FitsSigned w64 c.args.member = search rules in
    c.number_of_value.ensures ∙ ap number_of (to_z-of_z w64 _ fits))
