use Rattle.std.proofs.Common.{rules, w64, FitsSigned, ap, sym, ◌∙◌, refl}
use Rattle.std.proofs.lemmas.Int.{to_z-of_z}
use Rattle.ss_store.specs.Tables.{set_of}
use Rattle.ss_store.specs.Store.{number_of}
use Rattle.ss_store.specs.Filing.{membership}
use Rattle.ss_store.proofs.Calls.{case_of, seat_small}
use Rattle.ss_store.proofs.KeptAttributes.{kept_seat, membership_none, membership_is}
use Rattle.ss_store.proofs.store.Store.membership.Goals as goal

pub seat_of-requires : goal.seat_of-requires
seat_of-requires g c = seat_small _ _ c.args.set c.index-shape.result.now _
    (case_of _ _ c.args.set c.index-shape.result.now c.self.view_is c.self.invariant.2 c.requires c.index-shape.ensures)
    refl c.known.ensures.seats c.number_of_value.result

pub returns-in-None : goal.returns-in-None
returns-in-None g c = membership_none _ _ c.args.set c.index-shape.result.now c.number_of_value.result
    (case_of _ _ c.args.set c.index-shape.result.now c.self.view_is c.self.invariant.2 c.requires c.index-shape.ensures)
    (sym c.seat_of.ensures ∙ c.in-None.is) ∙ ap
    (membership (set_of c.args.self.now.tables c.args.set) c.args.self.now.state)
    (let fits : FitsSigned w64 c.args.member =
    search rules in c.number_of_value.ensures ∙ ap number_of (to_z-of_z w64 _ fits))

pub place-requires : goal.place-requires
place-requires g c = kept_seat _ _ c.args.set c.index-shape.result.now c.number_of_value.result c.in-Some.seat
    (case_of _ _ c.args.set c.index-shape.result.now c.self.view_is c.self.invariant.2 c.requires c.index-shape.ensures)
    (sym c.seat_of.ensures ∙ c.in-Some.is)

pub returns-in-Some : goal.returns-in-Some
returns-in-Some g c = membership_is _ _ c.args.set c.index-shape.result.now c.number_of_value.result c.in-Some.seat
    c.place.result
    c.is_some.result (case_of _ _ c.args.set c.index-shape.result.now c.self.view_is c.self.invariant.2 c.requires
    c.index-shape.ensures) (sym c.seat_of.ensures ∙ c.in-Some.is) c.place.ensures.value c.is_some.ensures
    ∙ ap (membership (set_of c.args.self.now.tables c.args.set) c.args.self.now.state)
    (let fits : FitsSigned w64 c.args.member = search rules in
    c.number_of_value.ensures ∙ ap number_of (to_z-of_z w64 _ fits))
