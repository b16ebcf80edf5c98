use Rattle.std.proofs.Common.{◌∙◌, sym, arith, refl}
use Rattle.ss_events.proofs.EventLaws.{event-below}
use Rattle.ss_events.proofs.Stands.{kept, entry-pending}
use Rattle.ss_events.proofs.Listings.{few-listed, listing-on}
use Rattle.ss_events.proofs.agenda.Agenda.list_next.Goals as goal

pub offset_bounds-listing-class : goal.offset_bounds-listing-class
offset_bounds-listing-class g c =
    let k = kept _ _ _ _ c.self.view_is c.self.invariant.0 in
    let entry = entry-pending _ _ _ _ c.entry_on.result.now k c.entry_on.ensures in
    omega (arith, event-below c.args.self.now.rules c.entry_on.result.now.class entry.0, k.classes)

pub bounds-listing-class : goal.bounds-listing-class
bounds-listing-class g c =
    let k = kept _ _ _ _ c.self.view_is c.self.invariant.0 in
    let entry = entry-pending _ _ _ _ c.entry_on.result.now k c.entry_on.ensures in
    omega (arith, event-below c.args.self.now.rules c.entry_on.result.now.class entry.0, k.classes)

pub overflow_add-listing : goal.overflow_add-listing
overflow_add-listing g c =
    let k = kept _ _ _ _ c.self.view_is c.self.invariant.0 in
    let here = sym c.in_ok-seat.ensures.notice ∙ c.entry_on.ensures in
    omega (arith, few-listed _ _ _ _ _ k here)

pub returns-clause-listing : goal.returns-clause-listing
returns-clause-listing g c =
    let k = kept _ _ _ _ c.self.view_is c.self.invariant.0 in
    let entry = entry-pending _ _ _ _ c.entry_on.result.now k c.entry_on.ensures in
    let here = sym c.in_ok-seat.ensures.notice ∙ c.entry_on.ensures in
    listing-on _ _ _ c.args.listing.now c.in_ok-seat.seat c.entry_on.result.now c.next.result _ _ k c.requires
    c.in_ok-seat.ensures.taken.made c.entry_on.ensures here c.next.ensures.value entry.0 refl refl
