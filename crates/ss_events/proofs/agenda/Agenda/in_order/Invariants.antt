use Rattle.std.proofs.Common.{◌≡◌}
use Rattle.ss_events.specs.Listings.{IsListing}
use Rattle.ss_events.proofs.agenda.Agenda.in_order.Given as goal

abbrev pub invariant-loop : goal.invariant-loop
invariant-loop g l = IsListing l.self l.listing × (l.listing.listed ≡ l.counter)
