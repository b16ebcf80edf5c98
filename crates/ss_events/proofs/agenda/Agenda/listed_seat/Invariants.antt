use Rattle.ss_events.specs.Listings.{left_of}
use Rattle.ss_events.proofs.Listings.{IsFirst}
use Rattle.ss_events.proofs.agenda.Agenda.listed_seat.Given as goal

abbrev pub invariant-loop-class : goal.invariant-loop-class
invariant-loop-class g l = IsFirst l.self (left_of l.self l.listing) l.class l.least
