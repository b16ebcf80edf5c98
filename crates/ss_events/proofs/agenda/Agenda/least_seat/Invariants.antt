use Rattle.std.proofs.Common.{◌≡◌}
use Rattle.ss_events.specs.Rules.{event_number}
use Rattle.ss_events.specs.State.{order}
use Rattle.ss_events.proofs.Listings.{IsFirst}
use Rattle.ss_events.proofs.agenda.Agenda.least_seat.Given as goal

abbrev pub invariant-loop-class : goal.invariant-loop-class
invariant-loop-class g l = (l.list ≡ event_number l.self.rules l.class) × IsFirst l.self (order l.self) l.class l.least
