use Rattle.std.proofs.Common.{◌≡◌, ℕ, ◌<◌, ◌≤◌, get_or, None, length}
use Rattle.ss_links.specs.Seats.{first_of}
use Rattle.ss_words.specs.declared.limits.TheConstants.{MOST_CLASSES}
use Rattle.ss_events.specs.Rules.{event_number}
use Rattle.ss_events.proofs.BoardOf.{class_seats}
use Rattle.ss_events.proofs.agenda.Agenda.listing.Given as goal

abbrev pub invariant-loop-class : goal.invariant-loop-class
invariant-loop-class g l = (length l.seats ≡ MOST_CLASSES) × (l.head ≡ event_number l.self.rules l.class) × ((c : ℕ) →
    c < l.class → get_or l.seats c None ≡ first_of (class_seats l.self c)) × ((c : ℕ) → l.class ≤ c →
    get_or l.seats c None ≡ None)
