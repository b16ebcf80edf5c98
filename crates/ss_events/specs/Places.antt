-- The place of a notice on the board.
use Rattle.std.specs.Prelude.{ℕ, ◌<◌, if◌then◌else◌, Bool, List, [], ◌∷◌, length, slice_index, Option, Some, None}
use Rattle.std.specs.Prelude.{unwrap_or}
use Rattle.std.specs.Option.{IsSome, option_map}
use Rattle.ss_links.specs.Seats.{last_of}
use Rattle.ss_links.specs.declared.board.Place.{Place}
use Rattle.ss_events.specs.Agenda.{Pending, pending_at, is_before, of_class}
use Rattle.ss_events.specs.Rules.{event_number}
use Rattle.ss_events.specs.State.{AgendaState, seats_of, order}

-- the notices that a notice doesn't come before, up to the first that it comes before
abbrev pub notices_passed : (Pending → Pending → Bool) → Pending → List Pending → List Pending
notices_passed lt notice [] = []
notices_passed lt notice (f ∷ fs) = if lt notice f then [] else f ∷ notices_passed lt notice fs

-- the place of a notice: in its class's list, after those that it doesn't come before
abbrev pub rank_place : AgendaState → Pending → Place
rank_place agenda notice = record {
  head = event_number agenda.rules notice.class;
  before = last_of (seats_of agenda.notices
      (notices_passed (is_before agenda.rules) notice (of_class notice.class (order agenda))));
}

-- the last of a list
abbrev pub last : List Pending → Option Pending
last [] = None
last (e ∷ es) = Some (unwrap_or (last es) e)

-- the notice of its class directly before a notice's place, or none if the place is before all
abbrev pub predecessor_of : AgendaState → Pending → Option ℕ
predecessor_of agenda notice = option_map (λ f. f.notice)
    (last (notices_passed (is_before agenda.rules) notice (of_class notice.class (order agenda))))

-- the notice of a seat
abbrev pub notice_on : AgendaState → ℕ → ℕ
notice_on agenda seat = slice_index agenda.notices seat

-- a seat whose notice is pending
pub record IsTaken (agenda : AgendaState) (seat : ℕ) : Type 0 where
  -- there is such a seat
  pub made : seat < length agenda.notices
  -- its notice is pending
  pub pending : IsSome (pending_at agenda.agenda.pending (notice_on agenda seat))

-- the first of perhaps one notice and perhaps another
abbrev pub earlier : (Pending → Pending → Bool) → Option Pending → Option Pending → Option Pending
earlier lt None o = o
earlier lt (Some e) None = Some e
earlier lt (Some e) (Some f) = if lt f e then Some f else Some e

-- the pending notice of a seat, if there is a seat
abbrev pub pending_on : AgendaState → Option ℕ → Option Pending
pending_on agenda None = None
pending_on agenda (Some seat) = pending_at agenda.agenda.pending (notice_on agenda seat)

-- a seat, if there is one, whose notice is pending
abbrev pub IsTakenIfSome : AgendaState → Option ℕ → Type 0
IsTakenIfSome agenda None = Unit {0}
IsTakenIfSome agenda (Some seat) = IsTaken agenda seat

-- the first of a list
abbrev pub first : List Pending → Option Pending
first [] = None
first (e ∷ _) = Some e
