-- The agenda's changes.
use Rattle.std.specs.Prelude.{◌≡◌, ℕ, ℤ, ◌+◌, ◌-◌, ◌<◌, ◌++◌, true, if◌then◌else◌, List, [], ◌∷◌, length, take}
use Rattle.std.specs.Prelude.{Some, Result}
use Rattle.ss_links.specs.Seats.{has}
use Rattle.ss_words.specs.declared.fault.RunFault.{RunFault}
use Rattle.ss_words.specs.declared.fault.StepFault.{StepFault}
use Rattle.ss_words.specs.Outcomes.{AnswersAs, AnswersOrRefusesAs}
use Rattle.ss_events.specs.declared.agenda.AgendaChange.{AgendaChange}
use Rattle.ss_events.specs.declared.agenda.AgendaChange.TheVariants.{Scheduled, TakenOff}
use Rattle.ss_events.specs.Agenda.{Pending, Agenda, pending_at, with_notice, without_notice, agenda_after_scheduling}
use Rattle.ss_events.specs.Agenda.{agenda_after_taking}
use Rattle.ss_events.specs.State.{AgendaState, Each, NoneNoted, NoneFiled, IsPending}
use Rattle.ss_events.specs.Places.{predecessor_of}
use Rattle.ss_events.specs.Views.{notice_of}

-- the state with other pending notices
abbrev pub with_pending : AgendaState → List Pending → AgendaState
with_pending agenda es = record agenda { agenda = record agenda.agenda { pending = es } }

-- the state with other seats
abbrev pub with_notices : AgendaState → List ℕ → AgendaState
with_notices agenda ns = record agenda { notices = ns }

-- the state with another next filing number
abbrev pub with_filing : AgendaState → ℕ → AgendaState
with_filing agenda k = record agenda { agenda = record agenda.agenda { next_filing = k } }

-- the notices of the seats, with a seat for this one
abbrev pub with_seat_for : List ℕ → ℕ → List ℕ
with_seat_for ns n = if has ns n then ns else ns ++ n ∷ []

-- a notice may become pending: neither it nor its filing number is in use, and the rest is kept for it
pub record CanPend (agenda : AgendaState) (e : Pending) : Type 0 where
  -- no pending notice has its reference
  pub notice : NoneNoted e.notice agenda.agenda.pending
  -- no pending notice has its filing number
  pub filing : NoneFiled e.filing agenda.agenda.pending
  -- its entry fits its class, and its seat is made
  pub kept : IsPending agenda.rules agenda.notices agenda.agenda.next_filing e

-- a notice has the last seat
pub record IsLastSeat (agenda : AgendaState) (n : ℕ) : Type 0 where
  -- the notices of the other seats
  pub others : List ℕ
  -- its seat is after theirs
  pub last : agenda.notices ≡ others ++ n ∷ []

-- the agenda before a scheduling: without the notice, and its filing number is the next again
abbrev pub agenda_before_scheduling : Agenda → ℕ → Agenda
agenda_before_scheduling agenda n =
    record { pending = without_notice n agenda.pending; next_filing = agenda.next_filing - 1 }

-- the agenda before a notice was taken off
abbrev pub agenda_before_taking : Agenda → Pending → Agenda
agenda_before_taking agenda notice = record agenda { pending = with_notice notice agenda.pending }

-- the state before a change
abbrev pub unapply : AgendaChange → AgendaState → AgendaState
unapply (Scheduled n made) agenda = record agenda {
  agenda = agenda_before_scheduling agenda.agenda n;
  notices = if made then take (length agenda.notices - 1) agenda.notices else agenda.notices;
}
unapply (TakenOff n x before) agenda = record agenda { agenda = agenda_before_taking agenda.agenda (notice_of n x) }

-- a notice is pending, and all others were filed before it
pub record IsNewest (agenda : AgendaState) (n : ℕ) : Type 0 where
  -- the notice, with its entry
  pub newest : Pending
  -- it is pending
  pub pending : pending_at agenda.agenda.pending n ≡ Some newest
  -- its filing number is 1 or more
  pub first : 0 < newest.filing
  -- its filing number was the last
  pub filing : newest.filing + 1 ≡ agenda.agenda.next_filing
  -- each other was filed before it
  pub others : Each (λ e. e.filing < newest.filing) (without_notice n agenda.agenda.pending)

-- a change fits a state: it can have been the last
abbrev pub Fits : AgendaChange → AgendaState → Type 0
Fits (Scheduled n made) agenda = (0 < n) × IsNewest agenda n × (made ≡ true → IsLastSeat agenda n)
Fits (TakenOff n x before) agenda =
    (0 < n) × CanPend agenda (notice_of n x) × (before ≡ predecessor_of agenda (notice_of n x))

-- the agenda went from one state to another by a change
pub record Went (change : AgendaChange) (agenda old new : AgendaState) : Type 0 where
  -- the state after the change
  pub state : new ≡ agenda
  -- the change fits it
  pub fits : Fits change new
  -- undoing the change gives the state before it
  pub back : unapply change new ≡ old

-- the state with a notice taken off
abbrev pub after_taking : AgendaState → ℕ → AgendaState
after_taking agenda n = record agenda { agenda = agenda_after_taking agenda.agenda n }

-- the state with a notice scheduled
abbrev pub after_scheduling : AgendaState → ℕ → ℤ → ℕ → List ℤ → AgendaState
after_scheduling agenda n time class keys = record agenda {
  agenda = agenda_after_scheduling agenda.agenda n time class keys;
  notices = with_seat_for agenda.notices n;
}

-- the result of a call that changes the agenda: the change by which it went to this state
abbrev pub GoesBy : AgendaState → AgendaChange → Unit {0} → AgendaState → AgendaState → Type 0
GoesBy agenda change _ old new = Went change agenda old new

-- the result of a scheduling: if allowed, its change or an error of missing memory, else the fault
abbrev pub IsScheduled : Result AgendaChange StepFault → Result (Unit {0}) RunFault
    → AgendaState → AgendaState → AgendaState → Type 0
IsScheduled result wanted agenda = AnswersOrRefusesAs (GoesBy agenda) result wanted

-- the result of CANCEL: the change if the notice is pending, else F11
abbrev pub IsCancelled : Result AgendaChange RunFault → Result (Unit {0}) RunFault
    → AgendaState → AgendaState → AgendaState → Type 0
IsCancelled result wanted agenda = AnswersAs (GoesBy agenda) result wanted
