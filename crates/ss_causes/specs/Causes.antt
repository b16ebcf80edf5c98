-- What brought the last frame of a state about: of a routine the CALL, of an event the step that last made its notice
-- pending.
use Rattle.std.specs.Prelude.{ℕ, ◌+◌, Bool, not, ◌&&◌, if◌then◌else◌, nat_eq, Option, Some, None}
use Rattle.ss_events.specs.Agenda.{Pending, is_pending, least}
use Rattle.ss_events.specs.Rules.{rules_of}
use Rattle.ss_events.specs.Slots.{slot_of}
use Rattle.ss_state.specs.Run.{Input, run}
use Rattle.ss_debug.specs.Move.{runs_event}
use Rattle.ss_trace.specs.History.{newest, positions_where}
use Rattle.ss_trace.specs.Movements.{frames_at, is_outside}
use Rattle.ss_causes.specs.declared.cause.Cause.{Cause}
use Rattle.ss_causes.specs.declared.cause.Cause.TheVariants.{Start, Called, Scheduled, NotKept}

-- the greatest position below p, from the earliest one on, at which a test holds, if there is one
abbrev pub newest_where : (ℕ → Bool) → ℕ → ℕ → Option ℕ
newest_where test earliest p = newest (positions_where test earliest p)

-- whether the last frame of state p is MAIN's, below which is none
abbrev pub is_in_main : Input → ℕ → Bool
is_in_main input p = nat_eq (frames_at input p) 1

-- the step that opened the last frame of state p, if it is kept: that from the newest state with fewer frames
abbrev pub opening : Input → ℕ → ℕ → Option ℕ
opening input earliest p = newest_where (is_outside input (frames_at input p)) earliest p

-- the notice whose event the step from state q starts: the first of those that are pending
abbrev pub notice_started : Input → ℕ → Option Pending
notice_started input q = least (rules_of input.program) (run input q).agenda.pending

-- whether the step from state q makes notice k pending
abbrev pub makes_pending : Input → ℕ → ℕ → Bool
makes_pending input k q = not (is_pending (run input q).agenda k) && is_pending (run input (q + 1)).agenda k

-- the step before state q that last made notice k pending, if it is kept
abbrev pub scheduling : Input → ℕ → ℕ → ℕ → Option ℕ
scheduling input k earliest q = newest_where (makes_pending input k) earliest q

-- the cause of the event of a notice, which this step made pending, if it is kept
abbrev pub cause_of_notice : Pending → Option ℕ → Cause
cause_of_notice notice None = NotKept
cause_of_notice notice (Some q) = Scheduled q notice.notice (slot_of notice)

-- the cause of the event that the step from state q started
abbrev pub cause_of_event : Input → ℕ → ℕ → Option Pending → Cause
cause_of_event input earliest q (Some notice) = cause_of_notice notice (scheduling input notice.notice earliest q)
-- never met: an event that starts has a notice
cause_of_event input earliest q None = NotKept

-- the cause of the last frame of state p, which this step opened, if it is kept
abbrev pub cause_of_frame : Input → ℕ → ℕ → Option ℕ → Cause
cause_of_frame input earliest p None = NotKept
cause_of_frame input earliest p (Some q) =
    if runs_event input (run input p) then cause_of_event input earliest q (notice_started input q) else Called q

-- what brought the last frame of state p about, if no step before the earliest state is kept
unfoldable pub cause_at : Input → ℕ → ℕ → Cause
cause_at input earliest p =
    if is_in_main input p then Start else cause_of_frame input earliest p (opening input earliest p)
