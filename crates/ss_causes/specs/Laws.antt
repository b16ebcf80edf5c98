-- Laws on causes: each is earlier and kept, and BACK CAUSE, given again and again, ends at the start.
use Rattle.std.specs.Prelude.{ℕ, ◌+◌, ◌≡◌, ◌<◌, ◌≤◌, true}
use Rattle.ss_events.specs.declared.agenda.Slot.{Slot}
use Rattle.ss_state.specs.Run.{Input}
use Rattle.ss_debug.specs.Turn.{DebuggerState}
use Rattle.ss_causes.specs.declared.cause.Cause.{Cause}
use Rattle.ss_causes.specs.declared.cause.Cause.TheVariants.{Start, Called, Scheduled, NotKept}
use Rattle.ss_causes.specs.Causes.{cause_at, makes_pending}
use Rattle.ss_causes.specs.Turn.{state_after_back_cause, state_after_back_causes}

-- the step of a cause, if it has one, is before state p, and is kept
abbrev pub IsEarlier : ℕ → ℕ → Cause → Type 0
IsEarlier earliest p Start = Unit {0}
IsEarlier earliest p (Called q) = (earliest ≤ q) × (q < p)
IsEarlier earliest p (Scheduled q k slot) = (earliest ≤ q) × (q < p)
IsEarlier earliest p NotKept = Unit {0}

-- each cause is before its state, and kept
abbrev pub CausesAreEarlier : Type 0
CausesAreEarlier = (t : Input) (earliest p : ℕ) → IsEarlier earliest p (cause_at t earliest p)

-- the cause of an event made its notice pending
abbrev pub CausesMakePending : Type 0
CausesMakePending =
    (t : Input) (earliest p q k : ℕ) (slot : Slot) → cause_at t earliest p ≡ Scheduled q k slot →
    makes_pending t k q ≡ true

-- BACK CAUSE goes back, but at the earliest kept state
abbrev pub BackCauseGoesBack : Type 0
BackCauseGoesBack =
    (t : Input) (d : DebuggerState) → d.earliest < d.position → (state_after_back_cause t d).position < d.position

-- given again and again, it ends at the earliest kept state
abbrev pub BackCausesEnd : Type 0
BackCausesEnd =
    (t : Input) (n : ℕ) (d : DebuggerState) → d.earliest ≤ d.position → d.position ≤ d.earliest + n →
    (state_after_back_causes t n d).position ≡ d.earliest

-- if all steps are kept that is state 0, whose cause is the start
abbrev pub StartHasNoCause : Type 0
StartHasNoCause = (t : Input) → cause_at t 0 0 ≡ Start
