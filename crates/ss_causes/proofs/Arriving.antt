-- BACK CAUSE, by the way to the cause: the state after it, and its answer.
use Rattle.std.proofs.Common.{◌≡◌, ℕ, List, refl}
use Rattle.ss_machine.specs.Moment.{position}
use Rattle.ss_debug.specs.Answer.{movement_text}
use Rattle.ss_debug.specs.View.{DebuggerView, debugger_state_of}
use Rattle.ss_trace.specs.View.{IsAt, HasLookedBack}
use Rattle.ss_causes.specs.declared.cause.Cause.{Cause}
use Rattle.ss_causes.specs.Causes.{cause_at}
use Rattle.ss_causes.specs.Turn.{cause_end, cause_word, state_after_back_cause, back_cause_answer}

-- the debugger after it
pub after_back_cause : (old mid new : DebuggerView) (cause : Cause) → HasLookedBack old mid →
    cause ≡ cause_at old.machine.input old.machine.forgotten (position old.machine) →
    IsAt mid (cause_end mid.machine.forgotten cause) new →
    debugger_state_of new ≡ state_after_back_cause old.machine.input (debugger_state_of old)
after_back_cause old mid new cause h e k =
    rw (k.position, k.forgotten, k.breaks, h.forgotten, h.breaks, e) refl

-- its answer
pub told_after : (old mid new : DebuggerView) (cause : Cause) (word : List ℕ) → HasLookedBack old mid →
    cause ≡ cause_at old.machine.input old.machine.forgotten (position old.machine) →
    IsAt mid (cause_end mid.machine.forgotten cause) new → word ≡ cause_word mid.machine.forgotten cause →
    movement_text word new.machine.input (position new.machine)
    ≡ back_cause_answer old.machine.input (debugger_state_of old)
told_after old mid new cause word h e k w = rw (w, k.position, k.input, h.input, h.forgotten, e) refl
