-- The movements to a state at which a test holds: RUN UNTIL, BACK UNTIL and GO FIRST.
use Rattle.std.specs.Prelude.{ℕ, ◌+◌, ◌-◌, Bool, not, ◌||◌, List, codes, if◌then◌else◌}
use Rattle.ss_state.specs.declared.limits.TheConstants.{LAST_POSITION}
use Rattle.ss_state.specs.Run.{Input}
use Rattle.ss_debug.specs.Move.{is_ready_at, least}
use Rattle.ss_debug.specs.Answer.{movement_text}
use Rattle.ss_debug.specs.AfterRefusal.{IsPartOfMovement}
use Rattle.ss_debug.specs.Turn.{DebuggerState, debugger_state_at}
use Rattle.ss_trace.specs.Movements.{Shape, ahead, seek_back}

-- RUN UNTIL: forward to such a state, or to a break line
abbrev pub run_until : (ℕ → Bool) → Shape
run_until test = ahead test (codes "UNTIL")

-- BACK UNTIL: back to such a state
abbrev pub back_until : (ℕ → Bool) → Shape
back_until test = seek_back test (codes "UNTIL")

-- ---- GO FIRST

-- GO FIRST ends at state q if the test holds there, or if the status isn't ready
abbrev pub is_first_stop : Input → (ℕ → Bool) → ℕ → Bool
is_first_stop input test q = not (is_ready_at input q) || test q

-- the least such position from p on, not past the last one
abbrev pub first_end : Input → (ℕ → Bool) → ℕ → ℕ
first_end input test p = p + least (λ k. is_first_stop input test (p + k)) (LAST_POSITION - p)

-- its word at q: HALTED if the status isn't ready, UNTIL if the test holds, else BOUND
abbrev pub first_word : Input → (ℕ → Bool) → ℕ → List ℕ
first_word input test q =
    if is_ready_at input q then (if test q then codes "UNTIL" else codes "BOUND") else codes "HALTED"

-- the state of the debugger after it: it looks from the earliest kept position on
abbrev pub state_after_first : Input → DebuggerState → (ℕ → Bool) → DebuggerState
state_after_first input debugger test = debugger_state_at debugger (first_end input test debugger.earliest)

-- its answer
abbrev pub first_answer : Input → DebuggerState → (ℕ → Bool) → List ℕ
first_answer input debugger test =
    let q = first_end input test debugger.earliest in movement_text (first_word input test q) input q

-- after a refusal of memory: the way back was made as a whole, and the way forward from there in part
abbrev pub IsAfterRefusedFirst : Input → DebuggerState → (ℕ → Bool) → DebuggerState → Type 0
IsAfterRefusedFirst input old test new =
    IsPartOfMovement (debugger_state_at old old.earliest) (first_end input test old.earliest) new
