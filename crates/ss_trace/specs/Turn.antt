-- The effect of a movement on the state of the debugger, and its answer.
use Rattle.std.specs.Prelude.{ℕ, Bool, false, ◌&&◌, List, codes, if◌then◌else◌, nat_eq, ◌≡◌, ◌≤◌}
use Rattle.ss_state.specs.Run.{Input}
use Rattle.ss_debug.specs.BreakLines.{BreakPoint}
use Rattle.ss_debug.specs.declared.limits.TheConstants.{GREATEST_BOUND}
use Rattle.ss_debug.specs.Move.{is_ready_at, is_on_break, search_back_end}
use Rattle.ss_debug.specs.Answer.{movement_text, earliest_word, search_back_word}
use Rattle.ss_debug.specs.AfterRefusal.{IsPartOfMovement, IsStateAfterRefusedMovement}
use Rattle.ss_debug.specs.Turn as debugger
use Rattle.ss_debug.specs.Turn.{DebuggerState, debugger_state_at}
use Rattle.ss_trace.specs.declared.movement.Movement.{Movement}
use Rattle.ss_trace.specs.declared.movement.Movement.TheVariants.{RunChange, BackChange}
use Rattle.ss_trace.specs.declared.question.Question.{Question}
use Rattle.ss_trace.specs.Question.{changes_at}
use Rattle.ss_trace.specs.Movements.{Shape, debugger_shape, ahead, seek_back, over_by, back_over_by, shape_of}
use Rattle.ss_trace.specs.Movements.{CountedEnd, over, back_over}
use Rattle.ss_trace.specs.Movements.{ahead_end, is_met, is_met_back, has_changed}

-- the word of a movement forward from p to q: HALTED if the status isn't ready, its own word if it
-- met the state that it looks for, BREAK at a break line, else BOUND
abbrev pub forward_word : List ℕ → Input → List BreakPoint → Bool → ℕ → ℕ → List ℕ
forward_word word input breaks met p q =
    if is_ready_at input q then
    (if met then word else
    if is_met (is_on_break input breaks) p q then codes "BREAK" else codes "BOUND")
    else codes "HALTED"

-- that word, if it looks for a state at which a test holds
abbrev pub ahead_word : List ℕ → Input → List BreakPoint → (ℕ → Bool) → ℕ → ℕ → List ℕ
ahead_word word input breaks test p q = forward_word word input breaks (is_met test p q) p q

-- the word of OVER from p: HALTED if the status isn't ready, DONE if all parts were made, BREAK at
-- a break line, else BOUND
abbrev pub over_word : Input → List BreakPoint → ℕ → CountedEnd → List ℕ
over_word input breaks p end = forward_word (codes "DONE") input breaks (nat_eq end.left 0) p end.position

-- the word of BACK OVER: DONE if all were made, else as at the earliest kept position, else BOUND
abbrev pub back_over_word : ℕ → CountedEnd → List ℕ
back_over_word earliest end =
    if nat_eq end.left 0 then codes "DONE" else
    if nat_eq end.position earliest then earliest_word earliest else codes "BOUND"

-- the end of OVER
abbrev pub over_from : Input → DebuggerState → ℕ → CountedEnd
over_from input debugger k = over input debugger.breaks k debugger.position GREATEST_BOUND

-- the end of BACK OVER
abbrev pub back_over_from : Input → DebuggerState → ℕ → CountedEnd
back_over_from input debugger k = back_over input debugger.earliest k debugger.position GREATEST_BOUND

-- the position to which a movement of this shape leads
abbrev pub end_of : Input → DebuggerState → Shape → ℕ
end_of input d (debugger_shape shape) = debugger.end_of input d shape
end_of input debugger (ahead test word) = ahead_end input debugger.breaks test debugger.position GREATEST_BOUND
end_of input debugger (seek_back test word) = search_back_end test debugger.earliest debugger.position GREATEST_BOUND
end_of input debugger (over_by k) = (over_from input debugger k).position
end_of input debugger (back_over_by k) = (back_over_from input debugger k).position

-- the word of such a movement, if it leads to q
abbrev pub word_of : Input → DebuggerState → Shape → ℕ → List ℕ
word_of input d (debugger_shape shape) q = debugger.word_of input d shape q
word_of input debugger (ahead test word) q = ahead_word word input debugger.breaks test debugger.position q
word_of input debugger (seek_back test word) q = search_back_word test word debugger.earliest debugger.position q
word_of input debugger (over_by k) q = over_word input debugger.breaks debugger.position (over_from input debugger k)
word_of input debugger (back_over_by k) q = back_over_word debugger.earliest (back_over_from input debugger k)

-- the state of the debugger after it
abbrev pub state_after_shape : Input → DebuggerState → Shape → DebuggerState
state_after_shape input debugger shape = debugger_state_at debugger (end_of input debugger shape)

-- the answer to such a movement
abbrev pub shape_answer : Input → DebuggerState → Shape → List ℕ
shape_answer input debugger shape =
    let q = end_of input debugger shape in movement_text (word_of input debugger shape q) input q

-- a movement back to q of which some steps were made: all but the position is as before
abbrev pub IsPartOfMovementBack : DebuggerState → ℕ → DebuggerState → Type 0
IsPartOfMovementBack old q new =
    (new ≡ debugger_state_at old new.position) × (q ≤ new.position) × (new.position ≤ old.position)

-- after a refusal of memory: a movement forward was made in part, and so was one back that makes
-- answers; other movements back were made as a whole
abbrev pub IsAfterRefusedShape : Input → DebuggerState → Shape → DebuggerState → Type 0
IsAfterRefusedShape input old (debugger_shape shape) new = IsStateAfterRefusedMovement input old shape new
IsAfterRefusedShape input old (ahead test word) new = IsPartOfMovement old (end_of input old (ahead test word)) new
IsAfterRefusedShape input old (seek_back test word) new =
    IsPartOfMovementBack old (end_of input old (seek_back test word)) new
IsAfterRefusedShape input old (over_by k) new = IsPartOfMovement old (end_of input old (over_by k)) new
IsAfterRefusedShape input old (back_over_by k) new = new ≡ debugger_state_at old (end_of input old (back_over_by k))

-- ---- a movement

-- the state of the debugger after a movement
abbrev pub state_after : Input → DebuggerState → Movement → DebuggerState
state_after input debugger movement = state_after_shape input debugger (shape_of input debugger.position movement)

-- the answer to a movement
abbrev pub answer : Input → DebuggerState → Movement → List ℕ
answer input debugger movement = shape_answer input debugger (shape_of input debugger.position movement)

-- whether RUN CHANGE from p ended at a change, if it led to q: the run can go on, and the step to q changed it
abbrev pub run_ends_at_change : Input → Question → ℕ → ℕ → Bool
run_ends_at_change input question p q = is_ready_at input q && is_met (has_changed input question) p q

-- whether a movement ends at a change of its question
abbrev pub ends_at_change : Input → DebuggerState → Movement → Bool
ends_at_change input debugger (RunChange question) =
    run_ends_at_change input question debugger.position (state_after input debugger (RunChange question)).position
ends_at_change input debugger (BackChange question) =
    is_met_back (changes_at input question) debugger.position
    (state_after input debugger (BackChange question)).position
ends_at_change input debugger _ = false

-- the state in which a refusal of memory leaves the debugger
abbrev pub IsStateAfterRefusal : Input → DebuggerState → Movement → DebuggerState → Type 0
IsStateAfterRefusal input old movement new = IsAfterRefusedShape input old (shape_of input old.position movement) new
