-- WHY CAUSE and BACK CAUSE: their answers, and the state after BACK CAUSE.
use Rattle.std.specs.Prelude.{ℕ, zero, suc, List, [], ◌++◌, codes, decimal, Option, Some, None}
use Rattle.std.specs.Fmt.{signed_decimal}
use Rattle.ss_program.specs.Program.{ProgramTable, class_of}
use Rattle.ss_state.specs.Run.{Input}
use Rattle.ss_debug.specs.Move.{line_at}
use Rattle.ss_debug.specs.Answer.{state_line, movement_text, earliest_word}
use Rattle.ss_debug.specs.Turn.{DebuggerState, debugger_state_at}
use Rattle.ss_trace.specs.History.{change_line}
use Rattle.ss_causes.specs.declared.cause.Cause.{Cause}
use Rattle.ss_causes.specs.declared.cause.Cause.TheVariants.{Start, Called, Scheduled, NotKept}
use Rattle.ss_causes.specs.Causes.{cause_at}

-- ---- WHY CAUSE

-- its text before the line of the model: the state line of the step
abbrev pub cause_head : Input → Cause → List ℕ
cause_head input Start = codes "START\n"
cause_head input (Called q) = state_line input q
cause_head input (Scheduled q k slot) = state_line input q
cause_head input NotKept = codes "NOTHING KEPT\n"

-- the number of that line, if there is a step
abbrev pub cause_line : Input → Cause → Option ℕ
cause_line input Start = None
cause_line input (Called q) = Some (line_at input q)
cause_line input (Scheduled q k slot) = Some (line_at input q)
cause_line input NotKept = None

-- the time of notice k of class c, as it is asked for
unfoldable pub notice_name : ProgramTable → ℕ → ℕ → List ℕ
notice_name program c k = (class_of program c).name ++ codes " " ++ decimal k ++ codes " AT"

-- its text after that line: of an event, that its notice was made pending, and for when
abbrev pub cause_change : Input → Cause → List ℕ
cause_change input Start = []
cause_change input (Called q) = []
cause_change input (Scheduled q k slot) =
    change_line (codes "CHANGED") (notice_name input.program slot.class k) (codes "NONE") (signed_decimal slot.time)
cause_change input NotKept = []

-- ---- BACK CAUSE

-- where it goes: to the step; to the earliest kept state, if there is none
abbrev pub cause_end : ℕ → Cause → ℕ
cause_end earliest Start = earliest
cause_end earliest (Called q) = q
cause_end earliest (Scheduled q k slot) = q
cause_end earliest NotKept = earliest

-- its word
abbrev pub cause_word : ℕ → Cause → List ℕ
cause_word earliest Start = earliest_word earliest
cause_word earliest (Called q) = codes "CAUSE"
cause_word earliest (Scheduled q k slot) = codes "CAUSE"
cause_word earliest NotKept = codes "NOTHING KEPT"

-- what brought the last frame about in the state of a debugger
abbrev pub cause_in : Input → DebuggerState → Cause
cause_in input debugger = cause_at input debugger.earliest debugger.position

-- the state of the debugger after it
abbrev pub state_after_back_cause : Input → DebuggerState → DebuggerState
state_after_back_cause input debugger =
    debugger_state_at debugger (cause_end debugger.earliest (cause_in input debugger))

-- its answer
abbrev pub back_cause_answer : Input → DebuggerState → List ℕ
back_cause_answer input debugger =
    let cause : Cause = cause_in input debugger in
    movement_text (cause_word debugger.earliest cause) input (cause_end debugger.earliest cause)

-- the state of the debugger after it was given n times
abbrev pub state_after_back_causes : Input → ℕ → DebuggerState → DebuggerState
state_after_back_causes input zero debugger = debugger
state_after_back_causes input (suc n) debugger =
    state_after_back_causes input n (state_after_back_cause input debugger)
