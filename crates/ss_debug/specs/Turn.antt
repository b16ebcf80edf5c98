-- One turn of the debugger, and all turns of a session.
use Rattle.std.specs.Prelude.{ℕ, ◌-◌, Bool, true, false, List, [], ◌∷◌, ◌++◌, codes, Some, if◌then◌else◌}
use Rattle.ss_state.specs.Run.{Input}
use Rattle.ss_debug.specs.declared.commands.Command.{Command}
use Rattle.ss_debug.specs.declared.commands.Command.TheVariants.{Blank, Bad, Move, Break, Clear, Forget, Show, Quit}
use Rattle.ss_debug.specs.declared.commands.Question.{Question}
use Rattle.ss_debug.specs.declared.commands.Question.TheVariants.{Clock, Where, Variable, Entity, Set}
use Rattle.ss_debug.specs.declared.commands.Question.TheVariants.{Events, Taken, Entry, Report}
use Rattle.ss_debug.specs.declared.limits.TheConstants.{GREATEST_BOUND}
use Rattle.ss_debug.specs.declared.go.Go.{Go}
use Rattle.ss_debug.specs.declared.go.Go.TheVariants as go
use Rattle.ss_debug.specs.Command.{command_of}
use Rattle.ss_debug.specs.BreakCondition.{BreakCondition}
use Rattle.ss_debug.specs.BreakLines.{BreakPoint, breaks_with, breaks_after_set, without_break}
use Rattle.ss_debug.specs.Move.{MovementShape, forward, back, search_back, shape_of}
use Rattle.ss_debug.specs.Move.{forward_end, back_end, search_back_end}
use Rattle.ss_debug.specs.Answer.{movement_text, forward_word, back_word, search_back_word}
use Rattle.ss_debug.specs.Answer.{break_text, clear_text, kept_text}
use Rattle.ss_debug.specs.Entities.{entity_text, set_text}
use Rattle.ss_debug.specs.Answer.{clock_text, state_line, var_text, events_text, taken_text, entry_text, report_text}

-- the state of the debugger
pub record DebuggerState : Type 0 where
  -- a position of the run
  pub position : ℕ
  -- the earliest one that is kept
  pub earliest : ℕ
  -- the break lines
  pub breaks : List BreakPoint

-- at the start, without break lines
abbrev pub initial_debugger_state : DebuggerState
initial_debugger_state = record { position = 0; earliest = 0; breaks = [] }

-- the same debugger, at another position
abbrev pub debugger_state_at : DebuggerState → ℕ → DebuggerState
debugger_state_at debugger p = record { position = p; earliest = debugger.earliest; breaks = debugger.breaks }

-- the position to which a movement of this shape leads
abbrev pub end_of : Input → DebuggerState → MovementShape → ℕ
end_of input debugger (forward condition n) = forward_end input condition debugger.position n
end_of input debugger (back n) = back_end debugger.earliest debugger.position n
end_of input debugger (search_back test word) = search_back_end test debugger.earliest debugger.position GREATEST_BOUND

-- the word of such a movement, if it leads to q
abbrev pub word_of : Input → DebuggerState → MovementShape → ℕ → List ℕ
word_of input debugger (forward condition n) q = forward_word input condition debugger.position n q
word_of input debugger (back n) q = back_word debugger.earliest debugger.position n
word_of input debugger (search_back test word) q = search_back_word test word debugger.earliest debugger.position q

-- the state of the debugger after it
abbrev pub debugger_state_after_movement : Input → DebuggerState → MovementShape → DebuggerState
debugger_state_after_movement input debugger shape = debugger_state_at debugger (end_of input debugger shape)

-- the answer to a movement
abbrev pub movement_answer : Input → DebuggerState → MovementShape → List ℕ
movement_answer input debugger shape =
    let q = end_of input debugger shape in movement_text (word_of input debugger shape q) input q

-- the same debugger, with other break lines
abbrev pub debugger_state_with : DebuggerState → List BreakPoint → DebuggerState
debugger_state_with debugger breaks =
    record { position = debugger.position; earliest = debugger.earliest; breaks = breaks }

-- the same debugger, with nothing kept before the position to which BACK n goes
abbrev pub debugger_state_after_forget : DebuggerState → ℕ → DebuggerState
debugger_state_after_forget debugger n =
    record {
      position = debugger.position;
      earliest = back_end debugger.earliest debugger.position n;
      breaks = debugger.breaks;
    }

-- the state of the debugger after a command
unfoldable pub debugger_state_after : Input → DebuggerState → Command → DebuggerState
debugger_state_after input debugger (Move m) =
    debugger_state_after_movement input debugger (shape_of input debugger.breaks m)
debugger_state_after input debugger (Break line) = debugger_state_with debugger (breaks_after_set debugger.breaks line)
debugger_state_after input debugger (Clear line) = debugger_state_with debugger (without_break line debugger.breaks)
debugger_state_after input debugger (Forget n) = debugger_state_after_forget debugger n
debugger_state_after input debugger _ = debugger

-- the state of the debugger after a line is made a break line with a condition
abbrev pub debugger_state_after_when : DebuggerState → ℕ → BreakCondition → DebuggerState
debugger_state_after_when debugger line c = debugger_state_with debugger (breaks_with debugger.breaks line (Some c))

-- the answer to FORGET
abbrev pub forget_answer : DebuggerState → ℕ → List ℕ
forget_answer debugger n = kept_text (debugger.position - (debugger_state_after_forget debugger n).earliest)

-- the answer to SHOW in state p
abbrev pub show_answer : Input → ℕ → Question → List ℕ
show_answer input p Clock = clock_text input p
show_answer input p Where = state_line input p
show_answer input p (Variable name) = var_text name input p
show_answer input p (Entity name x) = entity_text name x input p
show_answer input p (Set name owner) = set_text name owner input p
show_answer input p Events = events_text input p
show_answer input p Taken = taken_text input p
show_answer input p Entry = entry_text input p
show_answer input p Report = report_text input p

-- the answer to a command
unfoldable pub answer : Input → DebuggerState → Command → List ℕ
answer input debugger Blank = []
answer input debugger Bad = codes "BAD COMMAND\n"
answer input debugger (Move m) = movement_answer input debugger (shape_of input debugger.breaks m)
answer input debugger (Break line) = break_text debugger.breaks line
answer input debugger (Clear line) = clear_text debugger.breaks line
answer input debugger (Forget n) = forget_answer debugger n
answer input debugger (Show q) = show_answer input debugger.position q
answer input debugger Quit = []

-- whether a command gives no answer
abbrev pub is_silent : Command → Bool
is_silent Blank = true
is_silent Quit = true
is_silent _ = false

-- whether a command ends the session
abbrev pub is_quit : Command → Bool
is_quit Quit = true
is_quit _ = false

-- whether the session goes on after a command: only QUIT ends it
abbrev pub go_of : Command → Go
go_of Quit = go.Quit
go_of _ = go.On

-- the lines that are obeyed: those up to the first QUIT
abbrev pub obeyed_lines : List (List ℕ) → List (List ℕ)
obeyed_lines [] = []
obeyed_lines (line ∷ lines) = line ∷ (if is_quit (command_of line) then [] else obeyed_lines lines)

-- the state of the debugger after some lines
unfoldable pub debugger_state_after_lines : Input → DebuggerState → List (List ℕ) → DebuggerState
debugger_state_after_lines input debugger [] = debugger
debugger_state_after_lines input debugger (line ∷ lines) =
    debugger_state_after_lines input (debugger_state_after input debugger (command_of line)) lines

-- the whole answers to some lines
unfoldable pub answers : Input → DebuggerState → List (List ℕ) → List ℕ
answers input debugger [] = []
answers input debugger (line ∷ lines) =
    answer input debugger (command_of line)
    ++ answers input (debugger_state_after input debugger (command_of line)) lines
