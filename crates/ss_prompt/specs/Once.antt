-- TBREAK: forward to a line, which is a break line for that once.
use Rattle.std.specs.Prelude.{ℕ, ◌≡◌, ◌⊎◌, Bool, true, false, List, [], ◌++◌, if◌then◌else◌}
use Rattle.ss_state.specs.Run.{Input}
use Rattle.ss_debug.specs.AfterRefusal.{IsStateAfterRefusal}
use Rattle.ss_debug.specs.BreakLines.{is_break_line}
use Rattle.ss_debug.specs.Turn.{DebuggerState, answer, debugger_state_after}
use Rattle.ss_debug.specs.declared.commands.Command.{Command}
use Rattle.ss_debug.specs.declared.commands.Command.TheVariants.{Move, Break, Clear}
use Rattle.ss_debug.specs.declared.commands.Movement.TheVariants.{Run}
use Rattle.ss_debug.specs.declared.limits.TheConstants.{GREATEST_BOUND}
use Rattle.ss_prompt.specs.PromptState.{PromptState, with_debugger, IsSameBeside}
use Rattle.ss_prompt.specs.Stops.{stop_text, IsStopRefused}

-- ---- after BREAK: RUN, and CLEAR of the line

-- RUN
abbrev pub run_on : Command
run_on = Move (Run GREATEST_BOUND)

-- the debugger after RUN
abbrev pub after_run : PromptState → DebuggerState
after_run state = debugger_state_after state.input state.debugger run_on

-- a debugger after a command, unless the line was a break line before TBREAK
abbrev pub after_unless : Input → DebuggerState → Command → Bool → DebuggerState
after_unless input debugger command true = debugger
after_unless input debugger command false = debugger_state_after input debugger command

-- the answer to the command then
abbrev pub said_unless : Input → DebuggerState → Command → Bool → List ℕ
said_unless input debugger command true = []
said_unless input debugger command false = answer input debugger command

-- the state at the stop
abbrev pub once_stop : PromptState → ℕ → Bool → PromptState
once_stop state line was = with_debugger state (after_unless state.input (after_run state) (Clear line) was)

-- the answer to RUN, and the text at its stop
abbrev pub once_stop_said : PromptState → ℕ → Bool → List ℕ
once_stop_said state line was =
    answer state.input state.debugger run_on ++ stop_text false (once_stop state line was)

-- if memory was refused: for RUN, for CLEAR, or for the text at the stop
unfoldable pub IsRunRefused : PromptState → ℕ → Bool → PromptState → Type 0
IsRunRefused state line was after =
    IsSameBeside state after
    × (IsStateAfterRefusal state.input state.debugger run_on after.debugger
    ⊎ ((after.debugger ≡ after_run state) ⊎ IsStopRefused (once_stop state line was) after))

-- ---- TBREAK

-- whether the line is a break line before TBREAK
abbrev pub was_taken : PromptState → ℕ → Bool
was_taken state line = is_break_line state.debugger.breaks line

-- the state after BREAK of the line, if it is no break line: one that is keeps its condition
abbrev pub once_set : PromptState → ℕ → PromptState
once_set state line =
    with_debugger state (after_unless state.input state.debugger (Break line) (was_taken state line))

-- whether the line is a break line then: BREAK takes 1,000 lines at most
abbrev pub is_taken : PromptState → ℕ → Bool
is_taken state line = is_break_line (once_set state line).debugger.breaks line

-- the debugger after TBREAK; if BREAK does not take the line, after BREAK only
abbrev pub once_left : PromptState → ℕ → DebuggerState
once_left state line =
    if is_taken state line then (once_stop (once_set state line) line (was_taken state line)).debugger
    else (once_set state line).debugger

-- the state after TBREAK
abbrev pub once_next : PromptState → ℕ → PromptState
once_next state line = with_debugger state (once_left state line)

-- the answer to TBREAK: that of RUN with the text at its stop, or that of BREAK
abbrev pub once_said : PromptState → ℕ → List ℕ
once_said state line =
    if is_taken state line then once_stop_said (once_set state line) line (was_taken state line)
    else said_unless state.input state.debugger (Break line) (was_taken state line)

-- if memory was refused: for BREAK, after it, or after it took the line
unfoldable pub IsOnceRefused : PromptState → ℕ → PromptState → Type 0
IsOnceRefused state line after =
    IsSameBeside state after
    × ((after.debugger ≡ state.debugger)
    ⊎ ((after.debugger ≡ (once_set state line).debugger)
    ⊎ IsRunRefused (once_set state line) line (was_taken state line) after))
