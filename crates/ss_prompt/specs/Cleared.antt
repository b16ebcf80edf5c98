-- CLEAR without a line: CLEAR of each break line.
use Rattle.std.specs.Prelude.{ℕ, ◌≡◌, ◌⊎◌, List, [], ◌∷◌, ◌++◌, length, codes, decimal}
use Rattle.ss_state.specs.Run.{Input}
use Rattle.ss_debug.specs.BreakLines.{break_lines}
use Rattle.ss_debug.specs.Turn.{DebuggerState, debugger_state_after}
use Rattle.ss_debug.specs.declared.commands.Command.TheVariants.{Clear}
use Rattle.ss_prompt.specs.PromptState.{PromptState, with_debugger, IsSameBeside}
use Rattle.ss_prompt.specs.Sections.{command_on}

-- how many break lines were cleared
abbrev pub cleared_text : List ℕ → List ℕ
cleared_text breaks = codes "BREAKS CLEARED: " ++ decimal (length breaks) ++ 10 ∷ []

-- the debugger after CLEAR of some lines, one after the other
abbrev pub after_clear : Input → DebuggerState → List ℕ → DebuggerState
after_clear input debugger [] = debugger
after_clear input debugger (line ∷ lines) =
    after_clear input (debugger_state_after input debugger (command_on Clear line)) lines

-- the answer to CLEAR without a line
abbrev pub clear_all_said : PromptState → List ℕ
clear_all_said state = cleared_text (break_lines state.debugger.breaks)

-- the state after it
abbrev pub clear_all_next : PromptState → PromptState
clear_all_next state = with_debugger state (after_clear state.input state.debugger (break_lines state.debugger.breaks))

-- the debugger after CLEAR of the first lines of some, or of none of them
unfoldable pub IsPartCleared : Input → DebuggerState → List ℕ → DebuggerState → Type 0
IsPartCleared input debugger [] after = after ≡ debugger
IsPartCleared input debugger (line ∷ lines) after =
    (after ≡ debugger)
    ⊎ IsPartCleared input (debugger_state_after input debugger (command_on Clear line)) lines after

-- if memory was refused, the first break lines are perhaps cleared
unfoldable pub IsClearRefused : PromptState → PromptState → Type 0
IsClearRefused state after =
    IsSameBeside state after
    × IsPartCleared state.input state.debugger (break_lines state.debugger.breaks) after.debugger
