-- BREAK with a condition: a break line that stops only in the states in which it holds.
use Rattle.std.specs.Prelude.{ℕ, Bool, List, codes, Option, Some, None, if◌then◌else◌, nat_le}
use Rattle.ss_check.specs.Symbols.{Symbols}
use Rattle.ss_debug.specs.Answer.{break_when_text}
use Rattle.ss_debug.specs.BreakLines.{BreakPoint}
use Rattle.ss_debug.specs.Turn.{DebuggerState, debugger_state_after_when}
use Rattle.ss_debug.specs.declared.limits.TheConstants.{GREATEST_LINE}
use Rattle.ss_expressions.specs.Aims.{Aim, Aimed, aimed, refused, aim_asked}
use Rattle.ss_expressions.specs.BreakAims.{break_condition}
use Rattle.ss_prompt.specs.Advice.{unread_text}
use Rattle.ss_prompt.specs.BreakPlaces.{point_at, break_word}
use Rattle.ss_prompt.specs.PromptState.{PromptState, with_debugger}
use Rattle.ss_prompt.specs.Sections.{no_section}
use Rattle.ss_prompt.specs.declared.break_place.BreakPlace.{BreakPlace}
use Rattle.ss_prompt.specs.declared.break_place.BreakPlace.TheVariants.{Line, Section}
use Rattle.ss_prompt.specs.declared.break_place.BreakSpot.{BreakSpot}

-- ---- a condition that has a meaning

-- the debugger after a line is made a break line with an aim of this text, if BREAK takes the line
abbrev pub when_set : DebuggerState → ℕ → Aim → List ℕ → DebuggerState
when_set debugger line aim text =
    if nat_le line GREATEST_LINE then debugger_state_after_when debugger line (break_condition aim text) else debugger

-- the answer
abbrev pub when_set_said : List BreakPoint → ℕ → List ℕ → List ℕ
when_set_said breaks line text =
    if nat_le line GREATEST_LINE then break_when_text breaks line text else codes "BAD COMMAND\n"

-- ---- the command

-- the aim in a section by a symbol table, if one is kept and the text is a condition
abbrev pub aim_on : ℕ → List ℕ → Option Symbols → Option Aimed
aim_on section text None = None
aim_on section text (Some symbols) = aim_asked symbols section text

-- the debugger after the command at a line for what its text is
abbrev pub when_led : DebuggerState → ℕ → List ℕ → Option Aimed → DebuggerState
when_led debugger line text None = debugger
when_led debugger line text (Some (aimed aim)) = when_set debugger line aim text
when_led debugger line text (Some (refused answer)) = debugger

-- the answer to it; if the text is no condition, that it is no command
abbrev pub when_answered : List BreakPoint → ℕ → List ℕ → Bool → Option Aimed → List ℕ
when_answered breaks line text numbered None = unread_text break_word numbered
when_answered breaks line text numbered (Some (aimed aim)) = when_set_said breaks line text
when_answered breaks line text numbered (Some (refused answer)) = answer

-- the debugger after the command at a point, if there is one
abbrev pub when_left : PromptState → List ℕ → Option BreakSpot → DebuggerState
when_left state text None = state.debugger
when_left state text (Some point) =
    when_led state.debugger point.line text (aim_on point.section text state.symbols)

-- the answer at the point of a place, or that there is no such section
abbrev pub when_said_at : PromptState → BreakPlace → List ℕ → Bool → Option BreakSpot → List ℕ
when_said_at state place text numbered (Some point) =
    when_answered state.debugger.breaks point.line text numbered (aim_on point.section text state.symbols)
when_said_at state (Section name) text numbered None = no_section name
when_said_at state (Line line) text numbered None = codes "BAD COMMAND\n"

-- the state after the command
abbrev pub when_next : PromptState → BreakPlace → List ℕ → PromptState
when_next state place text = with_debugger state (when_left state text (point_at state.input.program place))

-- the answer to the command
abbrev pub when_said : PromptState → BreakPlace → List ℕ → Bool → List ℕ
when_said state place text numbered =
    when_said_at state place text numbered (point_at state.input.program place)
