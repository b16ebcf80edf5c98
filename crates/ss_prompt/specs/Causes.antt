-- WHY CAUSE and BACK CAUSE: the answers, and the states after them.
use Rattle.std.specs.Prelude.{ℕ, true, List, ◌++◌}
use Rattle.ss_causes.specs.declared.cause.Cause.{Cause}
use Rattle.ss_causes.specs.Turn.{cause_in, cause_head, cause_line, cause_change}
use Rattle.ss_causes.specs.Turn.{state_after_back_cause, back_cause_answer}
use Rattle.ss_prompt.specs.Histories.{why_source, HasLookedBack}
use Rattle.ss_prompt.specs.PromptState.{PromptState, with_debugger}
use Rattle.ss_prompt.specs.Stops.{stop_text, IsStopRefused}
use Rattle.ss_prompt.specs.declared.causes.CauseCommand.{CauseCommand}
use Rattle.ss_prompt.specs.declared.causes.CauseCommand.TheVariants.{Why, Back}

-- ---- WHY CAUSE

-- the text on a cause: its state line, its line of the model, and of an event that its notice was made pending
abbrev pub cause_text : PromptState → Cause → List ℕ
cause_text state cause =
    cause_head state.input cause ++ why_source state.lines (cause_line state.input cause)
    ++ cause_change state.input cause

-- the answer to it
abbrev pub why_cause_said : PromptState → List ℕ
why_cause_said state = cause_text state (cause_in state.input state.debugger)

-- ---- BACK CAUSE

-- the state after it
abbrev pub back_cause_next : PromptState → PromptState
back_cause_next state = with_debugger state (state_after_back_cause state.input state.debugger)

-- the answer to it, and the text at its stop
abbrev pub back_cause_said : PromptState → List ℕ
back_cause_said state = back_cause_answer state.input state.debugger ++ stop_text true (back_cause_next state)

-- if memory was refused, it was made, and perhaps the text at its stop was refused
unfoldable pub IsBackCauseRefused : PromptState → PromptState → Type 0
IsBackCauseRefused state after = IsStopRefused (back_cause_next state) after

-- ---- either

-- the state after the command
abbrev pub cause_next : PromptState → CauseCommand → PromptState
cause_next state Why = state
cause_next state Back = back_cause_next state

-- the answer to the command
abbrev pub cause_said : PromptState → CauseCommand → List ℕ
cause_said state Why = why_cause_said state
cause_said state Back = back_cause_said state

-- if memory was refused: WHY CAUSE left the debugger perhaps at an earlier state
abbrev pub IsCauseRefused : PromptState → CauseCommand → PromptState → Type 0
IsCauseRefused state Why after = HasLookedBack state after
IsCauseRefused state Back after = IsBackCauseRefused state after
