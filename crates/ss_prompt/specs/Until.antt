-- RUN UNTIL, BACK UNTIL and GO FIRST: movements to a state in which a condition holds.
use Rattle.std.specs.Prelude.{ℕ, ◌≡◌, ◌⊎◌, Bool, true, false, nat_lt, List, ◌++◌, Option, Some, None}
use Rattle.ss_check.specs.Symbols.{Symbols}
use Rattle.ss_state.specs.Run.{Input, run}
use Rattle.ss_debug.specs.Turn.{DebuggerState}
use Rattle.ss_trace.specs.Turn.{state_after_shape, shape_answer, IsAfterRefusedShape}
use Rattle.ss_trace.specs.Until.{run_until, back_until, state_after_first, first_answer, IsAfterRefusedFirst}
use Rattle.ss_expressions.specs.Aims.{Aim, Aimed, aimed, refused, aim_asked, holds_in}
use Rattle.ss_prompt.specs.Advice.{unread_text}
use Rattle.ss_prompt.specs.Points.{until_word}
use Rattle.ss_prompt.specs.PromptState.{PromptState, with_debugger, IsSameBeside}
use Rattle.ss_prompt.specs.Stops.{stop_text, IsStopRefused}
use Rattle.ss_prompt.specs.declared.until.Until.{Until}
use Rattle.ss_prompt.specs.declared.until.Until.TheVariants.{Run, Back, First}

-- ---- the movement to a state in which an aim holds

-- whether an aim holds in state p of a run
abbrev pub holds_at : Input → Aim → ℕ → Bool
holds_at input aim p = holds_in input.program (run input p) aim

-- the debugger after the movement
abbrev pub seek_left : Until → Input → DebuggerState → (ℕ → Bool) → DebuggerState
seek_left Run input debugger test = state_after_shape input debugger (run_until test)
seek_left Back input debugger test = state_after_shape input debugger (back_until test)
seek_left First input debugger test = state_after_first input debugger test

-- the answer to the movement
abbrev pub seek_answer : Until → Input → DebuggerState → (ℕ → Bool) → List ℕ
seek_answer Run input debugger test = shape_answer input debugger (run_until test)
seek_answer Back input debugger test = shape_answer input debugger (back_until test)
seek_answer First input debugger test = first_answer input debugger test

-- if memory was refused, the movement was made in part or whole
abbrev pub IsSeekCut : Until → Input → DebuggerState → (ℕ → Bool) → DebuggerState → Type 0
IsSeekCut Run input debugger test after = IsAfterRefusedShape input debugger (run_until test) after
IsSeekCut Back input debugger test after = IsAfterRefusedShape input debugger (back_until test) after
IsSeekCut First input debugger test after = IsAfterRefusedFirst input debugger test after

-- whether the movement from p to q goes back
abbrev pub seeks_back : Until → ℕ → ℕ → Bool
seeks_back Run p q = false
seeks_back Back p q = true
seeks_back First p q = nat_lt q p

-- the state after the movement
abbrev pub seek_next : PromptState → Until → Aim → PromptState
seek_next state way aim =
    with_debugger state (seek_left way state.input state.debugger (holds_at state.input aim))

-- the answer to the movement, and the text at its stop
abbrev pub seek_said : PromptState → Until → Aim → List ℕ
seek_said state way aim =
    let next : PromptState = seek_next state way aim in
    seek_answer way state.input state.debugger (holds_at state.input aim)
    ++ stop_text (seeks_back way state.debugger.position next.debugger.position) next

-- if memory was refused, it was made in part or whole, and perhaps the text at its stop was refused
unfoldable pub IsSeekRefused : PromptState → Until → Aim → PromptState → Type 0
IsSeekRefused state way aim after =
    IsSameBeside state after
    × (IsSeekCut way state.input state.debugger (holds_at state.input aim) after.debugger
    ⊎ IsStopRefused (seek_next state way aim) after)

-- ---- the command

-- the aim by a symbol table, if one is kept and the text is a condition
abbrev pub aim_by : PromptState → List ℕ → Option Symbols → Option Aimed
aim_by state text None = None
aim_by state text (Some symbols) =
    aim_asked symbols (run state.input state.debugger.position).frame.section text

-- the state after the command for what its text is
abbrev pub until_led : PromptState → Until → Option Aimed → PromptState
until_led state way None = state
until_led state way (Some (aimed aim)) = seek_next state way aim
until_led state way (Some (refused answer)) = state

-- the answer to the command for what its text is; if it is no condition, that it is no command
abbrev pub until_answered : PromptState → Until → Bool → Option Aimed → List ℕ
until_answered state way numbered None = unread_text (until_word way) numbered
until_answered state way numbered (Some (aimed aim)) = seek_said state way aim
until_answered state way numbered (Some (refused answer)) = answer

-- the state after the command
abbrev pub until_next : PromptState → Until → List ℕ → PromptState
until_next state way text = until_led state way (aim_by state text state.symbols)

-- the answer to the command
abbrev pub until_said : PromptState → Until → List ℕ → Bool → List ℕ
until_said state way text numbered = until_answered state way numbered (aim_by state text state.symbols)

-- if memory was refused for the movement that the text asks for, if it asks for one
abbrev pub IsAimRefused : PromptState → Until → Option Aimed → PromptState → Type 0
IsAimRefused state way None after = after ≡ state
IsAimRefused state way (Some (aimed aim)) after = IsSeekRefused state way aim after
IsAimRefused state way (Some (refused answer)) after = after ≡ state

-- if memory was refused: before the movement, or for it
unfoldable pub IsUntilRefused : PromptState → Until → List ℕ → PromptState → Type 0
IsUntilRefused state way text after =
    (after ≡ state) ⊎ IsAimRefused state way (aim_by state text state.symbols) after
