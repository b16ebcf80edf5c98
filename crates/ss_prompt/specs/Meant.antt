-- WHY, HISTORY, RUN CHANGE, BACK CHANGE, DISPLAY and UNDISPLAY of a text: an expression, a condition, a list or the
-- name of a class.
use Rattle.std.specs.Prelude.{ℕ, ◌≡◌, ◌⊎◌, Bool, true, false, List, [], ◌++◌, Option, Some, None, codes}
use Rattle.ss_debug.specs.CommandLines.{command_words}
use Rattle.ss_check.specs.Symbols.{Symbols}
use Rattle.ss_state.specs.Run.{run}
use Rattle.ss_trace.specs.History.{why_head, why_line}
use Rattle.ss_trace.specs.Movements.{Shape}
use Rattle.ss_trace.specs.Turn.{state_after_shape, shape_answer, IsAfterRefusedShape}
use Rattle.ss_readings.specs.Subject.{Subject}
use Rattle.ss_readings.specs.Seen.{last_change}
use Rattle.ss_readings.specs.History.{why_change, history_text}
use Rattle.ss_readings.specs.Changes.{run_change, back_change}
use Rattle.ss_expressions.specs.Meanings.{Meaning, Meant, meant, refused, meaning_asked, subject_of}
use Rattle.ss_prompt.specs.Advice.{unread_text}
use Rattle.ss_prompt.specs.Displays.{display_said, display_next, undisplay_one_said, undisplay_one_next}
use Rattle.ss_prompt.specs.Histories.{why_source, rows_in, all_but_last, only_last, HasLookedBack}
use Rattle.ss_prompt.specs.Manners.{manner_word}
use Rattle.ss_prompt.specs.PromptState.{PromptState, with_debugger, IsSameBeside}
use Rattle.ss_prompt.specs.Stops.{stop_text, IsStopRefused}
use Rattle.ss_prompt.specs.Words.{line_behind, command_behind}
use Rattle.ss_prompt.specs.declared.histories.TheConstants.{ROWS_UNLESS_SAID}
use Rattle.ss_prompt.specs.declared.manner.Manner.{Manner}
use Rattle.ss_prompt.specs.declared.manner.Manner.TheVariants.{Why, History, RunChange, BackChange, Display}
use Rattle.ss_prompt.specs.declared.manner.Manner.TheVariants.{Undisplay}
use Rattle.ss_prompt.specs.declared.shown.Shown.{Shown}
use Rattle.ss_prompt.specs.declared.shown.Shown.TheVariants.{Text}

-- ---- the meaning of a text

-- what a text means by a symbol table, in the section of the last frame, if one is kept and the text
-- asks anything
abbrev pub meaning_by : PromptState → List ℕ → Option Symbols → Option Meant
meaning_by state text None = None
meaning_by state text (Some symbols) =
    meaning_asked symbols state.input.program (run state.input state.debugger.position).frame.section text

-- what a text means
abbrev pub meaning_in : PromptState → List ℕ → Option Meant
meaning_in state text = meaning_by state text state.symbols

-- what a meaning is about in the run
abbrev pub subject_in : PromptState → Meaning → Subject
subject_in state meaning = subject_of meaning state.input.program

-- ---- WHY and HISTORY

-- the text on a step, if there is one: its state line, its line of the model, and the change of the
-- meaning of a text
abbrev pub step_told : PromptState → List ℕ → Meaning → Option ℕ → List ℕ
step_told state text meaning step =
    why_head state.input state.debugger.earliest step ++ why_source state.lines (why_line state.input step)
    ++ why_change state.input (subject_in state meaning) text state.debugger.position step

-- the answer to WHY: the text on the newest kept step that changed it
abbrev pub why_told : PromptState → List ℕ → Meaning → List ℕ
why_told state text meaning =
    step_told state text meaning
    (last_change state.input (subject_in state meaning) state.debugger.earliest state.debugger.position)

-- the answer to HISTORY
abbrev pub history_told : PromptState → List ℕ → Meaning → ℕ → List ℕ
history_told state text meaning rows =
    history_text state.input (subject_in state meaning) text rows state.debugger.earliest state.debugger.position

-- ---- RUN CHANGE and BACK CHANGE

-- the effect of the movement
abbrev pub change_shape : PromptState → Bool → Meaning → Shape
change_shape state false meaning = run_change state.input (subject_in state meaning) state.debugger.position
change_shape state true meaning = back_change state.input (subject_in state meaning) state.debugger.position

-- the state after it
abbrev pub change_next : PromptState → Bool → Meaning → PromptState
change_next state back meaning =
    with_debugger state (state_after_shape state.input state.debugger (change_shape state back meaning))

-- the answer to it, and the text at its stop
abbrev pub change_said : PromptState → Bool → Meaning → List ℕ
change_said state back meaning =
    shape_answer state.input state.debugger (change_shape state back meaning)
    ++ stop_text back (change_next state back meaning)

-- if memory was refused, it was made in part or whole, and perhaps the text at its stop was refused
unfoldable pub IsChangeRefused : PromptState → Bool → Meaning → PromptState → Type 0
IsChangeRefused state back meaning after =
    IsSameBeside state after
    × (IsAfterRefusedShape state.input state.debugger (change_shape state back meaning) after.debugger
    ⊎ IsStopRefused (change_next state back meaning) after)

-- ---- the number of rows

-- a text and a number of rows, if both are there
abbrev pub rows_with : Option (List ℕ) → Option ℕ → Option (List ℕ × ℕ)
rows_with (Some text) (Some rows) = Some (text, rows)
rows_with _ _ = None

-- a text without its last word, if that is a number of rows as FORGET takes it
abbrev pub text_with_rows : List ℕ → Option (List ℕ × ℕ)
text_with_rows text =
    rows_with (line_behind [] (all_but_last (command_words text)))
    (rows_in (command_behind (codes "FORGET") (only_last (command_words text))))

-- ---- the commands

-- the answer to HISTORY for what a text means, if it means anything
abbrev pub history_if : PromptState → List ℕ → ℕ → Option Meant → Option (List ℕ)
history_if state text rows None = None
history_if state text rows (Some (refused answer)) = Some answer
history_if state text rows (Some (meant meaning)) = Some (history_told state text meaning rows)

-- the answer to HISTORY of a text with a number of rows behind it
abbrev pub history_with_rows : PromptState → Option (List ℕ × ℕ) → Option (List ℕ)
history_with_rows state None = None
history_with_rows state (Some x) = history_if state x.0 x.1 (meaning_in state x.0)

-- an answer, or else another, or else that the line is no command
abbrev pub told_or : Option (List ℕ) → Option (List ℕ) → List ℕ → List ℕ
told_or (Some answer) other unread = answer
told_or None (Some answer) unread = answer
told_or None None unread = unread

-- the answer to HISTORY of a text, which is all that is asked, or else ends with a number of rows
abbrev pub history_answered : PromptState → List ℕ → Bool → List ℕ
history_answered state text numbered =
    told_or (history_if state text ROWS_UNLESS_SAID (meaning_in state text))
    (history_with_rows state (text_with_rows text)) (unread_text (manner_word History) numbered)

-- ---- DISPLAY and UNDISPLAY

-- a text that is printed at stops with its value, which it has in the section of the last frame
abbrev pub text_displayed : PromptState → List ℕ → Shown
text_displayed state text = Text text (run state.input state.debugger.position).frame.section

-- the answer for what a text means; if it means nothing, that the line is no command
abbrev pub meant_answered : PromptState → Manner → List ℕ → Bool → Option Meant → List ℕ
meant_answered state manner text numbered None = unread_text (manner_word manner) numbered
meant_answered state manner text numbered (Some (refused answer)) = answer
meant_answered state Why text numbered (Some (meant meaning)) = why_told state text meaning
meant_answered state History text numbered (Some (meant meaning)) = history_told state text meaning ROWS_UNLESS_SAID
meant_answered state RunChange text numbered (Some (meant meaning)) = change_said state false meaning
meant_answered state BackChange text numbered (Some (meant meaning)) = change_said state true meaning
meant_answered state Display text numbered (Some (meant meaning)) = display_said state (text_displayed state text)
meant_answered state Undisplay text numbered (Some (meant meaning)) = undisplay_one_said state text

-- the answer to the command
abbrev pub meant_said : PromptState → Manner → List ℕ → Bool → List ℕ
meant_said state History text numbered = history_answered state text numbered
meant_said state manner text numbered = meant_answered state manner text numbered (meaning_in state text)

-- the state after a movement for what a text means
abbrev pub change_led : PromptState → Bool → Option Meant → PromptState
change_led state back (Some (meant meaning)) = change_next state back meaning
change_led state back _ = state

-- the state after DISPLAY of what a text means
abbrev pub display_led : PromptState → List ℕ → Option Meant → PromptState
display_led state text (Some (meant meaning)) = display_next state (text_displayed state text)
display_led state text _ = state

-- the state after UNDISPLAY of it
abbrev pub undisplay_led : PromptState → List ℕ → Option Meant → PromptState
undisplay_led state text (Some (meant meaning)) = undisplay_one_next state text
undisplay_led state text _ = state

-- the state after the command
abbrev pub meant_next : PromptState → Manner → List ℕ → PromptState
meant_next state RunChange text = change_led state false (meaning_in state text)
meant_next state BackChange text = change_led state true (meaning_in state text)
meant_next state Display text = display_led state text (meaning_in state text)
meant_next state Undisplay text = undisplay_led state text (meaning_in state text)
meant_next state _ text = state

-- if memory was refused for a movement, if the text asks for one
abbrev pub IsChangeLedRefused : PromptState → Bool → Option Meant → PromptState → Type 0
IsChangeLedRefused state back (Some (meant meaning)) after = IsChangeRefused state back meaning after
IsChangeLedRefused state back _ after = after ≡ state

-- if memory was refused for the command
abbrev pub IsMannerRefused : PromptState → Manner → List ℕ → PromptState → Type 0
IsMannerRefused state RunChange text after = IsChangeLedRefused state false (meaning_in state text) after
IsMannerRefused state BackChange text after = IsChangeLedRefused state true (meaning_in state text) after
IsMannerRefused state Display text after = after ≡ state
IsMannerRefused state Undisplay text after = after ≡ state
IsMannerRefused state _ text after = HasLookedBack state after

-- if memory was refused: before the command was begun, or for it
unfoldable pub IsMeantRefused : PromptState → Manner → List ℕ → PromptState → Type 0
IsMeantRefused state manner text after = (after ≡ state) ⊎ IsMannerRefused state manner text after
