-- WHY and HISTORY: the words that they read, and their answers.
use Rattle.std.specs.Prelude.{ℕ, ◌≡◌, ◌≤◌, List, [], ◌∷◌, ◌++◌, codes, Option, Some, None, Result}
use Rattle.ss_debug.specs.CommandLines.{command_words}
use Rattle.ss_debug.specs.Turn.{debugger_state_at}
use Rattle.ss_debug.specs.declared.commands.Command.{Command}
use Rattle.ss_debug.specs.declared.commands.Command.TheVariants.{Forget}
use Rattle.ss_trace.specs.declared.question.Question.{Question}
use Rattle.ss_trace.specs.History.{history_text, newest_change, why_head, why_line, why_change}
use Rattle.ss_program.specs.Program.{ProgramTable}
use Rattle.ss_prompt.specs.declared.missing.Missing.{Missing}
use Rattle.ss_prompt.specs.Words.{line_behind, command_behind}
use Rattle.ss_prompt.specs.Asked.{question_in}
use Rattle.ss_prompt.specs.Source.{marked_line}
use Rattle.ss_prompt.specs.PromptState.{PromptState, IsSameBeside}

-- some words without the last
abbrev pub all_but_last : List (List ℕ) → List (List ℕ)
all_but_last [] = []
all_but_last (word ∷ []) = []
all_but_last (word ∷ next ∷ more) = word ∷ all_but_last (next ∷ more)

-- the last of some words, in a list
abbrev pub only_last : List (List ℕ) → List (List ℕ)
only_last [] = []
only_last (word ∷ []) = word ∷ []
only_last (word ∷ next ∷ more) = only_last (next ∷ more)

-- how many rows: a number as FORGET takes it
abbrev pub rows_in : Command → Option ℕ
rows_in (Forget n) = Some n
rows_in _ = None

-- a question and a number of rows, if both are there
abbrev pub with_number : Option (Result Question Missing) → Option ℕ → Option (Result Question Missing × ℕ)
with_number (Some x) (Some n) = Some (x, n)
with_number _ _ = None

-- the question of a line, if it is not too long
abbrev pub asked_in_line : ProgramTable → Option (List ℕ) → Option (Result Question Missing)
asked_in_line program None = None
asked_in_line program (Some line) = question_in program (command_words line)

-- a question and, as its last word, a number of rows
abbrev pub with_rows : ProgramTable → List (List ℕ) → Option (Result Question Missing × ℕ)
with_rows program words =
    with_number (asked_in_line program (line_behind [] (all_but_last words)))
    (rows_in (command_behind (codes "FORGET") (only_last words)))

-- ---- answers

-- the line of the model at which a question changed last, if it did
abbrev pub why_source : List (List ℕ) → Option ℕ → List ℕ
why_source lines None = []
why_source lines (Some line) = marked_line lines (codes "> ") line

-- the text on a step, if there is one: its state line, its line of the model, and its change
abbrev pub why_text : PromptState → Question → Option ℕ → List ℕ
why_text state question step =
    why_head state.input state.debugger.earliest step ++ why_source state.lines (why_line state.input step)
    ++ why_change state.input question step

-- the answer to WHY: the text on the newest kept step at which the question changes
abbrev pub why_said : PromptState → Question → List ℕ
why_said state question =
    why_text state question (newest_change state.input question state.debugger.earliest state.debugger.position)

-- the answer to HISTORY
abbrev pub history_said : PromptState → Question → ℕ → List ℕ
history_said state question rows =
    history_text state.input question rows state.debugger.earliest state.debugger.position

-- if memory was refused, the debugger is between the earliest kept position and its own
unfoldable pub HasLookedBack : PromptState → PromptState → Type 0
HasLookedBack state after =
    IsSameBeside state after × (after.debugger ≡ debugger_state_at state.debugger after.debugger.position)
    × (state.debugger.earliest ≤ after.debugger.position) × (after.debugger.position ≤ state.debugger.position)
