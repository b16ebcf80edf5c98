-- The measures of a run, in its trace or in its results, as they are named.
use Rattle.std.specs.Prelude.{ℕ, ◌≡◌, Bool, true, false, List, [], ◌∷◌, ◌++◌, map, fold}
use Rattle.std.specs.Prelude.{Option, Some, None, Result, Ok, Err}
use Rattle.std.specs.Char.{to_ascii_uppercase}
use Rattle.std.specs.List.{flat_map, list_any}
use Rattle.ss_host.specs.declared.stop.Stop.TheVariants.{Memory}
use Rattle.ss_program.specs.Program.{ProgramTable, main_number}
use Rattle.ss_check.specs.Symbols.{Symbols}
use Rattle.ss_debug.specs.CommandLines.{command_words}
use Rattle.ss_trace.specs.declared.question.Question.{Question}
use Rattle.ss_expressions.specs.Valued.{Judgement, meant, refused as no_meaning, judged_text}
use Rattle.ss_prompt.specs.declared.missing.Missing.{Missing as NoName}
use Rattle.ss_prompt.specs.Missing.{missing_text}
use Rattle.ss_prompt.specs.Words.{line_behind}
use Rattle.ss_run.specs.declared.measure.Measure.{Measure}
use Rattle.ss_run.specs.declared.measure.Measure.TheVariants as measure
use Rattle.ss_run.specs.Measure.{with_measure}
use Rattle.ssrun.specs.declared.cause.Cause.{Cause}
use Rattle.ssrun.specs.declared.cause.Cause.TheVariants.{Stop, NoQuestion, Unnamed}
use Rattle.ssrun.specs.Questions.{question_of}

-- what a text asks for: a measure; or none, and the lines that say why; or nothing that is known
pub data Sought : Type 0 where
  measured : Measure → Sought
  refused : List ℕ → Sought
  nothing : Sought

-- a text as the prompt tells it: in capitals, with one blank between its words
abbrev pub told : List ℕ → Option (List ℕ)
told text = line_behind [] (command_words (map to_ascii_uppercase text))

-- the formula of a line that has this judgement
abbrev pub formula_judged : List ℕ → Option Judgement → Sought
formula_judged line (Some meant) = measured (measure.Formula line)
formula_judged line (Some (no_meaning answer)) = refused answer
formula_judged line None = nothing

-- the formula that a told text is by the names of MAIN
abbrev pub formula_told : ProgramTable → Symbols → Option (List ℕ) → Sought
formula_told program symbols None = nothing
formula_told program symbols (Some line) =
    formula_judged line (judged_text symbols program (main_number program) line)

-- the formula that a text is
abbrev pub formula_of : ProgramTable → Symbols → List ℕ → Sought
formula_of program symbols text = formula_told program symbols (told text)

-- a formula that has a meaning, or else the name that a question misses
abbrev pub formula_or_missing : NoName → Sought → Sought
formula_or_missing m (measured x) = measured x
formula_or_missing m (refused answer) = refused (missing_text m)
formula_or_missing m nothing = refused (missing_text m)

-- a question whose names the program has, or else a formula
abbrev pub question_or_formula : Option (Result Question NoName) → Sought → Sought
question_or_formula (Some (Ok question)) formula = measured (measure.Question question)
question_or_formula (Some (Err m)) formula = formula_or_missing m formula
question_or_formula None formula = formula

-- what a text asks for
abbrev pub sought_of : ProgramTable → Symbols → List ℕ → Sought
sought_of program symbols text = question_or_formula (question_of program text) (formula_of program symbols text)

-- some measures, and the one that a text asks for, if none of them is asked in the same words
abbrev pub with_sought : List Measure → Sought → List Measure
with_sought ms (measured m) = with_measure ms m
with_sought ms (refused answer) = ms
with_sought ms nothing = ms

-- the measures that some texts ask for, each once
abbrev pub measures_of : ProgramTable → Symbols → List (List ℕ) → List Measure
measures_of program symbols texts = fold (λ ms text. with_sought ms (sought_of program symbols text)) [] texts

-- what is sought is no measure
abbrev pub is_unmeasured : Sought → Bool
is_unmeasured (measured m) = false
is_unmeasured (refused answer) = true
is_unmeasured nothing = true

-- one of some texts asks for no measure
abbrev pub is_some_unmeasured : ProgramTable → Symbols → List (List ℕ) → Bool
is_some_unmeasured program symbols texts = list_any (λ text. is_unmeasured (sought_of program symbols text)) texts

-- the lines for what asks for no measure
abbrev pub refusal_said : Sought → List ℕ
refusal_said (refused answer) = answer
refusal_said (measured m) = []
refusal_said nothing = []

-- the lines for some texts
abbrev pub refusals_said : ProgramTable → Symbols → List (List ℕ) → List ℕ
refusals_said program symbols texts = flat_map (λ text. refusal_said (sought_of program symbols text)) texts

-- why some texts do not all ask for measures: one asks for nothing; some are refused; memory was refused
abbrev pub IsUnmeasured : ProgramTable → Symbols → List (List ℕ) → Cause → Type 0
IsUnmeasured program symbols texts (NoQuestion text) = sought_of program symbols text.now ≡ nothing
IsUnmeasured program symbols texts (Unnamed lines) = lines.items ≡ refusals_said program symbols texts
IsUnmeasured program symbols texts (Stop stop) = stop ≡ Memory
