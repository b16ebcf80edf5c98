-- What is traced of a run: questions; and texts, with their meanings by the names of MAIN.
use Rattle.std.specs.Prelude.{ℕ, Bool, false, List, map, codes, Option, Some, None}
use Rattle.ss_program.specs.Program.{ProgramTable, main_number}
use Rattle.ss_check.specs.Symbols.{Symbols}
use Rattle.ss_state.specs.Run.{Input}
use Rattle.ss_trace.specs.declared.question.Question.{Question}
use Rattle.ss_trace.specs.Question.{changes_at, question_text}
use Rattle.ss_trace.specs.Value.{value_at}
use Rattle.ss_readings.specs.Value.{value_text}
use Rattle.ss_readings.specs.Seen.{seen, changes_in}
use Rattle.ss_expressions.specs.Meanings.{Meaning, Meant, meant, refused, meaning_asked, subject_of, IsSoundMeaning}
use Rattle.ss_run.specs.declared.measure.Measure.{Measure}
use Rattle.ss_run.specs.declared.measure.Measure.TheVariants as measure

-- what is traced
pub data Watched : Type 0 where
  -- a question
  question : Question → Watched
  -- a text, and its meaning if it has one
  formula : List ℕ → Option Meaning → Watched

-- as it is asked
abbrev pub watched_text : Watched → List ℕ
watched_text (question x) = question_text x
watched_text (formula text meaning) = text

-- the step from state q changes it: a local variable is that of the frame of MAIN, which state 0 has
abbrev pub watched_changes : Input → Watched → ℕ → Bool
watched_changes input (question x) q = changes_at input x q
watched_changes input (formula text (Some meaning)) q = changes_in input (subject_of meaning input.program) 0 q
watched_changes input (formula text None) q = false

-- its value in state p
abbrev pub watched_value : Input → Watched → ℕ → List ℕ
watched_value input (question x) p = value_at input x p
watched_value input (formula text (Some meaning)) p =
    value_text (seen input (subject_of meaning input.program) 0 p)
watched_value input (formula text None) p = value_text None

-- a meaning, if there is one
abbrev pub meaning_if : Option Meant → Option Meaning
meaning_if None = None
meaning_if (Some (meant meaning)) = Some meaning
meaning_if (Some (refused answer)) = None

-- what is traced if this is to be traced
abbrev pub watched_of : Symbols → ProgramTable → Measure → Watched
watched_of symbols program (measure.Question x) = question x
watched_of symbols program (measure.Formula text) =
    formula text (meaning_if (meaning_asked symbols program (main_number program) text))

-- and if these are
abbrev pub watched_all : Symbols → ProgramTable → List Measure → List Watched
watched_all symbols program ms = map (watched_of symbols program) ms

-- it names only what exists in the runs of a program
abbrev pub IsSoundWatched : ProgramTable → Watched → Type 0
IsSoundWatched program (question x) = Unit {0}
IsSoundWatched program (formula text (Some meaning)) = IsSoundMeaning program meaning
IsSoundWatched program (formula text None) = Unit {0}
