-- What is measured in the last state of a run.
use Rattle.std.specs.Prelude.{ℕ, Bool, List, [], ◌∷◌, ◌++◌, bytes_eq}
use Rattle.std.specs.Prelude.{if◌then◌else◌}
use Rattle.std.specs.List.{list_any}
use Rattle.ss_program.specs.Program.{main_number}
use Rattle.ss_check.specs.Symbols.{Symbols}
use Rattle.ss_state.specs.Run.{Input, run}
use Rattle.ss_readings.specs.Value.{value_text}
use Rattle.ss_expressions.specs.Valued.{value_asked}
use Rattle.ss_trace.specs.Question.{question_text}
use Rattle.ss_trace.specs.Value.{value_at}
use Rattle.ss_run.specs.declared.measure.Measure.{Measure}
use Rattle.ss_run.specs.declared.measure.Measure.TheVariants.{Question, Formula}

-- a measure as it is asked: the name of its column
abbrev pub measure_name : Measure → List ℕ
measure_name (Question question) = question_text question
measure_name (Formula text) = text

-- the value of a text in state p, by the names of MAIN
abbrev pub formula_at : Input → Symbols → List ℕ → ℕ → List ℕ
formula_at input symbols text p =
    value_text (value_asked symbols input.program (run input p) (main_number input.program) text)

-- the value of a measure in state p
abbrev pub measure_at : Input → Symbols → Measure → ℕ → List ℕ
measure_at input symbols (Question question) p = value_at input question p
measure_at input symbols (Formula text) p = formula_at input symbols text p

-- whether one of some measures is asked as this text asks
abbrev pub is_measured : List Measure → List ℕ → Bool
is_measured ms text = list_any (λ m. bytes_eq (measure_name m) text) ms

-- some measures and one more, if none of them is asked in the same words
abbrev pub with_measure : List Measure → Measure → List Measure
with_measure ms m = if is_measured ms (measure_name m) then ms else ms ++ m ∷ []
