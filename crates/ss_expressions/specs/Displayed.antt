-- What is asked with its value, as it is printed at each stop.
use Rattle.std.specs.Prelude.{ℕ, List, [], ◌∷◌, ◌++◌, codes, Option, Some, None}
use Rattle.ss_program.specs.Program.{ProgramTable}
use Rattle.ss_state.specs.State.{State}
use Rattle.ss_readings.specs.Value.{Value, value_text}
use Rattle.ss_expressions.specs.Answers.{list_answer, class_told}
use Rattle.ss_expressions.specs.Senses.{Sense, expression, condition, list, living, set_in}
use Rattle.ss_expressions.specs.Meanings.{Meaning, meaning_value}

-- a text and a mark, and a value, or that there is none
abbrev pub with_value : List ℕ → List ℕ → Option Value → List ℕ
with_value text mark value = text ++ (mark ++ (value_text value ++ 10 ∷ []))

-- what is asked, with its value: a list and the entities of a class as SHOW prints them
abbrev pub sense_displayed : ProgramTable → State → List ℕ → Sense → Option Value → List ℕ
sense_displayed program state text (expression e) value = with_value text (codes " = ") value
sense_displayed program state text (condition c) value = with_value text (codes ": ") value
sense_displayed program state text (list c) (Some v) = list_answer program state (set_in c)
sense_displayed program state text (list c) None = with_value text (codes ": ") None
sense_displayed program state text (living class) (Some v) = class_told program state class
sense_displayed program state text (living class) None = with_value text (codes ": ") None

-- a meaning of a text, with its value in a state
abbrev pub displayed : ProgramTable → State → List ℕ → Meaning → List ℕ
displayed program state text meaning =
    sense_displayed program state text meaning.sense (meaning_value program meaning state 0)
