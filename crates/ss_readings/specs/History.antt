-- The texts of HISTORY and WHY of a question, which its name names.
use Rattle.std.specs.Prelude.{ℕ, ◌+◌, List, [], ◌∷◌, ◌++◌, take, codes, decimal, Option, Some, None}
use Rattle.std.specs.Fmt.{signed_decimal}
use Rattle.ss_state.specs.Run.{Input, run}
use Rattle.ss_debug.specs.Move.{line_at}
use Rattle.ss_debug.specs.Answer.{section_at}
use Rattle.ss_trace.specs.History.{row, head_of, no_change_text, change_line}
use Rattle.ss_readings.specs.declared.step_place.StepPlace.{StepPlace}
use Rattle.ss_readings.specs.Subject.{Subject}
use Rattle.ss_readings.specs.Seen.{seen, changes_before}
use Rattle.ss_readings.specs.Value.{value_text}

-- the number of the step from state q, its clock, its section and its line
abbrev pub step_place : Input → ℕ → StepPlace
step_place input q = record {
  position = q;
  clock = (run input q).clock;
  section = (run input q).frame.section;
  line = line_at input q;
}

-- the row of that step, for a question that is asked at p: its value after the step
abbrev pub step_row : Input → Subject → ℕ → ℕ → List ℕ
step_row input subject p q =
    row (decimal q) (signed_decimal (run input q).clock) (section_at input q) (decimal (line_at input q))
    (value_text (seen input subject p (q + 1)))

-- the rows of some steps
abbrev pub step_rows : Input → Subject → ℕ → List ℕ → List ℕ
step_rows input subject p [] = []
step_rows input subject p (q ∷ qs) = step_row input subject p q ++ step_rows input subject p qs

-- the table of some steps, or that there is none
abbrev pub table_or_none : Input → Subject → List ℕ → ℕ → ℕ → List ℕ → List ℕ
table_or_none input subject name earliest p [] = no_change_text earliest
table_or_none input subject name earliest p (q ∷ qs) = head_of name ++ step_rows input subject p (q ∷ qs)

-- HISTORY: the newest n steps that changed it
unfoldable pub history_text : Input → Subject → List ℕ → ℕ → ℕ → ℕ → List ℕ
history_text input subject name n earliest p =
    table_or_none input subject name earliest p (take n (changes_before input subject earliest p))

-- WHY: the line with its values before and after a step
abbrev pub change_told : Input → Subject → List ℕ → ℕ → ℕ → List ℕ
change_told input subject name p q =
    change_line (codes "CHANGED") name (value_text (seen input subject p q)) (value_text (seen input subject p (q + 1)))

-- that line of the step that changed it last, if there is one
abbrev pub why_change : Input → Subject → List ℕ → ℕ → Option ℕ → List ℕ
why_change input subject name p None = []
why_change input subject name p (Some q) = change_told input subject name p q
