-- Laws: a run has one end; the rows of a trace are the history of the whole run; values that did not fit are counted.
use Rattle.std.specs.Prelude.{ℕ, ℤ, ◌+◌, ◌≡◌, ◌⊎◌, List, [], ◌∷◌, ◌++◌, length, replicate, nat_le, if◌then◌else◌}
use Rattle.std.specs.Prelude.{Some}
use Rattle.std.specs.Fmt.{signed_decimal}
use Rattle.std.specs.List.{flat_map}
use Rattle.ss_words.specs.declared.characters.TheConstants.{LINE_FEED}
use Rattle.ss_report.specs.Pictures.{Part, field, byte, line_end, picture_parts, field_count, picture_text}
use Rattle.ss_store.specs.Store.{AreInRange}
use Rattle.ss_state.specs.Run.{Input}
use Rattle.ss_trace.specs.declared.question.Question.{Question}
use Rattle.ss_trace.specs.History.{history}
use Rattle.ss_readings.specs.Seen.{changes_until}
use Rattle.ss_expressions.specs.Meanings.{Meaning, subject_of}
use Rattle.ss_run.specs.Fields.{unfit_values}
use Rattle.ss_run.specs.Report.{IsRunEnd}
use Rattle.ss_run.specs.Rows.{csv_row}
use Rattle.ss_run.specs.Trace.{step_fields, rows_before}
use Rattle.ss_run.specs.Watched.{Watched, question, formula}

-- ---- ends

-- each run ends at some position
abbrev pub EachRunEnds : Type 0
EachRunEnds = (input : Input) → (p : ℕ) × IsRunEnd input p

-- and at no other
abbrev pub EndsAtOnePosition : Type 0
EndsAtOnePosition = (input : Input) (p q : ℕ) → IsRunEnd input p → IsRunEnd input q → p ≡ q

-- ---- rows

-- some positions in the other order
abbrev pub oldest_first : List ℕ → List ℕ
oldest_first [] = []
oldest_first (q ∷ qs) = oldest_first qs ++ q ∷ []

-- the rows of what is traced for some steps
abbrev pub rows_at : Input → Watched → List ℕ → List ℕ
rows_at input x qs = flat_map (λ q. csv_row (step_fields input x q)) qs

-- the rows are the history of the whole run, all of which is kept, the oldest step first
pub record RowsAreTheHistory : Type 0 where
  -- those of one question
  pub asked : (input : Input) (x : Question) (p : ℕ) →
      rows_before input (question x ∷ []) p ≡ rows_at input (question x) (oldest_first (history input x 0 p))
  -- those of one text with a meaning, asked in state 0
  pub meant : (input : Input) (text : List ℕ) (meaning : Meaning) (p : ℕ) →
      let x : Watched = formula text (Some meaning) in
      rows_before input (x ∷ []) p
      ≡ rows_at input x (oldest_first (changes_until input (subject_of meaning input.program) 0 0 p))

-- ---- values that did not fit

-- how many of some values have more bytes than their fields
abbrev pub too_wide : List Part → List ℤ → ℕ
too_wide [] vs = 0
too_wide (field n ∷ ps) [] = 0
too_wide (field n ∷ ps) (v ∷ vs) = (if nat_le (length (signed_decimal v)) n then 0 else 1) + too_wide ps vs
too_wide (byte b ∷ ps) vs = too_wide ps vs
too_wide (line_end ∷ ps) vs = too_wide ps vs

-- a report of whole lines: it is empty, or ends with a line feed
abbrev pub IsOfLines : List ℕ → Type 0
IsOfLines report = (report ≡ []) ⊎ ((text : List ℕ) × (report ≡ text ++ LINE_FEED ∷ []))

-- the values that are counted on a report: none on an empty one; after whole lines, a picture adds
-- the values that are too wide for their fields, and line feeds add none
pub record AreCounted : Type 0 where
  -- an empty report has none
  pub none : unfit_values [] ≡ 0
  -- a picture with a value in each field adds those that are too wide
  pub print : (report : List ℕ) (lines : List (List ℕ)) (values : List ℤ) → IsOfLines report → AreInRange values →
      field_count lines ≡ length values →
      unfit_values (report ++ picture_text lines values) ≡ unfit_values report + too_wide (picture_parts lines) values
  -- line feeds add none
  pub skip : (report : List ℕ) (n : ℕ) → unfit_values (report ++ replicate n LINE_FEED) ≡ unfit_values report
  -- after a picture, a report is again of whole lines
  pub printed : (report : List ℕ) (lines : List (List ℕ)) (values : List ℤ) → IsOfLines report →
      IsOfLines (report ++ picture_text lines values)
  -- and after line feeds
  pub skipped : (report : List ℕ) (n : ℕ) → IsOfLines report → IsOfLines (report ++ replicate n LINE_FEED)
