-- The history of a question: the steps at which it changes, the newest first.
use Rattle.std.specs.Prelude.{ℕ, zero, suc, ◌+◌, ◌-◌, Bool, List, [], ◌∷◌, ◌++◌, length, take, replicate, codes}
use Rattle.std.specs.Prelude.{decimal}
use Rattle.std.specs.Prelude.{Option, Some, None, if◌then◌else◌, nat_lt}
use Rattle.std.specs.Fmt.{signed_decimal}
use Rattle.ss_state.specs.Run.{Input, run}
use Rattle.ss_debug.specs.Move.{line_at}
use Rattle.ss_debug.specs.Answer.{section_at, state_line}
use Rattle.ss_trace.specs.declared.question.Question.{Question}
use Rattle.ss_trace.specs.Question.{changes_at, question_text}
use Rattle.ss_trace.specs.Value.{value_at}

-- a position before others, if a test holds there
abbrev pub before_others : Bool → ℕ → List ℕ → List ℕ
before_others test q qs = if test then q ∷ qs else qs

-- the positions below p, from the earliest one on, at which a test holds, the greatest first
unfoldable pub positions_where : (ℕ → Bool) → ℕ → ℕ → List ℕ
positions_where test earliest zero = []
positions_where test earliest (suc q) =
    if nat_lt q earliest then [] else before_others (test q) q (positions_where test earliest q)

-- the steps before state p that are kept, and at which question changes, the newest first
abbrev pub history : Input → Question → ℕ → ℕ → List ℕ
history input question earliest p = positions_where (changes_at input question) earliest p

-- ---- the table

-- a text after blanks, of at least n bytes
abbrev pub to_right : ℕ → List ℕ → List ℕ
to_right n text = replicate (n - length text) 32 ++ text

-- a text with blanks after it, of at least n bytes
abbrev pub to_left : ℕ → List ℕ → List ℕ
to_left n text = text ++ replicate (n - length text) 32

-- a row of the table
abbrev pub row : List ℕ → List ℕ → List ℕ → List ℕ → List ℕ → List ℕ
row state time section line value =
    to_right 8 state ++ codes " " ++ to_right 7 time ++ codes "  " ++ to_left 12 section ++ codes " "
    ++ to_right 5 line ++ codes "  " ++ value ++ 10 ∷ []

-- the head of a table of the values of something of this name
abbrev pub head_of : List ℕ → List ℕ
head_of name = row (codes "STATE") (codes "CLOCK") (codes "IN") (codes "LINE") name

-- that of a question
abbrev pub head_row : Question → List ℕ
head_row question = head_of (question_text question)

-- the row of the step from state q
abbrev pub step_row : Input → Question → ℕ → List ℕ
step_row input question q =
    row (decimal q) (signed_decimal (run input q).clock) (section_at input q) (decimal (line_at input q))
    (value_at input question (q + 1))

-- the rows of some steps
abbrev pub step_rows : Input → Question → List ℕ → List ℕ
step_rows input question [] = []
step_rows input question (q ∷ qs) = step_row input question q ++ step_rows input question qs

-- the text for a question that did not change
unfoldable pub no_change_head : List ℕ
no_change_head = codes "NO CHANGE SINCE STATE "

-- that it did not since the earliest kept state
abbrev pub no_change_text : ℕ → List ℕ
no_change_text earliest = no_change_head ++ decimal earliest ++ 10 ∷ []

-- the table of some steps, or that there is none
abbrev pub table_or_none : Input → Question → ℕ → List ℕ → List ℕ
table_or_none input question earliest [] = no_change_text earliest
table_or_none input question earliest (q ∷ qs) = head_row question ++ step_rows input question (q ∷ qs)

-- the answer to HISTORY question n in state p
unfoldable pub history_text : Input → Question → ℕ → ℕ → ℕ → List ℕ
history_text input question n earliest p =
    table_or_none input question earliest (take n (history input question earliest p))

-- ---- why

-- the newest step, if there is one
abbrev pub newest : List ℕ → Option ℕ
newest [] = None
newest (q ∷ qs) = Some q

-- the step before state p at which question changed last, if it is kept
abbrev pub newest_change : Input → Question → ℕ → ℕ → Option ℕ
newest_change input question earliest p = newest (history input question earliest p)

-- a line of a word, and then a name and its values before and after
abbrev pub change_line : List ℕ → List ℕ → List ℕ → List ℕ → List ℕ
change_line word name before after =
    word ++ codes " " ++ name ++ codes ": " ++ before ++ codes " -> " ++ after ++ 10 ∷ []

-- the text of WHY before the line of the model: the step's state line; or that x did not change
abbrev pub why_head : Input → ℕ → Option ℕ → List ℕ
why_head input earliest None = no_change_text earliest
why_head input earliest (Some q) = state_line input q

-- the number of that line
abbrev pub why_line : Input → Option ℕ → Option ℕ
why_line input None = None
why_line input (Some q) = Some (line_at input q)

-- and its text after that line: the values of question before and after
abbrev pub why_change : Input → Question → Option ℕ → List ℕ
why_change input question None = []
why_change input question (Some q) =
    change_line (codes "CHANGED") (question_text question) (value_at input question q) (value_at input question (q + 1))
