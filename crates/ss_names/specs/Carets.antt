-- The caret below the name that is wrong, under the line on which it is.
use Rattle.std.specs.Prelude.{ℕ, ◌==◌, ◌&&◌, ◌||◌, Bool, true, false, List, [], ◌∷◌, ◌++◌}
use Rattle.std.specs.Prelude.{bytes_eq, codes, decimal, Option, Some, None, if◌then◌else◌}
use Rattle.ss_words.specs.Plain.{Plain, PlainAt, name}
use Rattle.ss_words.specs.Words.{WordAt}
use Rattle.ss_columns.specs.Columns.{column_at, line_at, line_of}
use Rattle.ss_columns.specs.Quotes.{caret_at, source_text}
use Rattle.ss_check.specs.declared.wrong.Reason.{Reason}
use Rattle.ss_check.specs.declared.wrong.Reason.TheVariants as r
use Rattle.ss_names.specs.declared.caret.Which.{Which}
use Rattle.ss_names.specs.declared.caret.Which.TheVariants.{First, Last, Opened}
use Rattle.ss_names.specs.declared.here.Here.{Here}
use Rattle.ss_names.specs.Collected.{here_at, here_behind}
use Rattle.ss_names.specs.Here.{at_start}
use Rattle.ss_names.specs.Positions.{opens}

-- the word of its name that a reason is about: the last one if it is there a second time, the one before a
-- parenthesis if it is used as another thing, and else the first
abbrev pub which_word : Reason → Which
which_word r.DeclaredTwice = Last
which_word r.DisciplinedTwice = Last
which_word r.BrokenTwice = Last
which_word r.ExternalTwice = Last
which_word r.ParameterTwice = Last
which_word r.OwnedTwice = Last
which_word r.JoinedTwice = Last
which_word r.OrderedTwice = Last
which_word r.WrongUse = Opened
which_word _ = First

-- a word is this name
abbrev pub is_name : Plain → List ℕ → Bool
is_name (name m) n = bytes_eq m n
is_name _ n = false

-- a word at a place is this name, in a statement that begins on a line, or on that line itself
abbrev pub is_spoken : List ℕ → ℕ → Here → PlainAt → Bool
is_spoken n line here w = (w.line == line || here.line == line) && is_name w.word n

-- a word before these can be the one that is sought
abbrev pub fits : Which → List PlainAt → Bool
fits Opened ws = opens ws
fits _ ws = true

-- the sought word: the last one, or the first one, by that which was found before and word i
abbrev pub found_with : Which → Option ℕ → ℕ → ℕ
found_with Last found i = i
found_with _ (Some j) i = j
found_with _ None i = i

-- the number of the sought word of a name in the statements of a line among words, after that which was found before
unfoldable pub number_of : Which → List ℕ → ℕ → Option ℕ → Here → List PlainAt → Option ℕ
number_of which n line found here [] = found
number_of which n line found here (w ∷ ws) = number_of which n line
    (if is_spoken n line (here_at here w) w && fits which ws then Some (found_with which found w.index) else found)
    (here_behind here w ws) ws

-- the first number that is there
abbrev pub first_of : Option ℕ → Option ℕ → Option ℕ
first_of (Some i) other = Some i
first_of None other = other

-- the number of the word of a name that a reason is about; without a parenthesis the last word
abbrev pub wrong_number : Reason → List ℕ → ℕ → List PlainAt → Option ℕ
wrong_number reason n line ws = first_of (number_of (which_word reason) n line None at_start ws)
    (number_of Last n line None at_start ws)

-- the number of the word that is wrong, if it is a name in a statement of a line
abbrev pub wrong_word : List PlainAt → ℕ → Reason → Option (List ℕ) → Option ℕ
wrong_word ws line reason None = None
wrong_word ws line reason (Some n) = wrong_number reason n line ws

-- the caret at a column, if there is one, below a line after its number and a mark
abbrev pub line_caret : List ℕ → ℕ → Option ℕ → List ℕ
line_caret model line column = caret_at (decimal line ++ codes "> ") (line_of model line) column

-- the caret at a column of line l, to follow a line; after line l, if that is another one
abbrev pub place_caret : List ℕ → ℕ → ℕ → Option ℕ → List ℕ
place_caret model line l None = []
place_caret model line l (Some column) =
    if l == line then line_caret model line (Some column) else source_text model l (Some column)

-- the caret below a word, if there is one, by its number, to follow a line
abbrev pub word_caret : List ℕ → List WordAt → ℕ → Option ℕ → List ℕ
word_caret model ws line None = []
word_caret model ws line (Some i) = place_caret model line (line_at ws i) (column_at model ws i)
