-- Lines of a picture that look like statements.
use Rattle.std.specs.Prelude.{ℕ, ◌+◌, ◌==◌, ◌&&◌, not, nat_lt, Bool, true}
use Rattle.std.specs.Prelude.{false, List, [], ◌∷◌, ◌++◌, length, take, drop}
use Rattle.std.specs.Prelude.{take_while, map, codes, decimal}
use Rattle.std.specs.List.{list_any}
use Rattle.ss_words.specs.declared.characters.TheConstants.{ASTERISK}
use Rattle.ss_words.specs.TextBytes.{in_run, is_blank}
use Rattle.ss_words.specs.Words.{Kind, name, number, sign, picture, WordAt}
use Rattle.ss_columns.specs.Reserved.{is_among}
use Rattle.ss_names.specs.declared.printed.TheConstants.{STATEMENT_WORDS, PRINTED}

-- a line after the blanks at its front
abbrev pub behind_blanks : List ℕ → List ℕ
behind_blanks line = drop (length (take_while is_blank line)) line

-- the run at the front of a line
abbrev pub front_run : List ℕ → List ℕ
front_run line = take (length (take_while in_run line)) line

-- the first word of a line
abbrev pub first_word : List ℕ → List ℕ
first_word line = front_run (behind_blanks line)

-- a byte of a field is in a line
abbrev pub has_asterisk : List ℕ → Bool
has_asterisk line = list_any (λ b. b == ASTERISK) line

-- a line of a picture, after `i` lines, looks like a statement: it is not the first, begins with
-- the word of one, and has no field
abbrev pub is_like_statement : ℕ → List ℕ → Bool
is_like_statement i line =
    nat_lt 0 i && is_among (first_word line) (map (λ row. row.now) STATEMENT_WORDS) && not (has_asterisk line)

-- the text about it; the first line has number n
abbrev pub printed_line : ℕ → ℕ → List ℕ → List ℕ
printed_line n i line = codes "Line " ++ decimal (n + i) ++ codes ": " ++ first_word line ++ PRINTED.now

-- each line of a picture, after `i` lines, that looks like a statement
unfoldable pub printed_lines : ℕ → ℕ → List (List ℕ) → List ℕ
printed_lines n i [] = []
printed_lines n i (l ∷ ls) = elim (is_like_statement i l) [
  | true ↦ printed_line n i l ++ printed_lines n (i + 1) ls
  | false ↦ printed_lines n (i + 1) ls
]

-- each such line of a word, if it is a picture
abbrev pub printed_word : ℕ → Kind → List ℕ
printed_word n (picture ls) = printed_lines n 0 ls
printed_word n (name m) = []
printed_word n (number m) = []
printed_word n (sign s) = []

-- each line of a picture of these words that looks like a statement
unfoldable pub printed_text : List WordAt → List ℕ
printed_text [] = []
printed_text (w ∷ ws) = printed_word w.line w.kind ++ printed_text ws
