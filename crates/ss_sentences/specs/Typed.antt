-- A line of the prompt as it was typed: the words of a command, and then a text.
use Rattle.std.specs.Prelude.{ℕ, zero, suc, ◌+◌, ◌-◌, ◌||◌, ◌==◌, Bool, true, false, List, [], ◌∷◌}
use Rattle.std.specs.Prelude.{take, drop, map, Option}
use Rattle.std.specs.Char.{to_ascii_uppercase}
use Rattle.ss_words.specs.declared.characters.TheConstants.{BLANK, CARRIAGE_RETURN, TAB}
use Rattle.ss_sentences.specs.Misread.{misread}

-- a byte separates words
abbrev pub separates : ℕ → Bool
separates b = b == BLANK || b == TAB || b == CARRIAGE_RETURN

-- how many bytes are before the first word
unfoldable pub gap_len : List ℕ → ℕ
gap_len [] = 0
gap_len (b ∷ bs) = elim (separates b) [ true ↦ 1 + gap_len bs | false ↦ 0 ]

-- how many bytes a word at the front has
unfoldable pub word_len : List ℕ → ℕ
word_len [] = 0
word_len (b ∷ bs) = elim (separates b) [ true ↦ 0 | false ↦ 1 + word_len bs ]

-- a line from its first word on
abbrev pub from_word : List ℕ → List ℕ
from_word line = drop (gap_len line) line

-- how many bytes are up to the end of the first word
abbrev pub first_end : List ℕ → ℕ
first_end line = gap_len line + word_len (from_word line)

-- how many bytes are up to the end of the first n words
unfoldable pub words_end : ℕ → List ℕ → ℕ
words_end zero line = 0
words_end (suc n) line = first_end line + words_end n (drop (first_end line) line)

-- the first word of a line, in upper case
abbrev pub word_told : List ℕ → List ℕ
word_told line = map to_ascii_uppercase (take (word_len (from_word line)) (from_word line))

-- why the text after the first n words of a line is neither a condition nor, if it may be one, an expression
unfoldable pub line_misread : ℕ → Bool → List ℕ → Option (List ℕ)
line_misread n is_condition line =
    misread (take (words_end n line) line) (word_told (drop (words_end (n - 1) line) line))
    (drop (words_end n line) line) is_condition
