-- The lines of a text, and the columns at which words begin.
use Rattle.std.specs.Prelude.{ℕ, zero, suc, ◌+◌, ◌-◌, Bool, true, false, not, ◌==◌, ◌&&◌, ◌||◌, List, [], ◌∷◌}
use Rattle.std.specs.Prelude.{take, Option, is_some, slice_index, slice_get, map}
use Rattle.ss_words.specs.declared.characters.TheConstants.{BLANK, CARRIAGE_RETURN, LINE_FEED, STOP}
use Rattle.ss_words.specs.Words.{WordAt}
use Rattle.ss_words.specs.TextBytes.{in_run, is_joined, one_byte_sign}
use Rattle.ss_words.specs.TextLines.{with_blank_comments}

-- ---- lines

-- the text after the first line feed
unfoldable pub behind_feed : List ℕ → List ℕ
behind_feed [] = []
behind_feed (b ∷ bs) = elim (b == LINE_FEED) [ true ↦ bs | false ↦ behind_feed bs ]

-- the text after the first n line feeds
unfoldable pub behind_feeds : ℕ → List ℕ → List ℕ
behind_feeds zero text = text
behind_feeds (suc n) text = behind_feeds n (behind_feed text)

-- ends a line, or is dropped before that
abbrev pub is_line_end : ℕ → Bool
is_line_end b = b == LINE_FEED || b == CARRIAGE_RETURN

-- how many bytes are before the first of these, or before the end
unfoldable pub line_len : List ℕ → ℕ
line_len [] = 0
line_len (b ∷ bs) = elim (is_line_end b) [ true ↦ 0 | false ↦ 1 + line_len bs ]

-- line n of a text, from 1, up to its carriage return or line feed
unfoldable pub line_of : List ℕ → ℕ → List ℕ
line_of text n = let rest = behind_feeds (n - 1) text in take (line_len rest) rest

-- ---- columns

-- a run with a letter or a digit begins here
unfoldable pub begins_run : List ℕ → Bool
begins_run [] = false
begins_run (b ∷ bs) = elim (in_run b) [
  | true ↦ (elim (b == STOP) [ true ↦ begins_run bs | false ↦ true ])
  | false ↦ false
]

-- a run with a letter or a digit, or a sign, begins here, after the byte `last`
unfoldable pub begins_word : ℕ → List ℕ → Bool
begins_word last [] = false
begins_word last (b ∷ bs) = not (is_joined last b) && (begins_run (b ∷ bs) || is_some (one_byte_sign b))

-- the columns, counted from `at`, at which words begin, after the byte `last`
unfoldable pub columns_from : ℕ → ℕ → List ℕ → List ℕ
columns_from at last [] = []
columns_from at last (b ∷ bs) = elim (begins_word last (b ∷ bs)) [
  | true ↦ at ∷ columns_from (at + 1) b bs
  | false ↦ columns_from (at + 1) b bs
]

-- the columns of a line, from 1, at which its words begin: outside comments
unfoldable pub columns : List ℕ → List ℕ
columns line = columns_from 1 BLANK (with_blank_comments false line)

-- ---- places of words

-- how many of the words are on line n
unfoldable pub count_on : ℕ → List WordAt → ℕ
count_on n [] = 0
count_on n (w ∷ ws) = elim (w.line == n) [ true ↦ 1 + count_on n ws | false ↦ count_on n ws ]

-- the line of word i; 0 if there is no such word
abbrev pub line_at : List WordAt → ℕ → ℕ
line_at ws i = slice_index (map (λ w. w.line) ws) i

-- the column of word i of a text; `ws` are the text's words. If n words of its line are before it,
-- its column is after n columns of that line. It is none for a picture, and if there is no such
-- word
unfoldable pub column_at : List ℕ → List WordAt → ℕ → Option ℕ
column_at text ws i = slice_get (columns (line_of text (line_at ws i))) (count_on (line_at ws i) (take i ws))
