-- Hints at what is often meant if a word does not fit.
use Rattle.std.specs.Prelude.{ℕ, ◌-◌, ◌&&◌, Bool, true, false, not, List, [], ◌∷◌, ◌++◌, length, take, map, codes}
use Rattle.std.specs.Prelude.{decimal, Option, Some, None}
use Rattle.ss_words.specs.Words.{Kind, name, number, sign, picture, WordAt}
use Rattle.ss_sentences.specs.declared.candidate.Judgement.{Judgement}
use Rattle.ss_sentences.specs.declared.hints.TheConstants.{IFS, ALWAYS, DOS, LOOPS}
use Rattle.ss_sentences.specs.declared.hints.TheConstants.{DROPPED_HINT, RESERVED_HINT, UNIT_HINT, IF_HINT, DO_HINT}
use Rattle.ss_sentences.specs.Candidates.{keeps_article}
use Rattle.ss_sentences.specs.Expected.{fits}
use Rattle.ss_sentences.specs.Pieces.{gaps_filled, last_kind, last_text}
use Rattle.ss_words.specs.Spellings.{is_reserved_name}
use Rattle.ss_columns.specs.Reserved.{dropped_words, is_kind_among}

-- a name, reserved or not
abbrev pub is_name : Kind → Bool
is_name (name n) = true
is_name (number n) = false
is_name (sign s) = false
is_name (picture ls) = false

-- a name that is reserved
abbrev pub is_reserved_word : Kind → Bool
is_reserved_word (name n) = is_reserved_name n
is_reserved_word (number n) = false
is_reserved_word (sign s) = false
is_reserved_word (picture ls) = false

-- A, AN, THE, THIS, MAY or OUTPUT
abbrev pub is_dropped_word : Option Kind → Bool
is_dropped_word None = false
is_dropped_word (Some k) = is_kind_among dropped_words k

-- the last word is dropped: it is one of these, and is not directly after SCHEDULE or CAUSE
abbrev pub ends_in_dropped : List WordAt → Bool
ends_in_dropped ws = is_dropped_word (last_kind None ws) && not (keeps_article (take (length ws - 1) ws))

-- a hint that names a word, if it is given
abbrev pub hint_text : Bool → List ℕ → List ℕ → List ℕ
hint_text is_given hint word = elim is_given [ true ↦ gaps_filled hint word word | false ↦ [] ]

-- the hints for a refused word: it is reserved, if a name fits and no statement begins; it is no
-- unit, if a unit fits
abbrev pub word_hints : List Judgement → Kind → List ℕ → List ℕ
word_hints js kind told =
    hint_text (is_reserved_word kind && fits js (codes "a name") && not (fits js (codes "LET")))
    RESERVED_HINT.now told
    ++ hint_text (is_name kind && not (is_reserved_word kind) && fits js (codes "UNITS")) UNIT_HINT.now told

-- the lines of the words that open blocks which no word after them closes, the innermost last
abbrev pub open_lines : List (List ℕ) → List (List ℕ) → List ℕ → List WordAt → List ℕ
open_lines opening closing lines [] = lines
open_lines opening closing lines (w ∷ ws) = elim (is_kind_among opening w.kind) [
  | true ↦ open_lines opening closing (lines ++ w.line ∷ []) ws
  | false ↦ elim (is_kind_among closing w.kind) [
    | true ↦ open_lines opening closing (take (length lines - 1) lines) ws
    | false ↦ open_lines opening closing lines ws
  ]
]

-- the last of these lines, after this one
abbrev pub last_line : Option ℕ → List ℕ → Option ℕ
last_line last [] = last
last_line last (l ∷ ls) = last_line (Some l) ls

-- a line, if there is one, and if a hint is given
abbrev pub line_hint : Bool → List ℕ → Option ℕ → List ℕ
line_hint is_given hint None = []
line_hint is_given hint (Some l) = hint_text is_given hint (decimal l)

-- the hint for the last of the open blocks, if its end fits
abbrev pub open_hint : Bool → List ℕ → List ℕ → List ℕ
open_hint ends_here hint ls = line_hint ends_here hint (last_line None ls)

-- the hints for the blocks that are open after these words, if their ends fit
abbrev pub block_hints : List Judgement → List WordAt → List ℕ
block_hints js ws =
    let names = map (λ row. row.now) in
    open_hint (fits js (codes "ALWAYS")) IF_HINT.now (open_lines (names IFS) (names ALWAYS) [] ws)
    ++ open_hint (fits js (codes "LOOP")) DO_HINT.now (open_lines (names DOS) (names LOOPS) [] ws)

-- that the last of these words is dropped, if it is
abbrev pub dropped_hint : List WordAt → List ℕ
dropped_hint ws = hint_text (ends_in_dropped ws) DROPPED_HINT.now (last_text ws)

-- the hints that the words before a place give
unfoldable pub front_hints : List Judgement → List WordAt → List ℕ
front_hints js ws = dropped_hint ws ++ block_hints js ws
