-- Which words could come in a text that asks for a value at the prompt.
use Rattle.std.specs.Prelude.{ℕ, ◌-◌, ◌&&◌, Bool, true, false, nat_lt, bytes_eq, List, [], ◌∷◌, ◌++◌, length, drop}
use Rattle.std.specs.Prelude.{map, codes, Option, Some, None}
use Rattle.ss_words.specs.Words.{Kind, WordAt}
use Rattle.ss_words.specs.Plain.{Plain, PlainAt, plains}
use Rattle.ss_words.specs.PlainRules.{plain_words_of}
use Rattle.ss_routines.specs.declared.misfit.Misfit.{Misfit}
use Rattle.ss_routines.specs.Misfit.{condition_misfit}
use Rattle.ss_sentences.specs.declared.candidate.Judgement.{Judgement}
use Rattle.ss_sentences.specs.declared.candidate.Tried.{Tried}
use Rattle.ss_sentences.specs.declared.expected.TheConstants.{EXPECTED, FIRST_ROOM, FURTHER_ROOM}
use Rattle.ss_sentences.specs.declared.hints.TheConstants.{RESERVED_HINT}
use Rattle.ss_sentences.specs.Candidates.{candidates, is_dropped, with_candidate}
use Rattle.ss_sentences.specs.Expected.{separator}
use Rattle.ss_sentences.specs.Grammar.{is_end}
use Rattle.ss_sentences.specs.Hints.{hint_text, is_reserved_word}

-- ---- the words that fit

-- the plain words of a text that is read after IF
abbrev pub after_if : List WordAt → List PlainAt
after_if ws = drop 1 (plain_words_of ws)

-- words that are no condition may go on to one: only their end is refused
abbrev pub is_going : Option Misfit → Bool
is_going None = true
is_going (Some misfit) = is_end misfit.rule

-- the words after IF are a condition, or may go on to one
abbrev pub goes_on : List WordAt → Bool
goes_on ws = is_going (condition_misfit (plains (after_if ws)))

-- a candidate fits after these words
abbrev pub fits_after : List WordAt → List ℕ → Tried → Bool
fits_after ws told tried = elim (is_dropped ws tried) [ true ↦ false | false ↦ goes_on (with_candidate ws told tried) ]

-- how a candidate is printed, and whether it fits
abbrev pub Judged : Type 0
Judged = List ℕ × Bool

-- a candidate, judged after these words
abbrev pub judged_after : List WordAt → List ℕ × Tried → Judged
judged_after ws row = (row.0, fits_after ws row.0 row.1)

-- each candidate, judged after these words
unfoldable pub all_judged : List WordAt → List Judged
all_judged ws = map (judged_after ws) candidates

-- what the code has of a judgement
abbrev pub judged_view : Judgement → Judged
judged_view j = (j.told.now, j.fits)

-- ---- how they are printed

-- a candidate in the list, if it fits, and the rest of the list; one without room in the `room` bytes left on a line is
-- on a new line
abbrev pub one_listed : List ℕ → Bool → Bool → ℕ → (Bool → ℕ → List ℕ) → List ℕ
one_listed told fits is_first room rest = elim fits [
  | false ↦ rest is_first room
  | true ↦ elim (nat_lt (room - length told) 2) [
    | true ↦ codes ",\n  " ++ told ++ rest false (FURTHER_ROOM - length told)
    | false ↦ separator is_first ++ told ++ rest false (room - length told - 2)
  ]
]

-- the candidates that fit
abbrev pub listed : Bool → ℕ → List Judged → List ℕ
listed is_first room [] = codes "\n"
listed is_first room (j ∷ js) = one_listed j.0 j.1 is_first room (λ first left. listed first left js)

-- the list of the candidates that could be at a place
unfoldable pub expected_of : List Judged → List ℕ
expected_of js = EXPECTED.now ++ listed true FIRST_ROOM js

-- a candidate that is printed so fits
abbrev pub fits_among : List Judged → List ℕ → Bool
fits_among [] told = false
fits_among (j ∷ js) told = elim (j.1 && bytes_eq j.0 told) [ true ↦ true | false ↦ fits_among js told ]

-- the hint for a refused word: it is reserved, if a name fits
abbrev pub reserved_hint : List Judged → Kind → List ℕ → List ℕ
reserved_hint js kind told =
    hint_text (is_reserved_word kind && fits_among js (codes "a name")) RESERVED_HINT.now told
