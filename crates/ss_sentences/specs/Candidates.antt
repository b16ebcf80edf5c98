-- The candidates: which words could come after other words.
use Rattle.std.specs.Prelude.{◌≡◌, ℕ, Bool, true, false, not, List, [], ◌∷◌, ◌++◌, length, codes, map, Option}
use Rattle.std.specs.Prelude.{Some, None}
use Rattle.ss_words.specs.Words.{Kind, name, number, sign, WordAt}
use Rattle.ss_words.specs.PlainRules.{plain_words_of}
use Rattle.ss_sentences.specs.declared.candidate.Judgement.{Judgement}
use Rattle.ss_sentences.specs.declared.candidate.TheConstants.{CANDIDATES}
use Rattle.ss_sentences.specs.declared.candidate.Tried.{Tried}
use Rattle.ss_sentences.specs.declared.candidate.Tried.TheVariants as t
use Rattle.ss_sentences.specs.Grammar.{IsGoing}
use Rattle.ss_sentences.specs.Pieces.{last_kind}
use Rattle.ss_columns.specs.Reserved.{is_kind_among, scheduling_words}

-- the word that is tried: one name for all names, one number for all numbers
abbrev pub candidate_kind : List ℕ → Tried → Kind
candidate_kind told t.AName = name (codes "X")
candidate_kind told t.ANumber = number 1
candidate_kind told (t.Sign s) = sign s
candidate_kind told t.Reserved = name told
candidate_kind told t.Article = name told

-- how each candidate is printed, and the word that is tried for it
unfoldable pub candidates : List (List ℕ × Tried)
candidates = map (λ row. (row.0.now, row.1)) CANDIDATES

-- the candidate that is judged
abbrev pub candidate_of : Judgement → List ℕ × Tried
candidate_of judgement = (judgement.told.now, judgement.tried)

-- the words and the candidate after them, with its number for its line
abbrev pub with_candidate : List WordAt → List ℕ → Tried → List WordAt
with_candidate ws told tried = ws ++ record { line = length ws; kind = candidate_kind told tried } ∷ []

-- SCHEDULE or CAUSE
abbrev pub is_scheduling : Option Kind → Bool
is_scheduling None = false
is_scheduling (Some k) = is_kind_among scheduling_words k

-- the last word is SCHEDULE or CAUSE
abbrev pub keeps_article : List WordAt → Bool
keeps_article ws = is_scheduling (last_kind None ws)

-- it is an article, which is dropped after these words
abbrev pub is_dropped : List WordAt → Tried → Bool
is_dropped ws t.Article = not (keeps_article ws)
is_dropped ws t.AName = false
is_dropped ws t.ANumber = false
is_dropped ws (t.Sign s) = false
is_dropped ws t.Reserved = false

-- a candidate fits after these words: with it they are a program, or are refused because they end
abbrev pub IsFitting : List WordAt → List ℕ → Tried → Bool → Type 0
IsFitting ws told tried fits = elim (is_dropped ws tried) [
  | true ↦ fits ≡ false
  | false ↦ IsGoing fits (plain_words_of (with_candidate ws told tried))
]
