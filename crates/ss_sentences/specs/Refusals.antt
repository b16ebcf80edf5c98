-- The explanation of a model that a rule L or P refuses.
use Rattle.std.specs.Prelude.{◌≡◌, ◌⊎◌, ℕ, ◌+◌, ◌<◌, ◌≤◌, true, false, List, [], ◌∷◌, ◌++◌, length, take, map}
use Rattle.std.specs.Prelude.{codes, Option, Some, None, slice_get, Ok, Err, All}
use Rattle.ss_words.specs.declared.fault.TextRule.{TextRule}
use Rattle.ss_words.specs.declared.fault.TextRule.TheVariants as r
use Rattle.ss_words.specs.declared.fault.TextFault.TheVariants.{Refused}
use Rattle.ss_words.specs.Faults.{text_rule_code}
use Rattle.ss_words.specs.Words.{WordAt}
use Rattle.ss_words.specs.TextWords.{words_of}
use Rattle.ss_words.specs.PlainRules.{plain_words_of}
use Rattle.ss_columns.specs.Columns.{line_at, column_at}
use Rattle.ss_columns.specs.Numbers.{words_by_number}
use Rattle.ss_sentences.specs.declared.candidate.Judgement.{Judgement}
use Rattle.ss_sentences.specs.declared.refusal.TheConstants.{LONGEST_TEXT_JUDGED}
use Rattle.ss_sentences.specs.Candidates.{IsFitting, candidate_of, candidates}
use Rattle.ss_sentences.specs.Expected.{expected_text}
use Rattle.ss_sentences.specs.Grammar.{IsRefused, IsSpelled, is_end}
use Rattle.ss_sentences.specs.Hints.{block_hints, front_hints, word_hints}
use Rattle.ss_sentences.specs.Meant.{meant_hints}
use Rattle.ss_columns.specs.Quotes.{source_text}
use Rattle.ss_sentences.specs.Pieces.{gaps_filled, last_text, place_text}
use Rattle.ss_sentences.specs.Unread.{unread_text}
use Rattle.ss_sentences.specs.Wording.{rule_sentence}

-- how the last of the first `count` words is printed
abbrev pub told_before : List WordAt → ℕ → List ℕ
told_before ws count = last_text (take count ws)

-- the sentence of a rule P at word i: with the word itself and the one before it, the line, and a caret below the word
abbrev pub sentence_text : List ℕ → List WordAt → TextRule → ℕ → List ℕ
sentence_text model ws rule i =
    place_text (line_at ws i) (column_at model ws i)
    ++ gaps_filled (rule_sentence (text_rule_code rule)) (told_before ws (i + 1)) (told_before ws i)
    ++ codes "\n" ++ source_text model (line_at ws i) (column_at model ws i)

-- each candidate is judged after these words; none is if the text is too long
unfoldable pub AreJudged : List ℕ → List WordAt → List Judgement → Type 0
AreJudged model front js =
    ((LONGEST_TEXT_JUDGED < length model) × (js ≡ []))
    ⊎ ((length model ≤ LONGEST_TEXT_JUDGED) × All (λ j. IsFitting front j.told.now j.tried j.fits) js
    × (map candidate_of js ≡ candidates))

-- the list of the candidates that could be at a place, if they are judged
abbrev pub judged_text : List Judgement → List ℕ
judged_text [] = []
judged_text (j ∷ js) = expected_text (j ∷ js)

-- the hints for a word after others, if there is one
abbrev pub hints_at : List Judgement → List WordAt → Option WordAt → List ℕ → List ℕ
hints_at js before None told = []
hints_at js before (Some w) told = word_hints js w.kind told ++ meant_hints js before w.kind

-- the list of the candidates in the place of word i, and hints
abbrev pub unexpected_text : List WordAt → ℕ → List Judgement → List ℕ
unexpected_text ws i js =
    judged_text js ++ hints_at js (take i ws) (slice_get ws i) (told_before ws (i + 1)) ++ front_hints js (take i ws)

-- the list of the candidates at the end of the words, and which blocks are open there
abbrev pub ended_text : List WordAt → List Judgement → List ℕ
ended_text ws js = judged_text js ++ block_hints js ws

-- the text after the sentence of a rule at word i
abbrev pub behind_text : List WordAt → TextRule → ℕ → List Judgement → List ℕ
behind_text ws r.UnexpectedWord i js = unexpected_text ws i js
behind_text ws r.UnexpectedEnd i js = ended_text ws js
behind_text ws _ i js = []

-- the words after which candidates are judged: all at their end, and else those before word i
abbrev pub front_of : List WordAt → TextRule → ℕ → List WordAt
front_of ws rule i = elim (is_end rule) [ true ↦ words_by_number ws | false ↦ words_by_number (take i ws) ]

-- a text explains the refusal of words by a rule at word i
unfoldable pub IsSaidOf : List ℕ → List WordAt → TextRule → ℕ → List ℕ → Type 0
IsSaidOf model ws rule i said =
    (js : List Judgement) × AreJudged model (front_of ws rule i) js
    × (said ≡ sentence_text model ws rule i ++ behind_text ws rule i js)

-- a text explains words: it is empty if they are a program; else it explains their refusal at word
-- i. That is the line of their refusal when each word is on a line of its own, numbered from 0.
unfoldable pub AreSaid : List ℕ → List WordAt → List ℕ → Type 0
AreSaid model ws said =
    (IsSpelled (plain_words_of (words_by_number ws)) × (said ≡ []))
    ⊎ ((rule : TextRule) × (i : ℕ) × IsRefused rule i (plain_words_of (words_by_number ws))
    × IsSaidOf model ws rule i said)

-- a text explains a model
unfoldable pub IsSaid : List ℕ → List ℕ → Type 0
IsSaid model said =
    ((rule : TextRule) × (line : ℕ) × (words_of model ≡ Err (Refused rule line)) × (said ≡ unread_text model rule line))
    ⊎ ((ws : List WordAt) × (words_of model ≡ Ok ws) × AreSaid model ws said)
