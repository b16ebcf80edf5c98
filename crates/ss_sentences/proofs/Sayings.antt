-- The explanation of a model, from its parts.
use Rattle.std.proofs.Common.{◌≡◌, ◌++◌, inl, inr, ℕ, ◌<◌, ◌≤◌, List, [], length, map, Ok, Err}
use Rattle.std.specs.Prelude.{All}
use Rattle.ss_words.specs.declared.fault.TextRule.{TextRule}
use Rattle.ss_words.specs.declared.fault.TextFault.TheVariants.{Refused}
use Rattle.ss_words.specs.Words.{WordAt}
use Rattle.ss_words.specs.TextWords.{words_of}
use Rattle.ss_words.specs.PlainRules.{plain_words_of}
use Rattle.ss_columns.specs.Numbers.{words_by_number}
use Rattle.ss_sentences.specs.declared.candidate.Judgement.{Judgement}
use Rattle.ss_sentences.specs.declared.refusal.TheConstants.{LONGEST_TEXT_JUDGED}
use Rattle.ss_sentences.specs.Candidates.{IsFitting, candidate_of, candidates}
use Rattle.ss_sentences.specs.Grammar.{IsRefused, IsSpelled}
use Rattle.ss_sentences.specs.Refusals.{AreJudged, AreSaid, IsSaid, IsSaidOf, behind_text, front_of, sentence_text}
use Rattle.ss_sentences.specs.Unread.{unread_text}

-- that of words that are refused by a rule
pub said_by_rule : (model : List ℕ) (ws : List WordAt) (rule : TextRule) (i : ℕ) (js : List Judgement) (said : List ℕ)
    → AreJudged model (front_of ws rule i) js → said ≡ sentence_text model ws rule i ++ behind_text ws rule i js
    → IsSaidOf model ws rule i said
unfolding IsSaidOf
said_by_rule model ws rule i js said j e = (js, j, e)

-- no candidate is judged for a long text
pub judged_none : (model : List ℕ) (front : List WordAt) (js : List Judgement) → LONGEST_TEXT_JUDGED < length model
    → js ≡ [] → AreJudged model front js
unfolding AreJudged
judged_none model front js long e = inl (long, e)

-- each candidate is judged for another text
pub judged_all : (model : List ℕ) (front : List WordAt) (js : List Judgement) → length model ≤ LONGEST_TEXT_JUDGED
    → All (λ j. IsFitting front j.told.now j.tried j.fits) js → map candidate_of js ≡ candidates
    → AreJudged model front js
unfolding AreJudged
judged_all model front js short all complete = inr (short, all, complete)

-- a program has the empty explanation
pub said_of_none : (model : List ℕ) (ws : List WordAt) (said : List ℕ) → IsSpelled (plain_words_of (words_by_number ws))
    → said ≡ [] → AreSaid model ws said
unfolding AreSaid
said_of_none model ws said h e = inl (h, e)

-- of words that are refused
pub said_of_refused : (model : List ℕ) (ws : List WordAt) (rule : TextRule) (i : ℕ) (said : List ℕ)
    → IsRefused rule i (plain_words_of (words_by_number ws)) → IsSaidOf model ws rule i said → AreSaid model ws said
unfolding AreSaid
said_of_refused model ws rule i said h s = inr (rule, i, h, s)

-- of a text without words
pub said_of_text : (model : List ℕ) (rule : TextRule) (line : ℕ) (said : List ℕ)
    → words_of model ≡ Err (Refused rule line) → said ≡ unread_text model rule line → IsSaid model said
unfolding IsSaid
said_of_text model rule line said h e = inl (rule, line, h, e)

-- of a text with words
pub said_of_its_words : (model : List ℕ) (ws : List WordAt) (said : List ℕ) → words_of model ≡ Ok ws
    → AreSaid model ws said → IsSaid model said
unfolding IsSaid
said_of_its_words model ws said h s = inr (ws, h, s)

-- of judgements
pub ruleset of_judgements = (judged_none, judged_all)

-- by rules
pub ruleset of_rules = (said_by_rule)

-- of words
pub ruleset of_words = (said_of_none, said_of_refused)

-- of models
pub ruleset of_models = (said_of_text, said_of_its_words)
