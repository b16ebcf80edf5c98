-- Hints at what is often meant by the words of other languages, and by a misspelt word.
use Rattle.std.specs.Prelude.{ℕ, ◌-◌, ◌&&◌, Bool, true, false, List, [], ◌++◌, length, take, map, codes}
use Rattle.std.specs.Prelude.{Option, Some, None, if◌then◌else◌}
use Rattle.ss_words.specs.declared.word.Sign.{Sign}
use Rattle.ss_words.specs.declared.word.Sign.TheVariants.{Less, Greater, Equal}
use Rattle.ss_words.specs.Words.{Kind, name, sign, WordAt}
use Rattle.ss_words.specs.Spellings.{is_reserved_name}
use Rattle.ss_columns.specs.Reserved.{is_kind_among}
use Rattle.ss_sentences.specs.declared.candidate.Judgement.{Judgement}
use Rattle.ss_sentences.specs.declared.meant.TheConstants.{THENS, LOOP_ENDS, NOTS, PROCESS_WORDS, FIRST_WORDS}
use Rattle.ss_sentences.specs.declared.meant.TheConstants.{THEN_HINT, LOOP_END_HINT, NOT_HINT, PROCESS_HINT}
use Rattle.ss_sentences.specs.declared.meant.TheConstants.{UNEQUAL_HINT, EQUAL_HINT, AT_LEAST_HINT, AT_MOST_HINT}
use Rattle.ss_sentences.specs.declared.meant.TheConstants.{MISSPELT_HINT}
use Rattle.ss_sentences.specs.Expected.{fits}
use Rattle.ss_sentences.specs.Hints.{ends_in_dropped}
use Rattle.ss_sentences.specs.Near.{nearest}
use Rattle.ss_sentences.specs.Pieces.{gaps_filled, last_kind}

-- a hint, if it is given
abbrev pub given : Bool → List ℕ → List ℕ
given is_given hint = if is_given then hint else []

-- the hint for two signs that do not fit together
abbrev pub sign_hint : Sign → Sign → List ℕ
sign_hint Less Greater = UNEQUAL_HINT.now
sign_hint Equal Equal = EQUAL_HINT.now
sign_hint Equal Greater = AT_LEAST_HINT.now
sign_hint Equal Less = AT_MOST_HINT.now
sign_hint _ _ = []

-- the hint for the refused word and the one before it, if both are signs
abbrev pub signs_hint : Option Kind → Kind → List ℕ
signs_hint (Some (sign s)) (sign t) = sign_hint s t
signs_hint _ _ = []

-- a word is one of processes
abbrev pub is_of_processes : Option Kind → Bool
is_of_processes None = false
is_of_processes (Some k) = is_kind_among (map (λ row. row.now) PROCESS_WORDS) k

-- the words without the last one, if that is dropped
abbrev pub without_dropped : List WordAt → List WordAt
without_dropped ws = elim (ends_in_dropped ws) [ true ↦ take (length ws - 1) ws | false ↦ ws ]

-- the hint that a name is nearly this word, if there is one
abbrev pub nearest_text : List ℕ → Option (List ℕ) → List ℕ
nearest_text n None = []
nearest_text n (Some meant) = gaps_filled MISSPELT_HINT.now n meant

-- the hint that a name is nearly the first word of a statement
abbrev pub nearest_hint : List ℕ → List ℕ
nearest_hint n = nearest_text n (nearest n (map (λ row. row.now) FIRST_WORDS))

-- that hint for a word, if it is a name and not reserved
abbrev pub misspelt_hint : Option Kind → List ℕ
misspelt_hint (Some (name n)) = if is_reserved_name n then [] else nearest_hint n
misspelt_hint _ = []

-- the hints for the last word that is not dropped
abbrev pub last_hints : Option Kind → List ℕ
last_hints last = given (is_of_processes last) PROCESS_HINT.now ++ misspelt_hint last

-- the hints for the words before a place at which an assignment could go on
abbrev pub assigned_hints : List WordAt → List ℕ
assigned_hints ws = last_hints (last_kind None (without_dropped ws))

-- the hints for a refused word after these words: THEN after a condition; WHILE or UNTIL if a
-- statement could begin; NOT; two signs; a word of processes; the word before it if an assignment
-- could go on
unfoldable pub meant_hints : List Judgement → List WordAt → Kind → List ℕ
meant_hints js ws kind =
    given (is_kind_among (map (λ row. row.now) THENS) kind && fits js (codes "AND")) THEN_HINT.now
    ++ given (is_kind_among (map (λ row. row.now) LOOP_ENDS) kind && fits js (codes "LET")) LOOP_END_HINT.now
    ++ given (is_kind_among (map (λ row. row.now) NOTS) kind) NOT_HINT.now ++ signs_hint (last_kind None ws) kind
    ++ given (is_kind_among (map (λ row. row.now) PROCESS_WORDS) kind) PROCESS_HINT.now
    ++ (if fits js (codes "=") then assigned_hints ws else [])
