-- The plain words of the code after the first one.
use Rattle.std.proofs.Common.{◌≡◌, List, [], ◌∷◌, map, refl, ap, sym, ◌∙◌}
use Rattle.ss_words.specs.declared.plain_word.PlainWord.{PlainWord}
use Rattle.ss_words.specs.Words.{WordAt}
use Rattle.ss_words.specs.PlainRules.{plain_words_of}
use Rattle.ss_words.specs.Plain.{Plain, PlainAt, plains, plain_at, plain_in, plains_of}
use Rattle.ss_words.specs.Reading.{rest_of}

-- the words without their lines and places
plains_at : (xs : List PlainWord) → plains (map plain_at xs) ≡ plains_of xs
plains_at [] = refl
plains_at (x ∷ xs) = ap (λ (ws : List Plain). plain_in x ∷ ws) (plains_at xs)

-- those after the first
pub words_after : (ws : List WordAt) (all rest : List PlainWord) (first : PlainWord) →
    map plain_at all ≡ plain_words_of ws → all ≡ first ∷ rest → rest_of (plains (plain_words_of ws)) ≡ plains_of rest
words_after ws all rest first h e =
    ap (λ (v : List PlainAt). rest_of (plains v)) (sym h) ∙ ap (λ (v : List PlainWord). rest_of (plains (map plain_at v))) e
    ∙ plains_at rest

-- none are after the first of none
pub no_words : (ws : List WordAt) (all : List PlainWord) →
    map plain_at all ≡ plain_words_of ws → all ≡ [] → rest_of (plains (plain_words_of ws)) ≡ []
no_words ws all h e =
    ap (λ (v : List PlainAt). rest_of (plains v)) (sym h) ∙ ap (λ (v : List PlainWord). rest_of (plains (map plain_at v))) e
