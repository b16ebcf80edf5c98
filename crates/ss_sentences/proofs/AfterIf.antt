-- The plain words of the code after the first one.
use Rattle.std.proofs.Common.{◌≡◌, ℕ, suc, min, Bool, true, false, List, [], ◌∷◌, length, map, drop, Option, Some, None}
use Rattle.std.proofs.Common.{refl, ap, sym, ◌∙◌, arith}
use Rattle.std.specs.Prelude.{is_some, slice_index, if◌then◌else◌}
use Rattle.ss_words.specs.Reading.{option_view}
use Rattle.ss_routines.specs.declared.misfit.Misfit.{Misfit}
use Rattle.ss_routines.specs.declared.tree.expr.Expr.{Expr as Code}
use Rattle.ss_routines.specs.Asked.{expression_in}
use Rattle.ss_routines.specs.Misfit.{condition_misfit}
use Rattle.ss_routines.specs.View.{expr_view}
use Rattle.ss_sentences.specs.Misread.{is_value, word_number, at_word, plain_misfit}
use Rattle.ss_words.specs.declared.plain_word.PlainWord.{PlainWord}
use Rattle.ss_words.specs.Words.{WordAt}
use Rattle.ss_words.specs.PlainRules.{plain_words_of}
use Rattle.ss_words.specs.Plain.{Plain, PlainAt, plains, plain_at, plain_in, plains_of}

-- those after the first
pub rest_views : (all : List PlainWord) → map plain_at (drop (min (length all) 1) all) ≡ drop 1 (map plain_at all)
rest_views [] = refl
rest_views (x ∷ xs) =
    let e : min (suc (length xs)) 1 ≡ 1 = omega arith in ap (λ (n : ℕ). map plain_at (drop n (x ∷ xs))) e

pub ruleset rests = (rest_views)

-- without their lines and places
pub plains_at : (xs : List PlainWord) → plains (map plain_at xs) ≡ plains_of xs
plains_at [] = refl
plains_at (x ∷ xs) = ap (λ (ws : List Plain). plain_in x ∷ ws) (plains_at xs)

-- the plain words after IF
pub after : (ws : List WordAt) (all rest : List PlainWord) → map plain_at all ≡ plain_words_of ws
    → map plain_at rest ≡ drop 1 (map plain_at all) → plains_of rest ≡ plains (drop 1 (plain_words_of ws))
after ws all rest e f =
    sym (plains_at rest) ∙ ap plains (f ∙ ap (λ (v : List PlainAt). drop 1 v) e)

pub ruleset plainly = (after)

-- ---- misfits

some_views : {A B : Type 0} (f : A → B) (o : Option A) → is_some o ≡ is_some (option_view f o)
some_views f None = refl
some_views f (Some a) = refl

-- an expression is right, if one may be there
pub value_views : (b : Bool) (ws : List PlainWord) (o : Option Code) → b ≡ false
    → option_view expr_view o ≡ expression_in (plains_of ws) → is_some o ≡ is_value b (plains (map plain_at ws))
value_views true ws o e h = absurd cc
value_views false ws o e h =
    some_views expr_view o ∙ ap is_some h ∙ sym (ap (λ (v : List Plain). is_some (expression_in v)) (plains_at ws))

pub ruleset values = (value_views)

-- no words are no misfit
pub no_words : (b : Bool) (ws : List PlainWord) → ws ≡ [] → None ≡ plain_misfit b (map plain_at ws)
no_words b ws e = sym (ap (λ (v : List PlainWord). plain_misfit b (map plain_at v)) e)

-- nor are words that are right
pub right_words : (b v : Bool) (ws : List PlainWord) → v ≡ is_value b (plains (map plain_at ws)) → v ≡ true
    → None ≡ plain_misfit b (map plain_at ws)
right_words b v [] e t = refl
right_words b v (w ∷ ws) e t =
    let found = at_word (map plain_at (w ∷ ws)) (condition_misfit (plains (map plain_at (w ∷ ws)))) in
    ap (λ (x : Bool). if x then None else found) (sym t ∙ e)

-- the misfit of others is that of a condition
pub other_words : (b v : Bool) (ws : List PlainWord) (m : Option Misfit) → (ws ≡ [] → ⊥)
    → v ≡ is_value b (plains (map plain_at ws)) → v ≡ false → m ≡ condition_misfit (plains_of ws)
    → at_word (map plain_at ws) m ≡ plain_misfit b (map plain_at ws)
other_words b v [] m some e t h = absurd (some refl)
other_words b v (w ∷ ws) m some e t h =
    let all = w ∷ ws in
    let words : plains_of all ≡ plains (map plain_at all) = sym (plains_at all) in
    ap (at_word (map plain_at all)) (h ∙ ap condition_misfit words)
    ∙ ap (λ (x : Bool). if x then None else at_word (map plain_at all) (condition_misfit (plains (map plain_at all))))
    (sym t ∙ e)

-- the number of a word, in the list of the code
indexes : (ws : List PlainWord) → map (λ (w : PlainAt). w.index) (map plain_at ws) ≡ map (λ (w : PlainWord). w.index) ws
indexes [] = refl
indexes (w ∷ ws) = ap (λ (ks : List ℕ). w.index ∷ ks) (indexes ws)

pub some_misfit : (b v : Bool) (ws : List PlainWord) (m : Misfit) (i : ℕ) → (ws ≡ [] → ⊥)
    → v ≡ is_value b (plains (map plain_at ws)) → v ≡ false → Some m ≡ condition_misfit (plains_of ws)
    → i ≡ slice_index (map (λ (w : PlainWord). w.index) ws) m.word
    → (let it : Misfit = record { rule = m.rule; word = i } in Some it) ≡ plain_misfit b (map plain_at ws)
some_misfit b v ws m i some e t h n =
    let there : i ≡ word_number (map plain_at ws) m.word = n
    ∙ sym (ap (λ (ks : List ℕ). slice_index ks m.word) (indexes ws)) in
    ap (λ (j : ℕ). let it : Misfit = record { rule = m.rule; word = j } in Some it) there
    ∙ other_words b v ws (Some m) some e t h

pub none_misfit : (b v : Bool) (ws : List PlainWord) → (ws ≡ [] → ⊥) → v ≡ is_value b (plains (map plain_at ws))
    → v ≡ false → None ≡ condition_misfit (plains_of ws) → None ≡ plain_misfit b (map plain_at ws)
none_misfit b v ws some e t h = other_words b v ws None some e t h

pub ruleset misfits = (no_words, right_words, some_misfit, none_misfit)
