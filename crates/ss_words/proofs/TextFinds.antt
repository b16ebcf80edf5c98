-- The findings in parts: the words so far, and the findings that are still to come.
use Rattle.std.proofs.Common.{◌≡◌, ℕ, List, [], ◌∷◌, ◌++◌, map, Some, Ok, Err, refl, sym, ap, ◌∙◌, subst, append_assoc}
use Rattle.std.proofs.Common.{append-nil}
use Rattle.ss_words.specs.declared.fault.TextRule.{TextRule}
use Rattle.ss_words.specs.declared.fault.TextFault.{TextFault}
use Rattle.ss_words.specs.declared.fault.TextFault.TheVariants.{Refused, Memory}
use Rattle.ss_words.specs.Words.{Kind, WordAt}
use Rattle.ss_words.specs.TextWords.{Finding, word, breach, words_in, breaches_in, nearest_first, answer_of}
use Rattle.ss_words.specs.TextWords.{found_in_text, words_of, IsRefusalOf}
use Rattle.ss_words.specs.TextScan.{nearest_before, nearest, SameFindings, first_breach, IsFirstIn}

nearest_before-push : (ws : List WordAt) (w : WordAt) (ks : List Kind)
    → nearest_before (ws ++ w ∷ []) ks ≡ w.kind ∷ nearest_before ws ks
nearest_before-push [] w ks = refl
nearest_before-push (v ∷ ws) w ks = nearest_before-push ws w (v.kind ∷ ks)

pub nearest-push : (ws : List WordAt) (w : WordAt) → nearest (ws ++ w ∷ []) ≡ w.kind ∷ nearest ws
unfolding nearest
nearest-push ws w = nearest_before-push ws w []

pub nearest-nil : nearest [] ≡ []
unfolding nearest
nearest-nil = refl

nearest_first-words : (ws : List WordAt) (fs : List Finding) (ks : List Kind)
    → nearest_first (map word ws ++ fs) ks ≡ nearest_first fs (nearest_before ws ks)
nearest_first-words [] fs ks = refl
nearest_first-words (w ∷ ws) fs ks = nearest_first-words ws fs (w.kind ∷ ks)

-- if no finding is left, the words are those before and those found
pub nearest-after : (old : List WordAt) (todo : List Finding) (new : List WordAt) → SameFindings old todo new []
    → nearest new ≡ nearest_first todo (nearest old)
unfolding nearest
nearest-after old todo new goes =
    sym (nearest_first-words new [] []) ∙ ap (λ (fs : List Finding). nearest_first fs []) (sym goes)
    ∙ nearest_first-words old todo []

first_breach-words : (ws : List WordAt) (fs : List Finding) → first_breach (map word ws ++ fs) ≡ first_breach fs
first_breach-words [] fs = refl
first_breach-words (w ∷ ws) fs = first_breach-words ws fs

-- the first breach after a step is the first breach before it
pub first_breach-goes : (old : List WordAt) (todo : List Finding) (new : List WordAt) (left : List Finding)
    → SameFindings old todo new left → first_breach left ≡ first_breach todo
first_breach-goes old todo new left goes =
    sym (first_breach-words new left) ∙ ap first_breach (sym goes) ∙ first_breach-words old todo

pub is_first-goes : (f : TextFault) (old : List WordAt) (todo : List Finding) (new : List WordAt) (left : List Finding)
    → SameFindings old todo new left → IsFirstIn f left → IsFirstIn f todo
is_first-goes Memory old todo new left goes first = tt
is_first-goes (Refused r n) old todo new left goes first = sym (first_breach-goes old todo new left goes) ∙ first

pub first_breach-front : (fs gs : List Finding) (f : TextFault) → first_breach fs ≡ Some f
    → first_breach (fs ++ gs) ≡ Some f
first_breach-front [] gs f e = cc
first_breach-front (word w ∷ fs) gs f e = first_breach-front fs gs f e
first_breach-front (breach r n ∷ fs) gs f e = e

-- the first breach of the front is that of the whole
pub is_first-front : (f : TextFault) (fs gs : List Finding) → IsFirstIn f fs → IsFirstIn f (fs ++ gs)
is_first-front Memory fs gs first = tt
is_first-front (Refused r n) fs gs first = first_breach-front fs gs (Refused r n) first

pub is_first-same : (f : TextFault) (fs gs : List Finding) → fs ≡ gs → IsFirstIn f gs → IsFirstIn f fs
is_first-same Memory fs gs e first = tt
is_first-same (Refused r n) fs gs e first = ap first_breach e ∙ first

-- a step of a part is a step of the whole
pub goes_on : (old : List WordAt) (todo : List Finding) (new : List WordAt) (left rest : List Finding)
    → SameFindings old todo new left → SameFindings old (todo ++ rest) new (left ++ rest)
goes_on old todo new left rest goes =
    sym (append_assoc (map word old) todo rest) ∙ ap (λ (fs : List Finding). fs ++ rest) goes
    ∙ append_assoc (map word new) left rest

breaches_in-words : (ws : List WordAt) → breaches_in (map word ws) ≡ []
breaches_in-words [] = refl
breaches_in-words (w ∷ ws) = breaches_in-words ws

words_in-words : (ws : List WordAt) → words_in (map word ws) ≡ ws
words_in-words [] = refl
words_in-words (w ∷ ws) = ap (λ (vs : List WordAt). w ∷ vs) (words_in-words ws)

answer_of-words : (ws : List WordAt) → answer_of (map word ws) ≡ Ok ws
unfolding answer_of
answer_of-words ws =
    ap (λ (bs : List TextFault). elim bs [ [] ↦ Ok (words_in (map word ws)) | b ∷ bs ↦ Err b ]) (breaches_in-words ws)
    ∙ ap (λ (vs : List WordAt). Ok vs) (words_in-words ws)

breaches_in-first : (fs : List Finding) (f : TextFault) → first_breach fs ≡ Some f
    → (bs : List TextFault) × (breaches_in fs ≡ f ∷ bs)
breaches_in-first [] f e = absurd cc
breaches_in-first (word w ∷ fs) f e = breaches_in-first fs f e
breaches_in-first (breach r n ∷ fs) f e = (breaches_in fs, cc)

answer_of-first : (fs : List Finding) (f : TextFault) → first_breach fs ≡ Some f → answer_of fs ≡ Err f
unfolding answer_of
answer_of-first fs f e =
    let p = breaches_in-first fs f e in
    ap (λ (bs : List TextFault). elim bs [ [] ↦ Ok (words_in fs) | b ∷ bs ↦ Err b ]) p.1

-- at the text's end the words are the answer
pub words_of-end : (text : List ℕ) (ws : List WordAt) (left : List Finding)
    → SameFindings [] (found_in_text text) ws left → left ≡ [] → words_of text ≡ Ok ws
unfolding words_of
words_of-end text ws left goes none =
    ap answer_of (goes ∙ ap (λ (fs : List Finding). map word ws ++ fs) none ∙ append-nil (map word ws))
    ∙ answer_of-words ws

-- a fault that is the first breach still to be found is the answer
pub is_refusal-first : (f : TextFault) (text : List ℕ) (ws : List WordAt) (left : List Finding)
    → SameFindings [] (found_in_text text) ws left → IsFirstIn f left → IsRefusalOf f (words_of text)
unfolding words_of
is_refusal-first Memory text ws left goes first = tt
is_refusal-first (Refused r n) text ws left goes first =
    answer_of-first (found_in_text text) (Refused r n)
    (sym (first_breach-goes [] (found_in_text text) ws left goes) ∙ first)

-- a refusal of the first breach
pub is_first-refused : (f : TextFault) (r : TextRule) (n : ℕ) (fs : List Finding) → f ≡ Refused r n
    → first_breach fs ≡ Some (Refused r n) → IsFirstIn f fs
is_first-refused f r n fs e first =
    let P : TextFault → Type 0 = λ (g : TextFault). IsFirstIn g fs in
    subst P (sym e) first

-- memory that was refused claims nothing
pub is_first-memory : (f : TextFault) (fs : List Finding) → f ≡ Memory → IsFirstIn f fs
is_first-memory f fs e =
    let P : TextFault → Type 0 = λ (g : TextFault). IsFirstIn g fs in
    subst P (sym e) tt

pub is_first-word : (f : TextFault) (w : WordAt) (fs : List Finding) → IsFirstIn f fs → IsFirstIn f (word w ∷ fs)
is_first-word Memory w fs first = tt
is_first-word (Refused r n) w fs first = first
