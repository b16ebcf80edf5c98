-- A reading that may stop after a word that announces a part for which there is no room. The part
-- that is read keeps the limits. If reading fails, a tree within the limits begins with the words
-- read, or with all of them but that one.
use Rattle.std.proofs.Common.{◌≡◌, ◌⊎◌, true, List, [], ◌∷◌, ◌++◌, Option, Some, Result, Ok, Err}
use Rattle.std.proofs.Common.{refl, sym, ap, ◌∙◌, append_assoc}
use mathlib.Core.Logic.{inl, inr}
use Rattle.ss_words.specs.declared.refusal.Refusal.{Refusal}
use Rattle.ss_words.specs.Plain.{Plain, first}
use Rattle.ss_words.specs.Reading.{Reading, goes_on, bind, look, skip}
use Rattle.ss_words.proofs.Laws.{IsRead, Good, Any}
use Rattle.ss_routines.specs.Refused.{announces}

-- the spelling of some tree that fits begins so
abbrev pub IsBegun : {A : Type 0} → (A → Type 0) → (A → List Plain) → List Plain → Type 0
IsBegun {A} fits sp q = (a : A) × fits a × (x : List Plain) × (sp a ≡ q ++ x)

-- the last word announces a part that may not be there
pub record Announced {A : Type 0} (fits : A → Type 0) (sp : A → List Plain) (pre q : List Plain) : Type 0 where
  pub front : List Plain
  pub last : Plain
  pub words : q ≡ front ++ last ∷ []
  pub counts_not : announces last ≡ true
  pub within : IsBegun fits sp (pre ++ front)
  pub begins : IsBegun Any sp (pre ++ q)

abbrev pub Stood : {A : Type 0} → (A → Type 0) → (A → List Plain) → List Plain → List Plain → Type 0
Stood fits sp pre q = IsBegun fits sp (pre ++ q) ⊎ Announced fits sp pre q

abbrev pub IsKept : {A : Type 0} → (A → Type 0) → (A → List Plain) → List Plain → Result A Refusal → List Plain
    → List Plain → Type 0
IsKept fits sp pre (Ok a) ws r = fits a × (q : List Plain) × (ws ≡ q ++ r) × (sp a ≡ pre ++ q)
IsKept fits sp pre (Err e) ws r = (q : List Plain) × (ws ≡ q ++ r) × Stood fits sp pre q

pub record Keeps {A : Type 0} (fits : A → Type 0) (sp : A → List Plain) (pre : List Plain) (p : Reading A) : Type 0
  where
    pub at : (ws : List Plain) → IsKept fits sp pre (p ws).0 ws (p ws).1
    -- each beginning has an end
    pub some : IsBegun fits sp pre

module _ {A : Type 0} (fits : A → Type 0) (sp : A → List Plain) (pre : List Plain) (p : Reading A) where
  kept : (o : Result A Refusal) (ws r : List Plain) → IsRead fits sp pre o ws r → IsKept fits sp pre o ws r
  kept (Ok a) ws r h = h
  kept (Err e) ws r (q, is, a, f, x, k) = (q, is, inl (a, f, x, k))

  pub keeps_of : Good fits sp pre p → Keeps fits sp pre p
  keeps_of g = record { at = λ ws. kept (p ws).0 ws (p ws).1 (g.read ws); some = g.some }

  loose : (o : Result A Refusal) (ws r : List Plain) → IsKept fits sp pre o ws r → IsRead Any sp pre o ws r
  loose (Ok a) ws r (f, q, is, k) = (tt, q, is, k)
  loose (Err e) ws r (q, is, inl (a, f, x, k)) = (q, is, a, tt, x, k)
  loose (Err e) ws r (q, is, inr h) = let b = h.begins in (q, is, b.0, tt, b.2, b.3)

  -- the limits aside
  pub good_of : Keeps fits sp pre p → Good Any sp pre p
  good_of k =
      record { read = λ ws. loose (p ws).0 ws (p ws).1 (k.at ws); some = (let b = k.some in (b.0, tt, b.2, b.3)) }

module _ {A : Type 0} (fits : A → Type 0) (sp : A → List Plain) (pre s : List Plain) where
  stood_moved : (q : List Plain) → Stood fits sp (pre ++ s) q → Stood fits sp pre (s ++ q)
  stood_moved q (inl (a, f, x, k)) = inl (a, f, x, k ∙ ap (λ (u : List Plain). u ++ x) (append_assoc pre s q))
  stood_moved q (inr h) =
      let w = h.within in
      let b = h.begins in
      inr (record {
        front = s ++ h.front;
        last = h.last;
        words = ap (λ (u : List Plain). s ++ u) h.words ∙ sym (append_assoc s h.front (h.last ∷ []));
        counts_not = h.counts_not;
        within = (w.0, w.1, w.2, w.3 ∙ ap (λ (u : List Plain). u ++ w.2) (append_assoc pre s h.front));
        begins = (b.0, tt, b.2, b.3 ∙ ap (λ (u : List Plain). u ++ b.2) (append_assoc pre s q));
      })

  pub moved : (o : Result A Refusal) (ws r r' : List Plain) → ws ≡ s ++ r → IsKept fits sp (pre ++ s) o r r'
      → IsKept fits sp pre o ws r'
  moved (Ok a) ws r r' e (f, q, g, k) =
      (f, s ++ q, e ∙ ap (λ (w : List Plain). s ++ w) g ∙ sym (append_assoc s q r'), k ∙ append_assoc pre s q)
  moved (Err h) ws r r' e (q, g, k) =
      (s ++ q, e ∙ ap (λ (w : List Plain). s ++ w) g ∙ sym (append_assoc s q r'), stood_moved q k)

module _ {A B : Type 0} (fitsA : A → Type 0) (fitsB : B → Type 0) (spA : A → List Plain) (spB : B → List Plain)
    (pre : List Plain) (f : A → Reading B)
    (keeps : (a : A) → fitsA a → Keeps fitsB spB (pre ++ spA a) (f a)) (any : (a : A) → IsBegun Any spB (pre ++ spA a))
  where
    -- a beginning of a part begins the whole
    begun : {fits : A → Type 0} {fits' : B → Type 0} (q : List Plain)
        → ((a : A) → fits a → IsBegun fits' spB (pre ++ spA a)) → IsBegun fits spA q → IsBegun fits' spB (pre ++ q)
    begun q more (a, fa, x, k) =
        let (b, fb, y, h) = more a fa in (
          b,
          fb,
          x ++ y,
          h ∙ ap (λ (w : List Plain). (pre ++ w) ++ y) k
              ∙ simp append_assoc,
        )

    stood : (q : List Plain) → Stood fitsA spA [] q → Stood fitsB spB pre q
    stood q (inl h) = inl (begun q (λ a fa. let g = keeps a fa in g.some) h)
    stood q (inr h) =
        inr (record {
          front = h.front;
          last = h.last;
          words = h.words;
          counts_not = h.counts_not;
          within = begun h.front
              (λ a fa. let g = keeps a fa in g.some) h.within;
          begins = begun q (λ a u. any a) h.begins;
        })

    bound : (o : Result A Refusal) (ws r : List Plain) → IsKept fitsA spA [] o ws r
        → IsKept fitsB spB pre (goes_on f o r).0 ws (goes_on f o r).1
    bound (Ok a) ws r (fa, q, e, k) =
        let g = keeps a fa in moved fitsB spB pre (spA a) (f a r).0 ws r (f a r).1
        (e ∙ ap (λ (w : List Plain). w ++ r) (sym k)) (g.at r)
    bound (Err g) ws r (q, e, h) = (q, e, stood q h)

    some_of : IsBegun fitsA spA [] → IsBegun fitsB spB pre
    some_of (a, fa, x, k) =
        let g = keeps a fa in let (b, fb, y, h) = g.some in (b, fb, spA a ++ y, h ∙ append_assoc pre (spA a) y)

    pub bind_keeps : (p : Reading A) → Keeps fitsA spA [] p → Keeps fitsB spB pre (bind p f)
    unfolding bind
    bind_keeps p h = record { at = λ ws. bound (p ws).0 ws (p ws).1 (h.at ws); some = some_of h.some }

-- by the next word
abbrev pub KeepsAt : {A : Type 0} → (A → Type 0) → (A → List Plain) → List Plain → Option Plain → Reading A → Type 0
KeepsAt fits sp pre w p = (ws : List Plain) → first ws ≡ w → IsKept fits sp pre (p ws).0 ws (p ws).1

pub keeps_at : {A : Type 0} (fits : A → Type 0) (sp : A → List Plain) (pre : List Plain) (w : Option Plain)
    (p : Reading A) → Keeps fits sp pre p → KeepsAt fits sp pre w p
keeps_at fits sp pre w p h ws e = h.at ws

pub look_keeps : {A : Type 0} (fits : A → Type 0) (sp : A → List Plain) (pre : List Plain)
    (f : Option Plain → Reading A) → IsBegun fits sp pre → ((w : Option Plain) → KeepsAt fits sp pre w (f w))
    → Keeps fits sp pre (look f)
unfolding look
look_keeps fits sp pre f some at = record { at = λ ws. at (first ws) ws refl; some = some }

pub skip_keeps : {A : Type 0} (fits : A → Type 0) (sp : A → List Plain) (pre : List Plain) (w : Plain) (p : Reading A)
    → Keeps fits sp (pre ++ w ∷ []) p → KeepsAt fits sp pre (Some w) (skip p)
unfolding skip
skip_keeps fits sp pre w p k [] e = absurd cc
skip_keeps fits sp pre w p k (v ∷ ws) e =
    let same : v ≡ w = cc in
    moved fits sp pre (w ∷ []) (p ws).0 (v ∷ ws) ws (p ws).1 (ap (λ (u : Plain). u ∷ ws) same) (k.at ws)
