-- The facts that each step of a reading keeps. The words that are read are the spelling of the
-- tree, and the tree keeps the limits. If reading fails, the spelling of some tree within the
-- limits begins with the words read.
use Rattle.std.proofs.Common.{◌≡◌, ℕ, zero, suc, List, [], ◌∷◌, ◌++◌, length, Option, Some, None, Result, Ok, Err, refl}
use Rattle.std.proofs.Common.{sym, ap, subst, ◌∙◌, append_assoc}
use Rattle.std.proofs.lemmas.List.{append-nil}
use Rattle.ss_words.specs.declared.refusal.Refusal.{Refusal}
use Rattle.ss_words.specs.Plain.{Plain, first}
use Rattle.ss_words.specs.Reading.{Reading, goes_on, bind, pure, refuse, look, skip, many_from, many}

-- The words ws, after pre, are read up to r; fits says which trees keep the limits, sp spells them.
abbrev pub IsRead : {A : Type 0} → (A → Type 0) → (A → List Plain) → List Plain → Result A Refusal → List Plain
    → List Plain → Type 0
IsRead {A} fits sp pre (Ok a) ws r = fits a × (q : List Plain) × (ws ≡ q ++ r) × (sp a ≡ pre ++ q)
IsRead {A} fits sp pre (Err e) ws r =
    (q : List Plain) × (ws ≡ q ++ r) × (a : A) × fits a × (x : List Plain) × (sp a ≡ (pre ++ q) ++ x)

pub record Good {A : Type 0} (fits : A → Type 0) (sp : A → List Plain) (pre : List Plain) (p : Reading A) : Type 0 where
  pub read : (ws : List Plain) → IsRead fits sp pre (p ws).0 ws (p ws).1
  -- each beginning has an end
  pub some : (a : A) × fits a × (x : List Plain) × (sp a ≡ pre ++ x)

-- each tree fits, if there is no limit
abbrev pub Any : {A : Type 0} → A → Type 0
Any a = Unit {0}

pub pure_good : {A : Type 0} (fits : A → Type 0) (sp : A → List Plain) (pre : List Plain) (a : A) → fits a → pre ≡ sp a
    → Good fits sp pre (pure a)
unfolding pure
pure_good fits sp pre a f e =
    record { read = λ ws. (f, [], refl, sym (append-nil pre ∙ e)); some = (a, f, [], sym (append-nil pre ∙ e)) }

pub refuse_good : {A : Type 0} (fits : A → Type 0) (sp : A → List Plain) (pre : List Plain) (g : Refusal) (a : A)
    → fits a → (x : List Plain) → sp a ≡ pre ++ x → Good fits sp pre (refuse g)
unfolding refuse
refuse_good fits sp pre g a f x e =
    record {
      read = λ ws. ([], refl, a, f, x, e ∙ ap (λ (p : List Plain). p ++ x) (sym (append-nil pre)));
      some = (a, f, x, e);
    }

moved : {A : Type 0} (fits : A → Type 0) (sp : A → List Plain) (pre s : List Plain) (o : Result A Refusal)
    (ws r r' : List Plain) → ws ≡ s ++ r → IsRead fits sp (pre ++ s) o r r' → IsRead fits sp pre o ws r'
moved fits sp pre s (Ok a) ws r r' e (f, q, g, k) =
    (f, s ++ q, e ∙ ap (λ (w : List Plain). s ++ w) g ∙ sym (append_assoc s q r'), k ∙ append_assoc pre s q)
moved fits sp pre s (Err h) ws r r' e (q, g, a, f, x, k) = (
  s ++ q,
  e ∙ ap (λ (w : List Plain). s ++ w) g ∙ sym (append_assoc s q r'),
  a,
  f,
  x,
  k
      ∙ ap (λ (w : List Plain). w ++ x) (append_assoc pre s q),
)

module _ {A B : Type 0} (fitsA : A → Type 0) (fitsB : B → Type 0) (spA : A → List Plain) (spB : B → List Plain)
    (pre : List Plain) (f : A → Reading B)
    (good : (a : A) → fitsA a → Good fitsB spB (pre ++ spA a) (f a)) where
  bound : (o : Result A Refusal) (ws r : List Plain) → IsRead fitsA spA [] o ws r
      → IsRead fitsB spB pre (goes_on f o r).0 ws (goes_on f o r).1
  bound (Ok a) ws r (fa, q, e, k) =
      moved fitsB spB pre (spA a) (f a r).0 ws r (f a r).1 (e ∙ ap (λ (w : List Plain). w ++ r) (sym k))
      ((good a fa).read r)
  bound (Err g) ws r (q, e, a, fa, x, k) =
      let (b, fb, y, h) = (good a fa).some in
      (q, e, b, fb, x ++ y, h ∙ ap (λ (w : List Plain). (pre ++ w) ++ y) k ∙ simp append_assoc)

  pub bind_good : (p : Reading A) → Good fitsA spA [] p → Good fitsB spB pre (bind p f)
  unfolding bind
  bind_good p h = record {
    read = λ ws. bound (p ws).0 ws (p ws).1 (h.read ws);
    some =
        (let (b, fb, y, k) = (good h.some.0 h.some.1).some in
        (b, fb, spA h.some.0 ++ y, k ∙ append_assoc pre (spA h.some.0) y));
  }

-- A reading that goes on with the result before it, and another reading after it.
module _ {A B : Type 0} (fitsA : A → Type 0) (fitsB : B → Type 0) (spA : A → List Plain) (spB : B → List Plain)
    (pre : List Plain) (f : A → Reading B)
    (good : (a : A) → fitsA a → Good fitsB spB (spA a) (f a)) where
  behind : (o : Result A Refusal) (ws r : List Plain) → IsRead fitsA spA pre o ws r
      → IsRead fitsB spB pre (goes_on f o r).0 ws (goes_on f o r).1
  behind (Ok a) ws r (fa, q, e, k) =
      moved fitsB spB pre q (f a r).0 ws r (f a r).1 e
      (subst (λ (w : List Plain). IsRead fitsB spB w (f a r).0 r (f a r).1) k ((good a fa).read r))
  behind (Err g) ws r (q, e, a, fa, x, k) =
      let (b, fb, y, h) = (good a fa).some in
      (q, e, b, fb, x ++ y, h ∙ ap (λ (w : List Plain). w ++ y) k ∙ append_assoc (pre ++ q) x y)

  pub then_good : (p : Reading A) → Good fitsA spA pre p → Good fitsB spB pre (bind p f)
  unfolding bind
  then_good p h = record {
    read = λ ws. behind (p ws).0 ws (p ws).1 (h.read ws);
    some =
        (let (b, fb, y, k) = (good h.some.0 h.some.1).some in
        (b, fb, h.some.2 ++ y, k ∙ ap (λ (w : List Plain). w ++ y) h.some.3 ∙ append_assoc pre h.some.2 y));
  }

abbrev pub GoodAt : {A : Type 0} → (A → Type 0) → (A → List Plain) → List Plain → Option Plain → Reading A → Type 0
GoodAt fits sp pre w p = (ws : List Plain) → first ws ≡ w → IsRead fits sp pre (p ws).0 ws (p ws).1

pub good_at : {A : Type 0} (fits : A → Type 0) (sp : A → List Plain) (pre : List Plain) (w : Option Plain)
    (p : Reading A) → Good fits sp pre p → GoodAt fits sp pre w p
good_at fits sp pre w p h ws e = h.read ws

pub look_good : {A : Type 0} (fits : A → Type 0) (sp : A → List Plain) (pre : List Plain) (f : Option Plain → Reading A)
    (a : A) → fits a → (x : List Plain) → sp a ≡ pre ++ x → ((w : Option Plain) → GoodAt fits sp pre w (f w))
    → Good fits sp pre (look f)
unfolding look
look_good fits sp pre f a fa x e good = record { read = λ ws. good (first ws) ws refl; some = (a, fa, x, e) }

pub skip_good : {A : Type 0} (fits : A → Type 0) (sp : A → List Plain) (pre : List Plain) (w : Plain) (p : Reading A)
    → Good fits sp (pre ++ w ∷ []) p → GoodAt fits sp pre (Some w) (skip p)
unfolding skip
skip_good fits sp pre w p good [] e = absurd cc
skip_good fits sp pre w p good (v ∷ ws) e =
    let same : v ≡ w = cc in
    moved fits sp pre (w ∷ []) (p ws).0 (v ∷ ws) ws (p ws).1 (ap (λ (u : Plain). u ∷ ws) same) (good.read ws)

-- the same tree under another name
module _ {A B : Type 0} (fitsA : A → Type 0) (fitsB : B → Type 0) (spA : A → List Plain) (spB : B → List Plain)
    (preA preB : List Plain) (front : List Plain) (p : Reading A) where
  pub weaker_good : (fitsC : A → Type 0) → ((a : A) → fitsA a → fitsC a) → Good fitsA spA preA p → Good fitsC spA preA p
  weaker_good fitsC w h =
      record {
        read = λ ws. put (p ws).0 ws (p ws).1 (h.read ws);
        some = (h.some.0, w h.some.0 h.some.1, h.some.2, h.some.3);
      }
    where
      put : (o : Result A Refusal) (ws r : List Plain) → IsRead fitsA spA preA o ws r → IsRead fitsC spA preA o ws r
      put (Ok a) ws r (f, q, e, k) = (w a f, q, e, k)
      put (Err g) ws r (q, e, a, f, x, k) = (q, e, a, w a f, x, k)

abbrev pub spell_option : {A : Type 0} → (A → List Plain) → Option A → List Plain
spell_option sp None = []
spell_option sp (Some a) = sp a

abbrev pub fits_option : {A : Type 0} → (A → Type 0) → Option A → Type 0
fits_option fits None = Unit {0}
fits_option fits (Some a) = fits a

module _ {A B : Type 0} (fitsA : A → Type 0) (fitsB : B → Type 0) (spA : A → List Plain) (spB : B → List Plain)
    (item : Reading (Option A)) (none : B) (one : A → B → B)
    (good : Good (fits_option fitsA) (spell_option spA) [] item) (f0 : fitsB none)
    (f1 : (a : A) (b : B) → fitsA a → fitsB b → fitsB (one a b))
    (e0 : spB none ≡ []) (e1 : (a : A) (b : B) → spB (one a b) ≡ spA a ++ spB b) where
  pub many_good : (n : ℕ) → Good fitsB spB [] (many_from item none one n)
  unfolding many_from
  many_good zero = pure_good fitsB spB [] none f0 (sym e0)
  many_good (suc n) =
      bind_good (fits_option fitsA) fitsB (spell_option spA) spB [] _ (elim [
        | Some a ↦ (λ fa. bind_good fitsB fitsB spB spB (spA a) _
            (λ b fb. pure_good fitsB spB (spA a ++ spB b) (one a b) (f1 a b fa fb) (sym (e1 a b)))
            (many_from item none one n) (many_good n))
        | None ↦ (λ f. pure_good fitsB spB [] none f0 (sym e0))
      ]) item good

  pub many_read : Good fitsB spB [] (many item none one)
  unfolding many
  many_read = record { read = λ ws. (many_good (suc (length ws))).read ws; some = (none, f0, [], e0) }
