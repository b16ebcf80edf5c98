-- The result of a walk over sorted notices.
use Rattle.std.proofs.Common.{◌≡◌, ℕ, ◌+◌, ◌<◌, Bool, true, false, cond, eqb, ltb, List, [], ◌∷◌, Some, refl}
use Rattle.std.proofs.Common.{sym, ap, arith}
use Rattle.std.proofs.lemmas.Bool.Decides.{nat_tests}
use Rattle.ss_events.specs.Agenda.{Pending, of_class}
use Rattle.ss_events.proofs.OrderLaws.{IsOrder, AreBehind, IsSorted, Each-of_class}
use Rattle.ss_events.specs.State.{Each}
use Rattle.ss_events.specs.Places.{first, notices_passed, earlier}

-- those of the classes below a number
abbrev pub of_classes_below : ℕ → List Pending → List Pending
of_classes_below c [] = []
of_classes_below c (e ∷ es) = cond (ltb e.class c) (e ∷ of_classes_below c es) (of_classes_below c es)

Each-below : (P : Pending → Type 0) (c : ℕ) (es : List Pending) → Each P es → Each P (of_classes_below c es)
Each-below P c [] h = tt
Each-below P c (f ∷ fs) h = elim (ltb f.class c)
    as (λ t. Each P (cond t (f ∷ of_classes_below c fs) (of_classes_below c fs))) [
      | true ↦ (h.0, Each-below P c fs h.1)
      | false ↦ Each-below P c fs h.1
    ]

earlier-left : (P : Pending → Type 0) (lt : Pending → Pending → Bool) → IsOrder P lt →
    (e : Pending) (es : List Pending) → P e → Each P es → AreBehind lt e es → earlier lt (Some e) (first es) ≡ Some e
earlier-left P lt o e [] p q h = refl
earlier-left P lt o e (f ∷ fs) p q h = rw (o.asymmetric e f p q.0 h.0) refl

earlier-right : (lt : Pending → Pending → Bool) (e : Pending) (es : List Pending) → AreBehind lt e es →
    earlier lt (first es) (Some e) ≡ Some e
earlier-right lt e [] h = refl
earlier-right lt e (f ∷ fs) h = rw h.0 refl

-- of two kinds of sorted notices the first is the first of the first of each
pub first-earlier : (P : Pending → Type 0) (lt : Pending → Pending → Bool) → IsOrder P lt →
    (c : ℕ) (es : List Pending) → Each P es → IsSorted lt es →
    first (of_classes_below (c + 1) es) ≡ earlier lt (first (of_classes_below c es)) (first (of_class c es))
first-earlier P lt o c [] p s = refl
first-earlier P lt o c (e ∷ es) p s =
    let rest = first-earlier P lt o c es p.1 s.1 in
    let left = earlier-left P lt o e (of_class c es) p.0 (Each-of_class P c es p.1) (Each-of_class (λ f. lt e f ≡
    true) c es s.0) in
    let right = earlier-right lt e (of_classes_below c es) (Each-below (λ f. lt e f ≡ true) c es s.0) in
    elim (ltb e.class c)
    as (λ t. ltb e.class c ≡ t → first (of_classes_below (c + 1) (e ∷ es)) ≡ earlier lt (first (cond t (e ∷
    of_classes_below c es) (of_classes_below c es))) (first (of_class c (e ∷ es)))) [
      | true ↦ λ t. let below : ltb e.class (c + 1) ≡ true = grind (arith, nat_tests, t) in
          let other : eqb e.class c ≡ false = grind (arith, nat_tests, t) in rw (below, other) (sym left)
      | false ↦ λ t. elim (eqb e.class c)
          as (λ u. eqb e.class c ≡ u → first (of_classes_below (c + 1) (e ∷ es)) ≡ earlier lt (first
          (of_classes_below c es)) (first (cond u (e ∷ of_class c es) (of_class c es)))) [
            | true ↦ λ u. let below : ltb e.class (c + 1) ≡ true = grind (arith, nat_tests, u) in rw below (sym right)
            | false ↦ λ u. let above : ltb e.class (c + 1) ≡ false = grind (arith, nat_tests, t, u) in rw above rest
          ] refl
    ] refl

-- all classes are below the number of classes
pub of_classes_below-all : (n : ℕ) (es : List Pending) → Each (λ e. e.class < n) es → of_classes_below n es ≡ es
of_classes_below-all n [] h = refl
of_classes_below-all n (e ∷ es) h = let below : ltb e.class n ≡ true = grind (arith, nat_tests, h.0) in
    rw below (ap (λ (l : List Pending). e ∷ l) (of_classes_below-all n es h.1))

pub of_classes_below-none : (es : List Pending) → of_classes_below 0 es ≡ []
of_classes_below-none [] = refl
of_classes_below-none (e ∷ es) = let above : ltb e.class 0 ≡ false = grind (arith, nat_tests) in
    rw above (of_classes_below-none es)

pub passed-none : (lt : Pending → Pending → Bool) (e : Pending) (es : List Pending) → AreBehind lt e es →
    notices_passed lt e es ≡ []
passed-none lt e [] h = refl
passed-none lt e (f ∷ fs) h = rw h.0 refl
