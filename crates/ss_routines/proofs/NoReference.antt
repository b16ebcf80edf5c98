-- Expressions that are no reference.
use Rattle.std.proofs.Common.{◌≡◌, ◌≤◌, List, [], ◌∷◌, length, map, Option, Some, None, refl, arith}
use Rattle.ss_words.specs.Lists.{Name}
use Rattle.ss_words.specs.declared.terms.TermSign.{TermSign}
use Rattle.ss_routines.specs.Expr.{Expr, expr, Sums, no_sums, Term, term, Products, no_products, product, Factor}
use Rattle.ss_routines.specs.Expr.{digits}
use Rattle.ss_routines.specs.Expr.{named, applied, within, no_exprs, exprs, sums_of, products_of, exprs_of}
use Rattle.ss_routines.specs.ConditionReading.{reference_of}

pub no_reference_factors : (f x : Factor) (fs : List Factor) (ss : Sums)
    → reference_of (expr None (term f (products_of (x ∷ fs))) ss) ≡ None
no_reference_factors (digits n) x fs ss = refl
no_reference_factors (named n) x fs ss = refl
no_reference_factors (applied n e no_exprs) x fs ss = refl
no_reference_factors (applied n e (exprs a es)) x fs ss = refl
no_reference_factors (within e) x fs ss = refl

pub no_reference_terms : (f : Factor) (ps : Products) (x : TermSign × Term) (xs : List (TermSign × Term))
    → reference_of (expr None (term f ps) (sums_of (x ∷ xs))) ≡ None
no_reference_terms (digits n) ps x xs = refl
no_reference_terms (named n) no_products x xs = refl
no_reference_terms (named n) (product g ps) x xs = refl
no_reference_terms (applied n e no_exprs) no_products x xs = refl
no_reference_terms (applied n e no_exprs) (product g ps) x xs = refl
no_reference_terms (applied n e (exprs a es)) ps x xs = refl
no_reference_terms (within e) ps x xs = refl

-- ---- seen by a view

module _ {X : Type 0} where
  pub more_factors : (s : Option TermSign) (f : Factor) (view : X → Factor) (xs : List X) (ss : Sums) → 1 ≤ length xs
      → reference_of (expr s (term f (products_of (map view xs))) ss) ≡ None
  more_factors (Some s) f view xs ss h = refl
  more_factors None f view [] ss h = absurd (omega (arith, h))
  more_factors None f view (x ∷ xs) ss h = no_reference_factors f (view x) (map view xs) ss

  pub more_terms : (s : Option TermSign) (t : Term) (view : X → TermSign × Term) (xs : List X) → 1 ≤ length xs
      → reference_of (expr s t (sums_of (map view xs))) ≡ None
  more_terms (Some s) t view xs h = refl
  more_terms None t view [] h = absurd (omega (arith, h))
  more_terms None (term f ps) view (x ∷ xs) h = no_reference_terms f ps (view x) (map view xs)

  pub more_arguments : (n : Name) (e : Expr) (view : X → Expr) (xs : List X) → 1 ≤ length xs
      → reference_of (expr None (term (applied n e (exprs_of (map view xs))) no_products) no_sums) ≡ None
  more_arguments n e view [] h = absurd (omega (arith, h))
  more_arguments n e view (x ∷ xs) h = refl
