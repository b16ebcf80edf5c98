-- Expressions of the code that are a single factor, and names with one argument.
use Rattle.std.proofs.Common.{◌≡◌, ℕ, ◌<◌, Bool, true, false, List, [], ◌∷◌, length, Option, Some, None, refl, sym, arith}
use Rattle.std.specs.Prelude.{map, is_some}
use Rattle.ss_words.specs.declared.terms.TermSign.{TermSign}
use Rattle.ss_words.specs.Lists.{Name}
use Rattle.ss_routines.specs.declared.tree.expr.Expr.{Expr as CodeExpr, out-Expr}
use Rattle.ss_routines.specs.declared.tree.expr.Term.{Term as CodeTerm, out-Term}
use Rattle.ss_routines.specs.declared.tree.expr.Added.{Added as CodeAdded}
use Rattle.ss_routines.specs.declared.tree.expr.Factor.{Factor as CodeFactor}
use Rattle.ss_routines.specs.declared.tree.expr.Application.{Application as CodeApplication, out-Application}
use Rattle.ss_routines.specs.declared.tree.expr.Factor.TheFolds.{fold_out-Application, fold_out-Expr, fold_out-Term}
use Rattle.ss_routines.specs.Expr.{Expr, expr, Sums, no_sums, sum, sums_of, Term, term, Products, no_products, product}
use Rattle.ss_routines.specs.Expr.{products_of, Factor, applied, exprs_of}
use Rattle.ss_routines.specs.View.{expr_view, term_view, factor_view, added_view, application_view, factor_step}
use Rattle.ss_routines.specs.View.{added_step, application_step, expr_step, term_step}
use Rattle.ss_expressions.specs.Wanted.{lone_factor, factor_reference}

-- ---- trees

signed_by : (l : Option TermSign) (t : Term) (ss : Sums) → is_some l ≡ true → None ≡ lone_factor (expr l t ss)
signed_by None t ss h = absurd (cc)
signed_by (Some s) t ss h = refl

summed : (l : Option TermSign) (t : Term) (s : TermSign) (x : Term) (ss : Sums) →
    None ≡ lone_factor (expr l t (sum s x ss))
summed None (term f no_products) s x ss = refl
summed None (term f (product g ps)) s x ss = refl
summed (Some l) t s x ss = refl

summed_by : (l : Option TermSign) (t : Term) (xs : List CodeAdded) → 0 < length xs →
    None ≡ lone_factor (expr l t (sums_of (map added_view xs)))
summed_by l t [] h = absurd (omega (arith, h))
summed_by l t (x ∷ xs) h = summed l t (added_view x).0 (added_view x).1 (sums_of (map added_view xs))

multiplied : (l : Option TermSign) (f g : Factor) (ps : Products) (ss : Sums) →
    None ≡ lone_factor (expr l (term f (product g ps)) ss)
multiplied None f g ps ss = refl
multiplied (Some s) f g ps ss = refl

multiplied_by : (l : Option TermSign) (f : Factor) (xs : List CodeFactor) (ss : Sums) → 0 < length xs →
    None ≡ lone_factor (expr l (term f (products_of (map factor_view xs))) ss)
multiplied_by l f [] ss h = absurd (omega (arith, h))
multiplied_by l f (x ∷ xs) ss h = multiplied l f (factor_view x) (products_of (map factor_view xs)) ss

lone_by : (l : Option TermSign) (f : Factor) (xs : List CodeFactor) (ys : List CodeAdded) → is_some l ≡ false →
    length ys ≡ 0 → length xs ≡ 0 →
    Some f ≡ lone_factor (expr l (term f (products_of (map factor_view xs))) (sums_of (map added_view ys)))
lone_by None f [] [] h i j = refl
lone_by None f (x ∷ xs) ys h i j = absurd (omega (arith, j))
lone_by None f [] (y ∷ ys) h i j = absurd (omega (arith, i))
lone_by (Some s) f xs ys h i j = absurd (cc)

-- ---- the code

expr_is : (e : CodeExpr) →
    expr_view e
    ≡ expr (out-Expr e).sign (term_view (out-Expr e).first) (sums_of (map added_view (out-Expr e).more.items))
expr_is e =
    fold_out-Expr Factor (TermSign × Term) Factor Expr Term factor_step added_step application_step expr_step term_step e

term_is : (t : CodeTerm) →
    term_view t ≡ term (factor_view (out-Term t).first) (products_of (map factor_view (out-Term t).more.items))
term_is t =
    fold_out-Term Factor (TermSign × Term) Factor Expr Term factor_step added_step application_step expr_step term_step t

application_is : (a : CodeApplication) →
    application_view a
    ≡ applied (out-Application a).name (expr_view (out-Application a).first.value)
    (exprs_of (map expr_view (out-Application a).others.items))
application_is a =
    fold_out-Application Factor (TermSign × Term) Factor Expr Term factor_step added_step application_step expr_step
    term_step a

-- with a sign before it
pub has_sign : (e : CodeExpr) → is_some (out-Expr e).sign ≡ true → None ≡ lone_factor (expr_view e)
has_sign e h = rw (expr_is e) (signed_by (out-Expr e).sign _ _ h)

-- with further terms
pub has_terms : (e : CodeExpr) → 0 < length (out-Expr e).more.items → None ≡ lone_factor (expr_view e)
has_terms e h = rw (expr_is e) (summed_by (out-Expr e).sign _ (out-Expr e).more.items h)

-- with further factors
pub has_factors : (e : CodeExpr) → 0 < length (out-Term (out-Expr e).first).more.items →
    None ≡ lone_factor (expr_view e)
has_factors e h =
    rw (expr_is e, term_is (out-Expr e).first) (multiplied_by (out-Expr e).sign _ (out-Term (out-Expr e).first).more.items _ h)

-- with none of these
pub is_lone : (e : CodeExpr) → is_some (out-Expr e).sign ≡ false → length (out-Expr e).more.items ≡ 0 →
    length (out-Term (out-Expr e).first).more.items ≡ 0 →
    Some (factor_view (out-Term (out-Expr e).first).first) ≡ lone_factor (expr_view e)
is_lone e h i j =
    rw (expr_is e, term_is (out-Expr e).first)
    (lone_by (out-Expr e).sign _ (out-Term (out-Expr e).first).more.items (out-Expr e).more.items h i j)

pub ruleset lone = (has_sign, has_terms, has_factors, is_lone)

applied_more : (n : Name) (e : Expr) (xs : List CodeExpr) → 0 < length xs →
    None ≡ factor_reference (applied n e (exprs_of (map expr_view xs)))
applied_more n e [] h = absurd (omega (arith, h))
applied_more n e (x ∷ xs) h = refl

applied_one : (n : Name) (e : Expr) (xs : List CodeExpr) → length xs ≡ 0 →
    Some (record { name = n; subscript = Some e }) ≡ factor_reference (applied n e (exprs_of (map expr_view xs)))
applied_one n e [] h = refl
applied_one n e (x ∷ xs) h = absurd (omega (arith, h))

-- with further arguments
pub to_more : (a : CodeApplication) → 0 < length (out-Application a).others.items →
    None ≡ factor_reference (application_view a)
to_more a h = rw (application_is a) (applied_more _ _ (out-Application a).others.items h)

pub more_to : (a : CodeApplication) → 0 < length (out-Application a).others.items →
    factor_reference (application_view a) ≡ None
more_to a h = sym (to_more a h)

-- with one argument
pub to_one : (a : CodeApplication) → length (out-Application a).others.items ≡ 0 →
    Some (record { name = (out-Application a).name; subscript = Some (expr_view (out-Application a).first.value) })
    ≡ factor_reference (application_view a)
to_one a h = rw (application_is a) (applied_one _ _ (out-Application a).others.items h)

pub ruleset applied_to = (to_more, more_to, to_one)
