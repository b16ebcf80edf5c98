-- Small expressions and conditions by themselves.
use Rattle.std.proofs.Common.{◌≡◌, ℕ, zero, suc, [], ◌++◌, Option, Some, None, refl, sym, ap, ◌∙◌}
use Rattle.std.proofs.Common.{arith}
use Rattle.std.proofs.lemmas.List.{append-nil}
use Rattle.ss_routines.specs.Expr.{Expr, spell_expr, spell_within, depth_expr}
use Rattle.ss_routines.specs.Asked.{expression_in}
use Rattle.ss_routines.specs.Examples.{ExpressionIsAsked, ConditionIsAsked, enclosed, enclosed_words}
use Rattle.ss_routines.proofs.AskedWords.{expression_is_spelled, spelled_is_expression, one_spelling}
use Rattle.ss_routines.proofs.AskedUnfoldings.{expressions, conditions}

-- ---- X in parentheses

enclosed_is : (n : ℕ) → spell_expr (enclosed n) ≡ enclosed_words n
enclosed_is zero = refl
enclosed_is (suc n) =
    append-nil (spell_within (spell_expr (enclosed n)) ++ []) ∙ append-nil (spell_within (spell_expr (enclosed n)))
    ∙ ap spell_within (enclosed_is n)

enclosed_depth : (n : ℕ) → depth_expr (enclosed n) ≡ n
enclosed_depth zero = refl
enclosed_depth (suc n) = let h = enclosed_depth n in omega (arith, h)

fifty : expression_in (enclosed_words 50) ≡ Some (enclosed 50)
fifty =
    ap expression_in (sym (enclosed_is 50))
    ∙ spelled_is_expression (enclosed 50) (let h = enclosed_depth 50 in omega (arith, h))

no_more : (o : Option Expr) → expression_in (enclosed_words 51) ≡ o → o ≡ None
no_more None h = refl
no_more (Some e) h =
    let f = expression_is_spelled (enclosed_words 51) e h in
    let d = enclosed_depth 51 in
    let deep : e ≡ enclosed 51 =
    one_spelling 51 e (enclosed 51) (omega (arith, f.1)) (omega (arith, d)) (sym f.0 ∙ sym (enclosed_is 51)) in
    absurd (omega (arith, f.1, d, ap depth_expr deep))

-- ---- the examples

pub expression_is_asked : ExpressionIsAsked
unfolding expressions
expression_is_asked = (refl, refl, refl, fifty, no_more (expression_in (enclosed_words 51)) refl)

pub condition_is_asked : ConditionIsAsked
unfolding conditions
condition_is_asked = (refl, refl, refl)
