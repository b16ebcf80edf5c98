use Rattle.std.proofs.Common.{◌≡◌, ◌++◌, drop}
use Rattle.std.specs.Prelude.{map}
use Rattle.ss_routines.specs.Expr.{sums_of, products_of, exprs_of}
use Rattle.ss_routines.specs.View.{application_view, expr_view, term_view, factor_view, added_view}
use Rattle.ss_check.specs.Uses.{uses_expr, uses_sums, uses_term, uses_products, uses_factor, uses_exprs}
use Rattle.ss_check.proofs.uses.expressions.+uses.Given as goal

abbrev pub decreases-add_expr : goal.decreases-add_expr
decreases-add_expr l = goal.size-add_expr l

abbrev pub decreases-add_term : goal.decreases-add_term
decreases-add_term l = goal.size-add_term l

abbrev pub decreases-add_factor : goal.decreases-add_factor
decreases-add_factor l = goal.size-add_factor l

abbrev pub decreases-add_application : goal.decreases-add_application
decreases-add_application l = goal.size-add_application l

-- the terms that are left bring the uses to all
abbrev pub invariant-add_expr-loop-further : goal.invariant-add_expr-loop-further
invariant-add_expr-loop-further l =
    l.uses ++ uses_sums (sums_of (map added_view (drop l.further-index l.further-items)))
    ≡ l.fn.uses ++ uses_expr (expr_view l.fn.e)

-- the factors that are left do
abbrev pub invariant-add_term-loop-further : goal.invariant-add_term-loop-further
invariant-add_term-loop-further l =
    l.uses ++ uses_products (products_of (map factor_view (drop l.further-index l.further-items)))
    ≡ l.fn.uses ++ uses_term (term_view l.fn.t)

-- the arguments that are left do
abbrev pub invariant-add_application-loop-other : goal.invariant-add_application-loop-other
invariant-add_application-loop-other l =
    l.uses ++ uses_exprs (exprs_of (map expr_view (drop l.other-index l.other-items)))
    ≡ l.fn.uses ++ uses_factor (application_view l.fn.a)
