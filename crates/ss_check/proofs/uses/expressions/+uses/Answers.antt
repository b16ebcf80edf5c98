use Rattle.std.proofs.Common.{◌++◌, append_assoc, refl}
use Rattle.std.specs.Prelude.{map}
use Rattle.ss_words.specs.declared.terms.TermSign.{TermSign}
use Rattle.ss_routines.specs.declared.tree.expr.Factor.TheFolds.{fold_out-Added, fold_out-Expr, fold_out-Term}
use Rattle.ss_routines.specs.Expr.{Expr, Factor, Term, sums_of, products_of, exprs_of}
use Rattle.ss_routines.specs.View.{application_view, expr_view, term_view, factor_view, added_view, factor_step}
use Rattle.ss_routines.specs.View.{added_step, application_step, expr_step, term_step}
use Rattle.ss_check.specs.Uses.{uses_expr, uses_sums, uses_term, uses_products, uses_factor, uses_exprs}
use Rattle.ss_check.proofs.TableTurns.{added_end, added_turn}
use Rattle.ss_check.proofs.uses.expressions.+uses.Goals as goal

pub add_expr-loop-further-init : goal.add_expr-loop-further-init
add_expr-loop-further-init t c =
    rw (
      c.in_ok-add_term.ensures,
      c.deref-further-items.ensures.value,
      fold_out-Expr Factor (TermSign × Term) Factor Expr Term factor_step added_step application_step expr_step
          term_step,
      append_assoc,
    )
    refl

pub add_expr-loop-further-preserved : goal.add_expr-loop-further-preserved
add_expr-loop-further-preserved t c =
    rw c.in_ok-add_term-2.ensures
    (added_turn (λ ys. uses_sums (sums_of (map added_view ys))) (λ y. uses_term (term_view y.term))
    c.loop-further.uses c.deref-further-items.result.now c.loop-further.further-index c.further-item.result
    (c.args.uses.now ++ uses_expr (expr_view c.args.e.now))
    (λ y ys. rw (fold_out-Added Factor (TermSign × Term) Factor Expr Term factor_step added_step application_step
    expr_step term_step) refl)
    c.loop-further-test.true c.further-item.is c.loop-further.invariant)

pub add_expr-returns : goal.add_expr-returns
add_expr-returns t c =
    added_end (λ ys. uses_sums (sums_of (map added_view ys))) c.loop-further.uses
    c.deref-further-items.result.now c.loop-further.further-index
    (c.args.uses.now ++ uses_expr (expr_view c.args.e.now)) refl c.loop-further-test.false
    c.loop-further.invariant

pub add_term-loop-further-init : goal.add_term-loop-further-init
add_term-loop-further-init t c =
    rw (
      c.in_ok-add_factor.ensures,
      c.deref-further-items.ensures.value,
      fold_out-Term Factor (TermSign × Term) Factor Expr Term factor_step added_step application_step expr_step
          term_step,
      append_assoc,
    )
    refl

pub add_term-loop-further-preserved : goal.add_term-loop-further-preserved
add_term-loop-further-preserved t c =
    rw c.in_ok-add_factor-2.ensures
    (added_turn (λ ys. uses_products (products_of (map factor_view ys))) (λ y. uses_factor (factor_view y))
    c.loop-further.uses c.deref-further-items.result.now c.loop-further.further-index c.further-item.result
    (c.args.uses.now ++ uses_term (term_view c.args.t.now)) (λ y ys. refl) c.loop-further-test.true
    c.further-item.is c.loop-further.invariant)

pub add_term-returns : goal.add_term-returns
add_term-returns t c =
    added_end (λ ys. uses_products (products_of (map factor_view ys))) c.loop-further.uses
    c.deref-further-items.result.now c.loop-further.further-index
    (c.args.uses.now ++ uses_term (term_view c.args.t.now)) refl c.loop-further-test.false
    c.loop-further.invariant

pub add_application-loop-other-preserved : goal.add_application-loop-other-preserved
add_application-loop-other-preserved t c =
    rw c.in_ok-add_expr-2.ensures
    (added_turn (λ ys. uses_exprs (exprs_of (map expr_view ys))) (λ y. uses_expr (expr_view y))
    c.loop-other.uses c.deref-other-items.result.now c.loop-other.other-index c.other-item.result
    (c.args.uses.now ++ uses_factor (application_view c.args.a.now)) (λ y ys. refl) c.loop-other-test.true
    c.other-item.is c.loop-other.invariant)

pub add_application-returns : goal.add_application-returns
add_application-returns t c =
    added_end (λ ys. uses_exprs (exprs_of (map expr_view ys))) c.loop-other.uses
    c.deref-other-items.result.now c.loop-other.other-index
    (c.args.uses.now ++ uses_factor (application_view c.args.a.now)) refl c.loop-other-test.false
    c.loop-other.invariant
