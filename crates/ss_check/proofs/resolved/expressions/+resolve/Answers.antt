use Rattle.std.proofs.Common.{◌≡◌, ap, ◌∙◌, refl, rules, ℕ}
use Rattle.std.specs.Prelude.{map, option_map}
use Rattle.ss_routines.specs.declared.tree.expr.Expr.{out-Expr}
use Rattle.ss_routines.specs.declared.tree.expr.Term.{out-Term}
use Rattle.ss_routines.specs.declared.tree.expr.Application.{out-Application}
use Rattle.ss_routines.specs.declared.tree.expr.Factor.TheFolds.{fold_out-Added, fold_out-Application}
use Rattle.ss_routines.specs.declared.tree.expr.Factor.TheFolds.{fold_out-Expr, fold_out-Term}
use Rattle.ss_words.specs.declared.terms.TermSign.{TermSign}
use Rattle.ss_program.specs.declared.sum.SignedTerm.{roll-SignedTerm}
use Rattle.ss_program.specs.declared.sum.Factor.TheFolds.{fold-roll-Arguments, fold-roll-SignedTerm}
use Rattle.ss_program.specs.declared.sum.Factor.TheFolds.{fold-roll-Sum, fold-roll-Term}
use Rattle.ss_routines.specs.Expr as tree
use Rattle.ss_routines.specs.View as written
use Rattle.ss_program.specs.ProgramExpr as checked
use Rattle.ss_check.specs.Resolved.{resolved_expr, resolved_exprs, resolved_factor, resolved_products, resolved_sums}
use Rattle.ss_check.specs.Declarations.{kind_of}
use Rattle.ss_check.specs.KindView.{kind_view}
use Rattle.ss_check.specs.Scope.{in_scope}
use Rattle.ss_check.proofs.TreeParts.{along, shown_all, shown_put, resolved_signed, exprs_map, products_map, sums_map}
use Rattle.ss_check.proofs.resolved.expressions.+resolve.Goals as goal

pub resolve_term-loop-further-preserved : goal.resolve_term-loop-further-preserved
resolve_term-loop-further-preserved t c =
    rw c.in_ok-push.ensures.items
    (shown_put (λ f. in_scope c.args.scope resolved_factor (written.factor_view f)) checked.factor_of
    c.loop-further.more.items c.in_ok-resolve_factor.field-0 c.deref-further-items.result.now
    c.loop-further.further-index c.further-item.result c.loop-further-test.true c.further-item.is
    c.in_ok-resolve_factor.ensures c.loop-further.invariant)

pub resolve_application-loop-other-preserved : goal.resolve_application-loop-other-preserved
resolve_application-loop-other-preserved t c =
    rw c.in_ok-push.ensures.items
    (shown_put (λ e. in_scope c.args.scope resolved_expr (written.expr_view e)) checked.expr_of
    c.loop-other.more.items c.in_ok-resolve_sum.field-0 c.deref-other-items.result.now
    c.loop-other.other-index c.other-item.result c.loop-other-test.true c.other-item.is
    c.in_ok-resolve_sum.ensures c.loop-other.invariant)

pub resolve_sum-loop-further-preserved : goal.resolve_sum-loop-further-preserved
resolve_sum-loop-further-preserved t c =
    let one : checked.signed_of (roll-SignedTerm record { sign = c.further-item.result.sign; term = c.in_ok-term.term })
    ≡ in_scope c.args.scope resolved_signed (written.added_view c.further-item.result)
    = rw (
      fold-roll-SignedTerm checked.Factor checked.Subscript (checked.Expr × checked.Exprs)
          (TermSign × checked.Term) (ℕ × checked.Subscript) checked.Expr checked.Term checked.factor_level
          checked.subscript_level checked.arguments_level checked.signed_level checked.subscripted_level
          checked.sum_level checked.term_level,
      fold_out-Added tree.Factor
          (TermSign × tree.Term) tree.Factor tree.Expr tree.Term written.factor_step written.added_step
          written.application_step written.expr_step written.term_step,
      c.in_ok-term.ensures,
    ) refl in
    rw c.in_ok-push.ensures.items
    (shown_put (λ a. in_scope c.args.scope resolved_signed (written.added_view a)) checked.signed_of
    c.loop-further.more.items _ c.deref-further-items.result.now
    c.loop-further.further-index c.further-item.result c.loop-further-test.true c.further-item.is
    one c.loop-further.invariant)

pub resolve_sum-returns : goal.resolve_sum-returns
resolve_sum-returns t c =
    let s = c.args.scope in
    let terms = (out-Expr c.args.e.now).more.items in
    let all : map checked.signed_of c.loop-further.more.items
    ≡ map (λ a. in_scope s resolved_signed (written.added_view a)) terms
    = shown_all (λ a. in_scope s resolved_signed (written.added_view a)) checked.signed_of
    c.loop-further.more.items c.deref-further-items.result.now c.loop-further.further-index c.loop-further-test.false
    c.loop-further.invariant
    ∙ ap (map (λ a. in_scope s resolved_signed (written.added_view a))) c.deref-further-items.ensures.value in
    let sums : checked.sums_of (map checked.signed_of c.loop-further.more.items)
    ≡ in_scope s resolved_sums (tree.sums_of (map written.added_view terms))
    = ap checked.sums_of all ∙ sums_map s.whole.now s.names.now s.locals.now written.added_view terms in
    rw (
      fold-roll-Sum checked.Factor checked.Subscript (checked.Expr × checked.Exprs)
          (TermSign × checked.Term) (ℕ × checked.Subscript) checked.Expr checked.Term checked.factor_level
          checked.subscript_level checked.arguments_level checked.signed_level checked.subscripted_level
          checked.sum_level checked.term_level,
      fold_out-Expr tree.Factor
          (TermSign × tree.Term) tree.Factor tree.Expr tree.Term written.factor_step written.added_step
          written.application_step written.expr_step written.term_step,
      c.in_ok-first.ensures,
      sums,
    ) refl

pub resolve_term-returns : goal.resolve_term-returns
resolve_term-returns t c =
    let s = c.args.scope in
    let factors = (out-Term c.args.t.now).more.items in
    let all : map checked.factor_of c.loop-further.more.items
    ≡ map (λ f. in_scope s resolved_factor (written.factor_view f)) factors
    = shown_all (λ a. in_scope s resolved_factor (written.factor_view a)) checked.factor_of
    c.loop-further.more.items c.deref-further-items.result.now c.loop-further.further-index c.loop-further-test.false
    c.loop-further.invariant
    ∙ ap (map (λ a. in_scope s resolved_factor (written.factor_view a))) c.deref-further-items.ensures.value in
    let products : checked.products_of (map checked.factor_of c.loop-further.more.items)
    ≡ in_scope s resolved_products (tree.products_of (map written.factor_view factors))
    = ap checked.products_of all ∙ products_map s.whole.now s.names.now s.locals.now written.factor_view factors in
    rw (
      fold-roll-Term checked.Factor checked.Subscript (checked.Expr × checked.Exprs)
          (TermSign × checked.Term) (ℕ × checked.Subscript) checked.Expr checked.Term checked.factor_level
          checked.subscript_level checked.arguments_level checked.signed_level checked.subscripted_level
          checked.sum_level checked.term_level,
      fold_out-Term tree.Factor
          (TermSign × tree.Term) tree.Factor tree.Expr tree.Term written.factor_step written.added_step
          written.application_step written.expr_step written.term_step,
      c.in_ok-first.ensures,
      products,
    ) refl

pub resolve_application-returns : goal.resolve_application-returns
resolve_application-returns t c =
    let s = c.args.scope in
    let a = out-Application c.args.a.now in
    let seen : written.application_view c.args.a.now
    ≡ tree.applied a.name (written.expr_view a.first.value) (tree.exprs_of (map written.expr_view a.others.items))
    = rw (fold_out-Application tree.Factor
    (TermSign × tree.Term) tree.Factor tree.Expr tree.Term written.factor_step written.added_step
    written.application_step written.expr_step written.term_step) refl in
    let first : checked.expr_of c.in_ok-first-2.first.value
    ≡ in_scope s resolved_expr (written.expr_view a.first.value) = search rules in
    let kind : option_map (λ k. kind_view k.now) c.kind.result ≡ kind_of s.whole.now a.name = search rules in
    let name : c.bytes-name.result.now ≡ a.name = search rules in
    let all : map checked.expr_of c.loop-other.more.items
    ≡ map (λ e. in_scope s resolved_expr (written.expr_view e)) a.others.items
    = shown_all (λ a. in_scope s resolved_expr (written.expr_view a)) checked.expr_of
    c.loop-other.more.items c.deref-other-items.result.now c.loop-other.other-index c.loop-other-test.false
    c.loop-other.invariant
    ∙ ap (map (λ a. in_scope s resolved_expr (written.expr_view a))) c.deref-other-items.ensures.value in
    let exprs : checked.exprs_of (map checked.expr_of c.loop-other.more.items)
    ≡ in_scope s resolved_exprs (tree.exprs_of (map written.expr_view a.others.items))
    = ap checked.exprs_of all ∙ exprs_map s.whole.now s.names.now s.locals.now written.expr_view a.others.items in
    let h = rw (
      fold-roll-Arguments checked.Factor checked.Subscript (checked.Expr × checked.Exprs)
          (TermSign × checked.Term) (ℕ × checked.Subscript) checked.Expr checked.Term checked.factor_level
          checked.subscript_level checked.arguments_level checked.signed_level checked.subscripted_level
          checked.sum_level checked.term_level,
      exprs,
    ) at
    c.applied_factor.ensures in
    along c.applied_factor.result checked.factor_of _ _ h (rw (seen, first, kind, name) refl)
