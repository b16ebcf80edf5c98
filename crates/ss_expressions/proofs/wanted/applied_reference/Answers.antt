use Rattle.std.proofs.Common.{◌<◌, length, subst, arith, ap, ◌∙◌}
use Rattle.ss_words.specs.declared.terms.TermSign.{TermSign}
use Rattle.ss_routines.specs.declared.tree.expr.Application.{Application as CodeApplication, out-Application}
use Rattle.ss_routines.specs.declared.tree.expr.Factor as code
use Rattle.ss_routines.specs.declared.tree.expr.Factor.TheFolds.{fold_out-Factor}
use Rattle.ss_routines.specs.Expr.{Expr, Term, Factor}
use Rattle.ss_routines.specs.View.{factor_step, added_step, application_step, expr_step, term_step}
use Rattle.ss_expressions.specs.Wanted.{alone}
use Rattle.ss_expressions.proofs.References.{more_to}
use Rattle.ss_expressions.proofs.wanted.applied_reference.Goals as goal

pub returns-then-len-gt0 : goal.returns-then-len-gt0
unfolding code.out-Factor denote.Hole.Carrier.out
returns-then-len-gt0 g =
    let more : 0 < length (out-Application g.deref.result.now).others.items =
    omega (arith, (out-Application g.deref.result.now).others.ok.0, g.len.ensures, g.if-len-gt0.true) in (
      more_to g.args.a.value
          (subst (λ (a : CodeApplication). 0 < length (out-Application a).others.items) g.deref.ensures more),
      g.alone.ensures ∙ ap (λ (f : Factor). alone f) (fold_out-Factor Factor (TermSign × Term) Factor Expr Term
          factor_step added_step application_step expr_step term_step (code.Applied g.args.a)),
    )
