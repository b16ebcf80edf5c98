use Rattle.std.proofs.Common.{length, map, sym, ap, arith}
use Rattle.ss_words.specs.declared.terms.TermSign.{TermSign}
use Rattle.ss_routines.specs.declared.tree.expr.Expr.{out-Expr}
use Rattle.ss_routines.specs.declared.tree.expr.Term.{out-Term}
use Rattle.ss_routines.specs.declared.tree.expr.Factor.TheFolds.{fold_out-Expr, fold_out-Term}
use Rattle.ss_routines.specs.Expr.{Expr, Term, Factor, sums_of}
use Rattle.ss_routines.specs.View.{factor_step, added_step, application_step, expr_step, term_step}
use Rattle.ss_routines.specs.View.{factor_view, term_view, added_view}
use Rattle.ss_routines.proofs.NoReference.{more_factors, more_terms}
use Rattle.ss_routines.proofs.reading.conditions.as_reference.Goals as goal

pub returns-in-len1-up-as_slice : goal.returns-in-len1-up-as_slice
returns-in-len1-up-as_slice c =
    let e = out-Expr c.args.value in
    rw (fold_out-Expr
    Factor (TermSign × Term) Factor Expr Term factor_step added_step application_step expr_step term_step)
    (sym (more_terms e.sign (term_view e.first) added_view e.more.items
    (omega (arith, c.in-len1-up-as_slice.len_at_least, ap length c.as_slice-in-empty.ensures.value))))

pub returns-in-len1-up : goal.returns-in-len1-up
returns-in-len1-up c =
    let e = out-Expr c.args.value in
    let t = out-Term e.first in
    rw (
      fold_out-Expr
          Factor (TermSign × Term) Factor Expr Term factor_step added_step application_step expr_step term_step,
      fold_out-Term
          Factor (TermSign × Term) Factor Expr Term factor_step added_step application_step expr_step term_step,
    )
    (sym (more_factors e.sign (factor_view t.first) factor_view t.more.items (sums_of (map added_view e.more.items))
    (omega (arith, c.in-len1-up.len_at_least, ap length c.as_slice.ensures.value))))
