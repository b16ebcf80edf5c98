use Rattle.std.proofs.Common.{length, sym, ap, arith}
use Rattle.ss_words.specs.declared.terms.TermSign.{TermSign}
use Rattle.ss_routines.specs.declared.tree.expr.Application.{out-Application}
use Rattle.ss_routines.specs.declared.tree.expr.Factor.TheFolds.{fold_out-Application}
use Rattle.ss_routines.specs.Expr.{Expr, Term, Factor}
use Rattle.ss_routines.specs.View.{factor_step, added_step, application_step, expr_step, term_step, expr_view}
use Rattle.ss_routines.proofs.NoReference.{more_arguments}
use Rattle.ss_routines.proofs.reading.conditions.application_as_reference.Goals as goal

pub returns-in-len1-up : goal.returns-in-len1-up
returns-in-len1-up c =
    let a = out-Application c.args.application in
    rw (fold_out-Application Factor (TermSign × Term) Factor Expr Term factor_step added_step application_step expr_step
    term_step)
    (sym (more_arguments a.name (expr_view a.first.value) expr_view a.others.items
    (omega (arith, c.in-len1-up.len_at_least, ap length c.as_slice.ensures.value))))
