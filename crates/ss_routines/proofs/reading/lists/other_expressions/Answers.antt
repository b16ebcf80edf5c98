use Rattle.std.proofs.Common.{arith}
use Rattle.std.proofs.lemmas.Result.{err_from_is_err_and}
use Rattle.ss_words.specs.declared.mark.Mark.TheVariants as m
use Rattle.ss_words.specs.declared.word.Sign.TheVariants as s
use Rattle.ss_routines.specs.Combined.{if_mark, star}
use Rattle.ss_routines.specs.ExprReading.{expr_at}
use Rattle.ss_routines.specs.View.{expr_view}
use Rattle.ss_routines.proofs.Rooms.{list_begins, list_turns, list_stops}
use Rattle.ss_routines.proofs.ListLoop.{list_fails}
use Rattle.ss_routines.proofs.reading.lists.other_expressions.Goals as goal

pub loop-values-init : goal.loop-values-init
loop-values-init c = record {
  shorter = omega arith;
  going =
      list_begins (if_mark (m.Sign s.Comma) (expr_at c.args.room)) expr_view c.args.cursor.now c.new-values.result.items
      c.new-values.ensures.items;
}

pub returns-in_err-value-clause-exact : goal.returns-in_err-value-clause-exact
returns-in_err-value-clause-exact c =
    let p = err_from_is_err_and c.from_residual.result c.from_residual.ensures.1 in
    rw (p.1, p.2) (list_fails (if_mark (m.Sign s.Comma) (expr_at c.args.room)) expr_view
    (star (if_mark (m.Sign s.Comma) (expr_at c.args.room)) c.args.cursor.now) c.loop-values.values.items
    c.in_err-value.field-0.0 c.loop-values.cursor c.next_expression.new.cursor c.in_err-value.ensures.exact
    c.loop-values.invariant.going)

pub loop-values-preserved : goal.loop-values-preserved
loop-values-preserved c = record {
  shorter = omega (arith, c.in_ok-value.ensures.shorter);
  going =
      list_turns (if_mark (m.Sign s.Comma) (expr_at c.args.room)) expr_view
      (star (if_mark (m.Sign s.Comma) (expr_at c.args.room)) c.args.cursor.now) c.loop-values.values.items
      c.in-Some.value c.push.new.self.items
      c.loop-values.cursor c.next_expression.new.cursor c.in_ok-push.ensures.items
      (rw c.in-Some.is at c.in_ok-value.ensures.exact) (rw c.in-Some.is at c.in_ok-value.ensures.taken)
      c.loop-values.invariant.going;
}

pub returns-clause-exact : goal.returns-clause-exact
returns-clause-exact c =
    list_stops (if_mark (m.Sign s.Comma) (expr_at c.args.room)) expr_view
    (star (if_mark (m.Sign s.Comma) (expr_at c.args.room)) c.args.cursor.now) c.loop-values.values.items
    c.loop-values.cursor c.next_expression.new.cursor (rw c.in_default.is at c.in_ok-value.ensures.exact)
    c.loop-values.invariant.going
