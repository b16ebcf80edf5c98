use Rattle.std.proofs.Common.{refl, arith, ◌∷◌, []}
use Rattle.std.proofs.lemmas.Result.{err_from_is_err_and}
use Rattle.ss_words.specs.declared.mark.Mark.TheVariants as m
use Rattle.ss_words.specs.declared.word.Sign.TheVariants as s
use Rattle.ss_words.specs.Reading.{refuse}
use Rattle.ss_words.proofs.Loop.{fails, passes_on}
use Rattle.ss_routines.specs.Combined.{if_mark, if_word, star}
use Rattle.ss_routines.specs.ExprReading.{lead, factor_with, term_with, inner_at}
use Rattle.ss_routines.specs.View.{expr_view, factor_view, added_view}
use Rattle.ss_routines.proofs.Rooms.{inner_shut, inner_deeper, list_begins, list_turns, list_stops}
use Rattle.ss_routines.proofs.AbsentParts.{no_mark}
use Rattle.ss_routines.proofs.PartAnswers.{mark_reads, mark_fails}
use Rattle.ss_routines.proofs.reading.expressions.+expression.Goals as goal

pub sums-loop-more-init : goal.sums-loop-more-init
sums-loop-more-init t c =
    record {
      shorter = omega arith;
      going = list_begins (if_word lead (term_with c.args.room (inner_at c.args.room)))
          added_view c.args.cursor.now c.new-more.result.items c.new-more.ensures.items;
    }

pub sums-returns-in_err-added-clause-exact : goal.sums-returns-in_err-added-clause-exact
sums-returns-in_err-added-clause-exact t c =
    let p = err_from_is_err_and c.from_residual.result c.from_residual.ensures.1 in
    rw (p.1, p.2) (passes_on c.in_err-added.field-0.0 c.next_sum.new.cursor
    ((if_word lead (term_with c.args.room (inner_at c.args.room))) c.loop-more.cursor) _
    (λ e h. fails (if_word lead (term_with c.args.room (inner_at c.args.room))) [] (λ a ys. a ∷ ys)
    (star (if_word lead (term_with c.args.room (inner_at c.args.room))) c.args.cursor.now) _ c.loop-more.cursor
    c.next_sum.new.cursor e h c.loop-more.invariant.going) c.in_err-added.ensures.exact)

pub sums-loop-more-preserved : goal.sums-loop-more-preserved
sums-loop-more-preserved t c =
    record {
      shorter = omega (arith, c.in_ok-added.ensures.shorter);
      going = list_turns
          (if_word lead (term_with c.args.room (inner_at c.args.room))) added_view
          (star (if_word lead (term_with c.args.room (inner_at c.args.room))) c.args.cursor.now) c.loop-more.more.items
          c.in-Some.added c.push.new.self.items c.loop-more.cursor c.next_sum.new.cursor c.in_ok-push.ensures.items
          (rw c.in-Some.is at c.in_ok-added.ensures.exact) (rw c.in-Some.is at c.in_ok-added.ensures.taken)
          c.loop-more.invariant.going;
    }

pub sums-returns-clause-exact : goal.sums-returns-clause-exact
sums-returns-clause-exact t c =
    rw (c.shrink_to_fit.ensures.items)
    (list_stops (if_word lead (term_with c.args.room (inner_at c.args.room))) added_view
    (star (if_word lead (term_with c.args.room (inner_at c.args.room))) c.args.cursor.now) c.loop-more.more.items
    c.loop-more.cursor c.next_sum.new.cursor (rw c.in_default.is at c.in_ok-added.ensures.exact)
    c.loop-more.invariant.going)

pub products-loop-more-init : goal.products-loop-more-init
products-loop-more-init t c =
    record {
      shorter = omega arith;
      going = list_begins
          (if_mark (m.Sign s.Star) (factor_with c.args.room (inner_at c.args.room))) factor_view c.args.cursor.now
          c.new-more.result.items c.new-more.ensures.items;
    }

pub products-returns-in_err-factor-clause-exact : goal.products-returns-in_err-factor-clause-exact
products-returns-in_err-factor-clause-exact t c =
    let p = err_from_is_err_and c.from_residual.result c.from_residual.ensures.1 in
    rw (p.1, p.2) (passes_on c.in_err-factor.field-0.0 c.next_product.new.cursor
    ((if_mark (m.Sign s.Star) (factor_with c.args.room (inner_at c.args.room))) c.loop-more.cursor) _
    (λ e h. fails (if_mark (m.Sign s.Star) (factor_with c.args.room (inner_at c.args.room))) [] (λ a ys. a ∷ ys)
    (star (if_mark (m.Sign s.Star) (factor_with c.args.room (inner_at c.args.room))) c.args.cursor.now) _
    c.loop-more.cursor c.next_product.new.cursor e h c.loop-more.invariant.going) c.in_err-factor.ensures.exact)

pub products-loop-more-preserved : goal.products-loop-more-preserved
products-loop-more-preserved t c =
    record {
      shorter = omega (arith, c.in_ok-factor.ensures.shorter);
      going = list_turns
          (if_mark (m.Sign s.Star) (factor_with c.args.room (inner_at c.args.room))) factor_view
          (star (if_mark (m.Sign s.Star) (factor_with c.args.room (inner_at c.args.room))) c.args.cursor.now)
          c.loop-more.more.items c.in-Some.factor c.push.new.self.items c.loop-more.cursor c.next_product.new.cursor
          c.in_ok-push.ensures.items (rw c.in-Some.is at c.in_ok-factor.ensures.exact)
          (rw c.in-Some.is at c.in_ok-factor.ensures.taken) c.loop-more.invariant.going;
    }

pub products-returns-clause-exact : goal.products-returns-clause-exact
products-returns-clause-exact t c =
    rw (c.shrink_to_fit.ensures.items)
    (list_stops (if_mark (m.Sign s.Star) (factor_with c.args.room (inner_at c.args.room))) factor_view
    (star (if_mark (m.Sign s.Star) (factor_with c.args.room (inner_at c.args.room))) c.args.cursor.now)
    c.loop-more.more.items c.loop-more.cursor c.next_product.new.cursor
    (rw c.in_default.is at c.in_ok-factor.ensures.exact) c.loop-more.invariant.going)

pub inner_others-loop-values-init : goal.inner_others-loop-values-init
inner_others-loop-values-init t c =
    record {
      shorter = omega arith;
      going = list_begins (if_mark (m.Sign s.Comma) (inner_at c.args.room)) expr_view
          c.args.cursor.now c.new-values.result.items c.new-values.ensures.items;
    }

pub inner_others-returns-in_err-value-clause-exact : goal.inner_others-returns-in_err-value-clause-exact
inner_others-returns-in_err-value-clause-exact t c =
    let p = err_from_is_err_and c.from_residual.result c.from_residual.ensures.1 in
    rw (p.1, p.2) (passes_on c.in_err-value.field-0.0 c.next_inner.new.cursor
    ((if_mark (m.Sign s.Comma) (inner_at c.args.room)) c.loop-values.cursor) _
    (λ e h. fails (if_mark (m.Sign s.Comma) (inner_at c.args.room)) [] (λ a ys. a ∷ ys)
    (star (if_mark (m.Sign s.Comma) (inner_at c.args.room)) c.args.cursor.now) _ c.loop-values.cursor
    c.next_inner.new.cursor e h c.loop-values.invariant.going) c.in_err-value.ensures.exact)

pub inner_others-loop-values-preserved : goal.inner_others-loop-values-preserved
inner_others-loop-values-preserved t c =
    record {
      shorter = omega (arith, c.in_ok-value.ensures.shorter);
      going = list_turns
          (if_mark (m.Sign s.Comma) (inner_at c.args.room)) expr_view
          (star (if_mark (m.Sign s.Comma) (inner_at c.args.room)) c.args.cursor.now) c.loop-values.values.items
          c.in-Some.value c.push.new.self.items c.loop-values.cursor c.next_inner.new.cursor c.in_ok-push.ensures.items
          (rw c.in-Some.is at c.in_ok-value.ensures.exact) (rw c.in-Some.is at c.in_ok-value.ensures.taken)
          c.loop-values.invariant.going;
    }

pub inner_others-returns-clause-exact : goal.inner_others-returns-clause-exact
inner_others-returns-clause-exact t c =
    rw (c.shrink_to_fit.ensures.items) (list_stops (if_mark (m.Sign s.Comma) (inner_at c.args.room)) expr_view
    (star (if_mark (m.Sign s.Comma) (inner_at c.args.room)) c.args.cursor.now) c.loop-values.values.items
    c.loop-values.cursor c.next_inner.new.cursor (rw c.in_default.is at c.in_ok-value.ensures.exact)
    c.loop-values.invariant.going)

pub inner-returns-then-room-eq0-clause-exact : goal.inner-returns-then-room-eq0-clause-exact
unfolding refuse
inner-returns-then-room-eq0-clause-exact t c = rw (inner_shut c.args.room c.if-room-eq0.true) refl

pub inner-returns-clause-exact : goal.inner-returns-clause-exact
inner-returns-clause-exact t c = rw (inner_deeper c.args.room c.if-room-eq0.false) c.expr.ensures.exact

pub next_product-returns-then-not-eat-clause-exact : goal.next_product-returns-then-not-eat-clause-exact
next_product-returns-then-not-eat-clause-exact t c = no_mark _ _ c.eat.result _ _ c.eat.ensures.exact c.if-not-eat.true

pub next_product-returns-in_err-factor-clause-exact : goal.next_product-returns-in_err-factor-clause-exact
next_product-returns-in_err-factor-clause-exact t c =
    let p = err_from_is_err_and c.from_residual.result c.from_residual.ensures.1 in
    rw (p.1, p.2) (mark_fails _ _ c.eat.result _ _ c.in_err-factor.field-0.0 _ c.eat.ensures.exact c.if-not-eat.false
    c.in_err-factor.ensures.exact)

pub next_product-returns-clause-exact : goal.next_product-returns-clause-exact
next_product-returns-clause-exact t c =
    mark_reads _ _ c.eat.result _ _ (factor_view c.in_ok-factor.field-0) _ c.eat.ensures.exact c.if-not-eat.false
    c.in_ok-factor.ensures.exact
