use Rattle.std.proofs.Common.{length, ◌≤◌, map, ◌+◌, ◌*◌}
use Rattle.ss_words.specs.declared.mark.Mark.TheVariants as m
use Rattle.ss_words.specs.declared.word.Sign.TheVariants as s
use Rattle.ss_routines.specs.Combined.{if_mark, if_word, star}
use Rattle.ss_routines.specs.ExprReading.{lead, factor_with, term_with, inner_at}
use Rattle.ss_routines.specs.View.{expr_view, factor_view, added_view}
use Rattle.ss_routines.proofs.Rooms.{Listing}
use Rattle.ss_routines.proofs.reading.expressions.+expression.Given as goal

abbrev pub decreases-expr : goal.decreases-expr
decreases-expr l = 16 * l.room + 13

abbrev pub decreases-inner : goal.decreases-inner
decreases-inner l = 16 * l.room + 1

abbrev pub decreases-next_inner : goal.decreases-next_inner
decreases-next_inner l = 16 * l.room + 2

abbrev pub decreases-inner_others : goal.decreases-inner_others
decreases-inner_others l = 16 * l.room + 3

abbrev pub decreases-inner_values : goal.decreases-inner_values
decreases-inner_values l = 16 * l.room + 4

abbrev pub decreases-arguments : goal.decreases-arguments
decreases-arguments l = 16 * l.room + 5

abbrev pub decreases-within : goal.decreases-within
decreases-within l = 16 * l.room + 6

abbrev pub decreases-factor : goal.decreases-factor
decreases-factor l = 16 * l.room + 7

abbrev pub decreases-next_product : goal.decreases-next_product
decreases-next_product l = 16 * l.room + 8

abbrev pub decreases-products : goal.decreases-products
decreases-products l = 16 * l.room + 9

abbrev pub decreases-term : goal.decreases-term
decreases-term l = 16 * l.room + 10

abbrev pub decreases-next_sum : goal.decreases-next_sum
decreases-next_sum l = 16 * l.room + 11

abbrev pub decreases-sums : goal.decreases-sums
decreases-sums l = 16 * l.room + 12

abbrev pub invariant-sums-loop-more : goal.invariant-sums-loop-more
invariant-sums-loop-more l = record {
  shorter : length l.cursor ≤ length l.fn.cursor;
  going : Listing (if_word lead (term_with l.room (inner_at l.room)))
      (star (if_word lead (term_with l.room (inner_at l.room))) l.fn.cursor) (map added_view l.more.items) l.cursor;
}

abbrev pub decreases-sums-loop-more : goal.decreases-sums-loop-more
decreases-sums-loop-more l = length l.cursor

abbrev pub invariant-products-loop-more : goal.invariant-products-loop-more
invariant-products-loop-more l = record {
  shorter : length l.cursor ≤ length l.fn.cursor;
  going : Listing (if_mark (m.Sign s.Star) (factor_with l.room (inner_at l.room)))
      (star (if_mark (m.Sign s.Star) (factor_with l.room (inner_at l.room))) l.fn.cursor) (map factor_view l.more.items)
      l.cursor;
}

abbrev pub decreases-products-loop-more : goal.decreases-products-loop-more
decreases-products-loop-more l = length l.cursor

abbrev pub invariant-inner_others-loop-values : goal.invariant-inner_others-loop-values
invariant-inner_others-loop-values l = record {
  shorter : length l.cursor ≤ length l.fn.cursor;
  going : Listing (if_mark (m.Sign s.Comma) (inner_at l.room))
      (star (if_mark (m.Sign s.Comma) (inner_at l.room)) l.fn.cursor) (map expr_view l.values.items) l.cursor;
}

abbrev pub decreases-inner_others-loop-values : goal.decreases-inner_others-loop-values
decreases-inner_others-loop-values l = length l.cursor
