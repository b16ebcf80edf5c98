use Rattle.std.proofs.Common.{length, ◌≤◌, map}
use Rattle.ss_words.specs.declared.mark.Mark.TheVariants as m
use Rattle.ss_words.specs.declared.word.Sign.TheVariants as s
use Rattle.ss_routines.specs.Combined.{if_mark, star}
use Rattle.ss_routines.specs.ExprReading.{expr_at}
use Rattle.ss_routines.specs.View.{expr_view}
use Rattle.ss_routines.proofs.Rooms.{Listing}
use Rattle.ss_routines.proofs.reading.lists.other_expressions.Given as goal

abbrev pub invariant-loop-values : goal.invariant-loop-values
invariant-loop-values l = record {
  shorter : length l.cursor ≤ length l.fn.cursor;
  going : Listing (if_mark (m.Sign s.Comma) (expr_at l.room))
      (star (if_mark (m.Sign s.Comma) (expr_at l.room)) l.fn.cursor) (map expr_view l.values.items) l.cursor;
}

abbrev pub decreases-loop-values : goal.decreases-loop-values
decreases-loop-values l = length l.cursor
