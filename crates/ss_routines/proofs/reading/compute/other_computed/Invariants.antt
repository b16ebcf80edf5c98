use Rattle.std.proofs.Common.{length, ◌≤◌, map}
use Rattle.ss_words.specs.declared.mark.Mark.TheVariants as m
use Rattle.ss_words.specs.declared.word.Sign.TheVariants as s
use Rattle.ss_routines.specs.Combined.{if_mark, star}
use Rattle.ss_routines.specs.LoopReading.{computed_at}
use Rattle.ss_routines.specs.View.{computed_view}
use Rattle.ss_routines.proofs.Rooms.{Listing}
use Rattle.ss_routines.proofs.reading.compute.other_computed.Given as goal

abbrev pub invariant-loop-targets : goal.invariant-loop-targets
invariant-loop-targets l = record {
  shorter : length l.cursor ≤ length l.fn.cursor;
  going : Listing (if_mark (m.Sign s.Comma) (computed_at l.room))
      (star (if_mark (m.Sign s.Comma) (computed_at l.room)) l.fn.cursor) (map computed_view l.targets.items) l.cursor;
}

abbrev pub decreases-loop-targets : goal.decreases-loop-targets
decreases-loop-targets l = length l.cursor
