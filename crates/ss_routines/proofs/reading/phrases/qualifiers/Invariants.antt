use Rattle.std.proofs.Common.{length, ◌≤◌, map}
use Rattle.ss_routines.specs.Combined.{star}
use Rattle.ss_routines.specs.LoopReading.{next_qualifier}
use Rattle.ss_routines.specs.View.{qualifier_view}
use Rattle.ss_routines.proofs.Rooms.{Listing}
use Rattle.ss_routines.proofs.reading.phrases.qualifiers.Given as goal

abbrev pub invariant-loop-qualifiers : goal.invariant-loop-qualifiers
invariant-loop-qualifiers l = record {
  shorter : length l.cursor ≤ length l.fn.cursor;
  going : Listing (next_qualifier l.room) (star (next_qualifier l.room) l.fn.cursor)
      (map qualifier_view l.qualifiers.items) l.cursor;
}

abbrev pub decreases-loop-qualifiers : goal.decreases-loop-qualifiers
decreases-loop-qualifiers l = length l.cursor
