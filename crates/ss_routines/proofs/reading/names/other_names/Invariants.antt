use Rattle.std.proofs.Common.{length, ◌≤◌, ◌-◌}
use Rattle.ss_routines.specs.SectionReading.{others_at}
use Rattle.ss_routines.proofs.NamesLoop.{Gathered}
use Rattle.ss_routines.proofs.reading.names.other_names.Given as goal

abbrev pub invariant-loop-names : goal.invariant-loop-names
invariant-loop-names l = record {
  shorter : length l.cursor ≤ length l.fn.cursor;
  few : length l.names.items ≤ l.room;
  gathered : Gathered (others_at l.room l.fn.cursor) l.names.items (l.room - length l.names.items)
      l.cursor;
}

abbrev pub decreases-loop-names : goal.decreases-loop-names
decreases-loop-names l = length l.cursor
