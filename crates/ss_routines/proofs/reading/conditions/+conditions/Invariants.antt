use Rattle.std.proofs.Common.{length, ◌≤◌, map, ◌+◌, ◌*◌}
use Rattle.ss_words.specs.declared.mark.Mark.TheVariants as m
use Rattle.ss_words.specs.declared.reserved.Reserved.TheVariants as r
use Rattle.ss_routines.specs.Combined.{if_mark, star}
use Rattle.ss_routines.specs.ConditionReading.{inner_either, relation_with, conjunction_with}
use Rattle.ss_routines.specs.View.{relation_view, conjunction_view}
use Rattle.ss_routines.proofs.Rooms.{Listing}
use Rattle.ss_routines.proofs.reading.conditions.+conditions.Given as goal

abbrev pub decreases-inner : goal.decreases-inner
decreases-inner l = 16 * l.room + 1

abbrev pub decreases-within : goal.decreases-within
decreases-within l = 16 * l.room + 2

abbrev pub decreases-value : goal.decreases-value
decreases-value l = 16 * l.room + 3

abbrev pub decreases-relation : goal.decreases-relation
decreases-relation l = 16 * l.room + 4

abbrev pub decreases-next_relation : goal.decreases-next_relation
decreases-next_relation l = 16 * l.room + 5

abbrev pub decreases-additions : goal.decreases-additions
decreases-additions l = 16 * l.room + 6

abbrev pub decreases-conjoined : goal.decreases-conjoined
decreases-conjoined l = 16 * l.room + 7

abbrev pub decreases-conjunction : goal.decreases-conjunction
decreases-conjunction l = 16 * l.room + 8

abbrev pub decreases-next_conjunction : goal.decreases-next_conjunction
decreases-next_conjunction l = 16 * l.room + 9

abbrev pub decreases-alternatives : goal.decreases-alternatives
decreases-alternatives l = 16 * l.room + 10

abbrev pub decreases-either : goal.decreases-either
decreases-either l = 16 * l.room + 11

abbrev pub invariant-additions-loop-more : goal.invariant-additions-loop-more
invariant-additions-loop-more l = record {
  shorter : length l.cursor ≤ length l.fn.cursor;
  going : Listing (if_mark (m.Reserved r.And) (relation_with l.room (inner_either l.room)))
      (star (if_mark (m.Reserved r.And) (relation_with l.room (inner_either l.room))) l.fn.cursor)
      (map relation_view l.more.items) l.cursor;
}

abbrev pub decreases-additions-loop-more : goal.decreases-additions-loop-more
decreases-additions-loop-more l = length l.cursor

abbrev pub invariant-alternatives-loop-more : goal.invariant-alternatives-loop-more
invariant-alternatives-loop-more l = record {
  shorter : length l.cursor ≤ length l.fn.cursor;
  going : Listing (if_mark (m.Reserved r.Or) (conjunction_with l.room (inner_either l.room)))
      (star (if_mark (m.Reserved r.Or) (conjunction_with l.room (inner_either l.room))) l.fn.cursor)
      (map conjunction_view l.more.items) l.cursor;
}

abbrev pub decreases-alternatives-loop-more : goal.decreases-alternatives-loop-more
decreases-alternatives-loop-more l = length l.cursor
