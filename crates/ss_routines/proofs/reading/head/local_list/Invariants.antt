use Rattle.std.proofs.Common.{length, map, ◌≤◌}
use Rattle.ss_words.specs.Plain.{word_lines}
use Rattle.ss_words.specs.Noting.{repeat}
use Rattle.ss_words.proofs.Writes.{Noted}
use Rattle.ss_routines.specs.PlacesAtLines.{noting_local}
use Rattle.ss_routines.specs.View.{local_view}
use Rattle.ss_routines.proofs.reading.head.local_list.Given as goal

abbrev pub invariant-loop : goal.invariant-loop
invariant-loop l = record {
  shorter : length l.cursor ≤ length l.fn.cursor;
  going : Noted (noting_local (word_lines l.text)) (repeat (noting_local (word_lines l.text))
      (map local_view l.fn.out.items) l.fn.cursor) (map local_view l.out.items) l.cursor;
}

abbrev pub decreases-loop : goal.decreases-loop
decreases-loop l = length l.cursor
