use Rattle.std.proofs.Common.{length, ◌≤◌}
use Rattle.ss_words.specs.Plain.{word_lines}
use Rattle.ss_words.proofs.Writes.{Noted}
use Rattle.ss_preamble.specs.ItemsAtLines.{next_item_at, items_at}
use Rattle.ss_preamble.specs.View.{items_view}
use Rattle.ss_preamble.proofs.reader.item_list.Given as goal

abbrev pub invariant-loop : goal.invariant-loop
invariant-loop l = record {
  shorter : length l.cursor ≤ length l.fn.cursor;
  going : Noted (next_item_at (word_lines l.text))
      (items_at (word_lines l.text) (items_view l.fn.out.items) l.fn.cursor) (items_view l.out.items) l.cursor;
}

abbrev pub decreases-loop : goal.decreases-loop
decreases-loop l = length l.cursor
