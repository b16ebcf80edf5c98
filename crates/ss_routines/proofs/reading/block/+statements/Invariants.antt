use Rattle.std.proofs.Common.{length, ◌≤◌, ◌+◌, ◌*◌}
use Rattle.ss_words.specs.Plain.{word_lines}
use Rattle.ss_words.proofs.Writes.{Noted}
use Rattle.ss_routines.specs.PlacesAtLines.{noting_statement, noting_if, noting_loop, noting_statements}
use Rattle.ss_routines.specs.View.{spots}
use Rattle.ss_routines.proofs.reading.block.+statements.Given as goal

abbrev pub decreases-branch : goal.decreases-branch
decreases-branch l = 8 * (l.room.ifs + l.room.phrases) + 0

abbrev pub decreases-for_loop : goal.decreases-for_loop
decreases-for_loop l = 8 * (l.room.ifs + l.room.phrases) + 0

abbrev pub decreases-one : goal.decreases-one
decreases-one l = 8 * (l.room.ifs + l.room.phrases) + 1

abbrev pub decreases-statement : goal.decreases-statement
decreases-statement l = 8 * (l.room.ifs + l.room.phrases) + 2

abbrev pub decreases-last : goal.decreases-last
decreases-last l = 8 * (l.room.ifs + l.room.phrases) + 2

abbrev pub decreases-block : goal.decreases-block
decreases-block l = 8 * (l.room.ifs + l.room.phrases) + 3

abbrev pub decreases-otherwise : goal.decreases-otherwise
decreases-otherwise l = 8 * (l.room.ifs + l.room.phrases) + 4

abbrev pub decreases-repeated : goal.decreases-repeated
decreases-repeated l = 8 * (l.room.ifs + l.room.phrases) + 4

abbrev pub decreases-behind_if : goal.decreases-behind_if
decreases-behind_if l = 8 * (l.room.ifs + l.room.phrases) + 5

abbrev pub decreases-controlled : goal.decreases-controlled
decreases-controlled l = 8 * (l.room.ifs + l.room.phrases) + 5

abbrev pub invariant-block-loop : goal.invariant-block-loop
invariant-block-loop l =
    let n = l.room.parentheses in
    let b = noting_if (word_lines l.text) n l.room.ifs in
    record {
      shorter : length l.cursor ≤ length l.fn.cursor;
      going : Noted (noting_statement (word_lines l.text) n (b l.room.phrases)
          (noting_loop (word_lines l.text) n b l.room.phrases))
          (noting_statements (word_lines l.text) n l.room.ifs l.room.phrases (spots l.fn.out.items) l.fn.cursor)
          (spots l.out.items) l.cursor;
    }

abbrev pub decreases-block-loop : goal.decreases-block-loop
decreases-block-loop l = length l.cursor
