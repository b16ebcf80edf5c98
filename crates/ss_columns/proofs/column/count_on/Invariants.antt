use Rattle.std.proofs.Common.{◌≡◌, ◌+◌, ◌≤◌, length, map}
use Rattle.ss_words.specs.Words.{word_at}
use Rattle.ss_columns.specs.Columns.{count_on}
use Rattle.ss_columns.proofs.column.count_on.Given as goal

abbrev pub invariant-loop-words : goal.invariant-loop-words
invariant-loop-words l =
    (l.count + length l.words ≤ length l.initial.words)
    × (l.count + count_on l.line (map word_at l.words) ≡ count_on l.line (map word_at l.initial.words))

abbrev pub decreases-loop-words : goal.decreases-loop-words
decreases-loop-words l = length l.words
