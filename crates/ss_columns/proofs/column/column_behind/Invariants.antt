use Rattle.std.proofs.Common.{◌≡◌, ◌+◌, length}
use Rattle.std.specs.Prelude.{slice_get}
use Rattle.ss_words.specs.declared.characters.TheConstants.{BLANK}
use Rattle.ss_columns.specs.Columns.{columns_from}
use Rattle.ss_columns.proofs.column.column_behind.Given as goal

abbrev pub invariant-loop-rest : goal.invariant-loop-rest
invariant-loop-rest l =
    (l.column + length l.rest ≡ 1 + length l.plain)
    × (slice_get (columns_from l.column l.last l.rest) l.words
    ≡ slice_get (columns_from 1 BLANK l.plain) l.initial.words)

abbrev pub decreases-loop-rest : goal.decreases-loop-rest
decreases-loop-rest l = length l.rest
