use Rattle.std.proofs.Common.{◌≡◌, ◌++◌, false, length}
use Rattle.ss_words.specs.TextLines.{with_blank_comments}
use Rattle.ss_columns.proofs.column.with_blank_comments.Given as goal

abbrev pub invariant-loop-rest : goal.invariant-loop-rest
invariant-loop-rest l =
    l.plain.items ++ with_blank_comments l.inside l.rest ≡ with_blank_comments false l.line

abbrev pub decreases-loop-rest : goal.decreases-loop-rest
decreases-loop-rest l = length l.rest
