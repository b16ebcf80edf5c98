use Rattle.std.proofs.Common.{◌≡◌, ◌+◌, length}
use Rattle.ss_columns.specs.Columns.{line_len}
use Rattle.ss_columns.proofs.column.line_len.Given as goal

abbrev pub invariant-loop-rest : goal.invariant-loop-rest
invariant-loop-rest l = (l.len + length l.rest ≡ length l.text) × (l.len + line_len l.rest ≡ line_len l.text)

abbrev pub decreases-loop-rest : goal.decreases-loop-rest
decreases-loop-rest l = length l.rest
