use Rattle.std.proofs.Common.{◌≡◌, ◌+◌, length}
use Rattle.ss_sentences.specs.Breach.{stray_column}
use Rattle.ss_sentences.proofs.breach.stray_column.Given as goal

abbrev pub invariant-loop-rest : goal.invariant-loop-rest
invariant-loop-rest l =
    (l.column + length l.rest ≡ 1 + length l.line)
    × (stray_column l.column l.rest l.seen ≡ stray_column 1 l.line l.plain)

abbrev pub decreases-loop-rest : goal.decreases-loop-rest
decreases-loop-rest l = length l.rest
