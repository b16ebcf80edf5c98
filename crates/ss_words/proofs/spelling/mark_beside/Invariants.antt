use Rattle.std.proofs.Common.{◌≡◌, map, length}
use Rattle.ss_words.specs.Spellings as spec
use Rattle.ss_words.proofs.spelling.mark_beside.Given as goal

abbrev pub invariant-loop-rows : goal.invariant-loop-rows
invariant-loop-rows l =
    spec.mark_beside l.name (map (λ row. (row.0.now, row.1)) l.rows)
    ≡ spec.mark_beside l.name (map (λ row. (row.0.now, row.1)) l.initial.rows)

abbrev pub decreases-loop-rows : goal.decreases-loop-rows
decreases-loop-rows l = length l.rows
