use Rattle.std.proofs.Common.{◌≡◌, length, map}
use Rattle.ss_sentences.specs.Near.{nearest}
use Rattle.ss_sentences.proofs.near.nearest.Given as goal

abbrev pub invariant-loop-table : goal.invariant-loop-table
invariant-loop-table l =
    nearest l.word (map (λ row. row.now) l.table) ≡ nearest l.word (map (λ row. row.now) l.initial.table)

abbrev pub decreases-loop-table : goal.decreases-loop-table
decreases-loop-table l = length l.table
