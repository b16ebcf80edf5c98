use Rattle.std.proofs.Common.{◌≡◌, map, length}
use Rattle.ss_columns.specs.Reserved.{is_among}
use Rattle.ss_columns.proofs.reserved.is_among.Given as goal

abbrev pub invariant-loop-table : goal.invariant-loop-table
invariant-loop-table l =
    is_among l.name (map (λ row. row.now) l.table) ≡ is_among l.name (map (λ row. row.now) l.initial.table)

abbrev pub decreases-loop-table : goal.decreases-loop-table
decreases-loop-table l = length l.table
