use Rattle.std.proofs.Common.{◌≡◌, ◌≤◌, take}
use Rattle.ss_store.specs.Tables.{joined_among}
use Rattle.ss_store.proofs.tables.count_joined.Given as goal

-- those that were passed are counted
abbrev pub invariant-loop-i : goal.invariant-loop-i
invariant-loop-i l = (l.count ≡ joined_among l.class (take l.i l.sets)) × (l.count ≤ l.i)
