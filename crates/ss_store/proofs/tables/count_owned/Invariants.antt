use Rattle.std.proofs.Common.{◌≡◌, ◌≤◌, take}
use Rattle.ss_program.specs.Program.{owned_among}
use Rattle.ss_store.proofs.tables.count_owned.Given as goal

-- those that were passed are counted
abbrev pub invariant-loop-i : goal.invariant-loop-i
invariant-loop-i l = (l.count ≡ owned_among l.owner (take l.i l.sets)) × (l.count ≤ l.i)
