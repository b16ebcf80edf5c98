use Rattle.std.proofs.Common.{◌≡◌, ℕ, length}
use Rattle.ss_debug.specs.BreakTable.{condition_at}
use Rattle.ss_debug.proofs.break_lines.make_condition_room.Given as goal

abbrev pub invariant-loop-k : goal.invariant-loop-k
invariant-loop-k l = record {
  length : length l.conditions.items ≡ l._k;
  same : (k : ℕ) → condition_at l.conditions.items k ≡ condition_at l.initial.conditions.items k;
}
