use Rattle.std.proofs.Common.{◌≡◌, ◌+◌, ◌≤◌, ◌++◌, length, drop}
use Rattle.ss_machine.proofs.history.tape.put.Given as goal

-- the fields from `left` on are noted
abbrev pub invariant-loop-left : goal.invariant-loop-left
invariant-loop-left l = record {
  within : l.left ≤ length l.fields;
  steps : l.numbers.steps ≡ l.fn.numbers.steps;
  current : l.numbers.current ≡ drop l.left l.fields ++ l.fn.numbers.current;
  notes : l.fn.numbers.notes + l.left ≤ l.numbers.notes + length l.fields;
  closes : l.numbers.closes ≡ l.fn.numbers.closes;
}

abbrev pub decreases-loop-left : goal.decreases-loop-left
decreases-loop-left l = l.left
