use Rattle.std.proofs.Common.{◌≡◌, ◌++◌, length}
use Rattle.ss_trace.specs.Value.{joined_lines}
use Rattle.ss_trace.proofs.value.push_joined.Given as goal

abbrev pub invariant-loop-byte : goal.invariant-loop-byte
invariant-loop-byte l = l.bytes.items ++ joined_lines l.left ≡ l.initial.bytes.items ++ joined_lines l.lines

abbrev pub decreases-loop-byte : goal.decreases-loop-byte
decreases-loop-byte l = length l.left
