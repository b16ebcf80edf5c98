use Rattle.std.proofs.Common.{◌≡◌, ◌++◌, replicate}
use Rattle.ss_trace.proofs.table.push_blanks.Given as goal

abbrev pub invariant-loop : goal.invariant-loop
invariant-loop l = l.bytes.items ≡ l.initial.bytes.items ++ replicate l.counter 32
