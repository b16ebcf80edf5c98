use Rattle.std.proofs.Common.{◌≡◌, ◌-◌, ◌≤◌, length, take}
use Rattle.ss_console.specs.Event.{Adds, write_events}
use Rattle.ss_console.proofs.puts.put_all.Given as goal

abbrev pub invariant-loop-at : goal.invariant-loop-at
invariant-loop-at g l = record {
  within : l.at ≤ length l.bytes;
  told : Adds (g.C.Console.log l.initial.console) (g.C.Console.log l.console) (write_events (take l.at l.bytes));
  faults : g.C.Console.faults l.console ≡ g.C.Console.faults l.initial.console;
  lines : g.C.Console.left l.console ≡ g.C.Console.left l.initial.console;
  terminal : g.C.Console.terminal l.console ≡ g.C.Console.terminal l.initial.console;
}

abbrev pub decreases-loop-at : goal.decreases-loop-at
decreases-loop-at g l = length l.bytes - l.at
