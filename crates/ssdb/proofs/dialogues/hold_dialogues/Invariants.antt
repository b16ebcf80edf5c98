use Rattle.std.proofs.Common.{◌≡◌}
use Rattle.ssdb.proofs.dialogues.hold_dialogues.Given as goal

abbrev pub invariant-loop : goal.invariant-loop
invariant-loop g l = g.C.Console.faults l.console.typed ≡ g.C.Console.faults l.initial.console.typed
