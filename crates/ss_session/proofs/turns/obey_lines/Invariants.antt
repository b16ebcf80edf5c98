use Rattle.std.proofs.Common.{◌≡◌, length}
use Rattle.ss_debug.specs.CommandLines.{command_lines}
use Rattle.ss_debug.specs.Turn.{obeyed_lines}
use Rattle.ss_debug.specs.View.{debugger_state_of}
use Rattle.ss_session.specs.Private.{IsWrittenSoFar}
use Rattle.ss_session.proofs.turns.obey_lines.Given as goal

abbrev pub invariant-loop-rest : goal.invariant-loop-rest
invariant-loop-rest g l = record {
  so_far : IsWrittenSoFar l.initial.debugger.machine.input (debugger_state_of l.initial.debugger)
      (obeyed_lines (command_lines l.commands)) (obeyed_lines (command_lines l.rest)) (debugger_state_of l.debugger)
      (g.W.Outlet.taken l.initial.out) (g.W.Outlet.taken l.out);
  input : l.debugger.machine.input ≡ l.initial.debugger.machine.input;
  counted : g.W.Outlet.failures l.out ≡ g.W.Outlet.failures l.initial.out;
}

abbrev pub decreases-loop-rest : goal.decreases-loop-rest
decreases-loop-rest g l = length l.rest
