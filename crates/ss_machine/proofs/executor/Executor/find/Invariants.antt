use Rattle.std.proofs.Common.{◌≡◌, ◌+◌, drop, true}
use Rattle.ss_machine.specs.Noting.{Notes}
use Rattle.ss_state.specs.Statements.Looping.{state_with_found, state_with_loops}
use Rattle.ss_machine.proofs.executor.Executor.find.Given as goal

-- `counter` loops are closed
abbrev pub invariant-loop : goal.invariant-loop
invariant-loop g l = record {
  state : l.self.held.state ≡ state_with_loops (state_with_found l.fn.self.held.state true)
      (drop l.counter l.fn.self.held.state.frame.loops);
  notes : Notes (l.counter + 1) l.fn.self l.self;
}
