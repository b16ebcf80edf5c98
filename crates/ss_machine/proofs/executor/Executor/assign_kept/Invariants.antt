use Rattle.std.proofs.Common.{◌≡◌, ◌+◌, drop}
use Rattle.ss_program.specs.ProgramSound.{AreTargets}
use Rattle.ss_machine.specs.Noting.{Notes}
use Rattle.ss_machine.specs.Seen.{scope_held}
use Rattle.ss_state.specs.Statements.{state_with_values}
use Rattle.ss_machine.proofs.executor.Executor.assign_kept.Given as goal

-- the targets that are left bring the state to the result
abbrev pub invariant-loop-target : goal.invariant-loop-target
invariant-loop-target g l = record {
  sound : AreTargets (scope_held l.self.held) (drop l.target-index l.targets);
  counted : l.number ≡ l.first + l.target-index;
  values : l.self.values ≡ l.fn.self.values;
  tables : l.self.held.beside.tables ≡ l.fn.self.held.beside.tables;
  state : state_with_values l.fn.self.held.beside.tables l.fn.self.values.items l.self.held.state l.number
      (drop l.target-index l.targets)
      ≡ state_with_values l.fn.self.held.beside.tables l.fn.self.values.items l.fn.self.held.state l.first l.targets;
  notes : Notes (l.target-index) l.fn.self l.self;
}
