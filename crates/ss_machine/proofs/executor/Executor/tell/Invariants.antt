use Rattle.std.proofs.Common.{◌≡◌, drop}
use Rattle.ss_program.specs.ProgramSound.{AreSoundTellings}
use Rattle.ss_machine.specs.Noting.{Notes}
use Rattle.ss_machine.specs.Seen.{scope_held}
use Rattle.ss_state.specs.Statements.Looping.{state_after_telling}
use Rattle.ss_machine.proofs.executor.Executor.tell.Given as goal

-- the targets that are left bring the state to the result
abbrev pub invariant-loop-telling : goal.invariant-loop-telling
invariant-loop-telling g l = record {
  sound : AreSoundTellings (scope_held l.self.held) (drop l.telling-index l.tellings);
  tables : l.self.held.beside.tables ≡ l.fn.self.held.beside.tables;
  state : state_after_telling l.fn.self.held.beside.tables l.statistics l.self.held.state
      (drop l.telling-index l.tellings)
      ≡ state_after_telling l.fn.self.held.beside.tables l.statistics l.fn.self.held.state l.tellings;
  notes : Notes (l.telling-index) l.fn.self l.self;
}
