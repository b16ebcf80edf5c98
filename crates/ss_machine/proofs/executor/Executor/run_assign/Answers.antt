use Rattle.std.proofs.Common.{◌≡◌, arith, rules}
use Rattle.ss_journal.specs.Undoing.{unapply_all}
use Rattle.ss_state.specs.Change.{unapply}
use Rattle.ss_state.specs.Statements.Assigning.{state_after_assign}
use Rattle.ss_machine.proofs.Notings.{notes_both}
use Rattle.ss_machine.proofs.Executing.{settled_by}
use Rattle.ss_machine.proofs.executor.Executor.run_assign.Goals as goal

pub returns-clause-state : goal.returns-clause-state
returns-clause-state g c =
    let h = c.args.self.now.held in
    let o : unapply_all unapply c.assign_value-done.new.self.journal.current c.assign_value-done.new.self.held ≡ h =
    search rules in
    settled_by c.assign_value-done.result h.state c.assign_value-done.new.self.held.state c.settle.new.self.held.state
    (state_after_assign h.beside.tables h.state c.args.assign.now) c.args.next
    c.assign_value-done.ensures.outcome (rw o at c.settle.ensures.state)

pub returns-clause-notes : goal.returns-clause-notes
returns-clause-notes g c =
    notes_both 1 1 2 c.args.self.now c.assign_value-done.new.self c.settle.new.self c.assign_value-done.ensures.notes
    c.settle.ensures.notes (omega arith)
