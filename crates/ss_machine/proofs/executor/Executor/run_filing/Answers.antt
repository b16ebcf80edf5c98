use Rattle.std.proofs.Common.{◌≡◌, arith, rules}
use Rattle.ss_journal.specs.Undoing.{unapply_all}
use Rattle.ss_state.specs.Change.{unapply}
use Rattle.ss_state.specs.Statements.Filing.{state_after_filing}
use Rattle.ss_machine.proofs.Notings.{notes_both}
use Rattle.ss_machine.proofs.Executing.{settled_by}
use Rattle.ss_machine.proofs.executor.Executor.run_filing.Goals as goal

pub returns-clause-state : goal.returns-clause-state
returns-clause-state g c =
    let h = c.args.self.now.held in
    let o : unapply_all unapply c.file_or_remove-done.new.self.journal.current c.file_or_remove-done.new.self.held ≡ h =
    search rules in
    settled_by c.file_or_remove-done.result h.state c.file_or_remove-done.new.self.held.state
    c.settle.new.self.held.state
    (state_after_filing h.beside.tables h.state c.args.filing.now) c.args.next
    c.file_or_remove-done.ensures.outcome (rw o at c.settle.ensures.state)

pub returns-clause-notes : goal.returns-clause-notes
returns-clause-notes g c =
    notes_both 2 1 3 c.args.self.now c.file_or_remove-done.new.self c.settle.new.self
    c.file_or_remove-done.ensures.notes c.settle.ensures.notes (omega arith)
