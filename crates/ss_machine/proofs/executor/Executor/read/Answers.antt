use Rattle.std.proofs.Common.{◌≡◌, ◌+◌, length, arith, rules}
use Rattle.ss_journal.specs.Undoing.{unapply_all}
use Rattle.ss_state.specs.Change.{unapply}
use Rattle.ss_machine.proofs.Notings.{notes_both}
use Rattle.ss_machine.proofs.Storings.{settled_as}
use Rattle.ss_machine.proofs.executor.Executor.read.Goals as goal

pub returns-clause-state : goal.returns-clause-state
returns-clause-state g c =
    let h = c.args.self.now.held in
    let o : unapply_all unapply c.take-done.new.self.journal.current c.take-done.new.self.held ≡ h = search rules in
    settled_as c.take-done.result c.settle_or_refuse.result h.state c.take-done.new.self.held.state
    c.settle_or_refuse.new.self.held.state _ c.args.next
    c.take-done.ensures.outcome (rw o at c.settle_or_refuse.ensures.state)

pub returns-clause-notes : goal.returns-clause-notes
returns-clause-notes g c =
    let n = length c.args.targets.now in
    notes_both (1 + n) 1 (2 + n) c.args.self.now c.take-done.new.self c.settle_or_refuse.new.self
    c.take-done.ensures.notes c.settle_or_refuse.ensures.notes (omega arith)
