use Rattle.std.proofs.Common.{◌≡◌, ◌+◌, length, arith, rules}
use Rattle.ss_journal.specs.Undoing.{unapply_all}
use Rattle.ss_state.specs.Change.{unapply}
use Rattle.ss_state.specs.Statements.Looping.{state_after_telling}
use Rattle.ss_machine.proofs.Notings.{notes_both}
use Rattle.ss_machine.proofs.Executing.{settled_by}
use Rattle.ss_machine.proofs.executor.Executor.run_looping.Goals as goal

pub returns-in-For-clause-state : goal.returns-in-For-clause-state
returns-in-For-clause-state g c = rw c.in-For.is (rw c.value.ensures at c.run_phrase.ensures.state)

pub returns-in-For-clause-notes : goal.returns-in-For-clause-notes
returns-in-For-clause-notes g c = rw c.in-For.is c.run_phrase.ensures.notes

pub returns-in-Loop-clause-state : goal.returns-in-Loop-clause-state
returns-in-Loop-clause-state g c = rw c.in-Loop.is c.go_to.ensures.state

pub returns-in-Loop-clause-notes : goal.returns-in-Loop-clause-notes
returns-in-Loop-clause-notes g c = rw c.in-Loop.is c.go_to.ensures.notes

pub returns-in-Find-clause-state : goal.returns-in-Find-clause-state
returns-in-Find-clause-state g c = rw c.in-Find.is c.find.ensures.state

pub returns-in-Find-clause-notes : goal.returns-in-Find-clause-notes
returns-in-Find-clause-notes g c = rw c.in-Find.is c.find.ensures.notes

pub returns-in-Gather-clause-notes : goal.returns-in-Gather-clause-notes
returns-in-Gather-clause-notes g c = rw c.in-Gather.is c.gather.ensures.notes

pub tell-done-requires-clause-sound : goal.tell-done-requires-clause-sound
tell-done-requires-clause-sound g c = rw c.in-Tell.is at c.requires.sound

pub tell-done-requires-clause-room : goal.tell-done-requires-clause-room
tell-done-requires-clause-room g c = omega (arith, rw c.in-Tell.is at c.requires.room)

pub returns-in-Tell-clause-state : goal.returns-in-Tell-clause-state
returns-in-Tell-clause-state g c =
    let h = c.args.self.now.held in
    let o : unapply_all unapply c.tell-done.new.self.journal.current c.tell-done.new.self.held ≡ h = search rules in
    rw c.in-Tell.is
    (settled_by c.tell-done.result h.state c.tell-done.new.self.held.state c.settle.new.self.held.state
    (state_after_telling h.beside.tables h.state.frame.statistics h.state c.in-Tell.tellings) c.args.ways.next
    (rw c.statistics-statistics.ensures at c.tell-done.ensures.outcome) (rw o at c.settle.ensures.state))

pub returns-in-Tell-clause-notes : goal.returns-in-Tell-clause-notes
returns-in-Tell-clause-notes g c =
    rw c.in-Tell.is
    (notes_both (length c.in-Tell.tellings) 1 (1 + length c.in-Tell.tellings) c.args.self.now c.tell-done.new.self
    c.settle.new.self c.tell-done.ensures.notes c.settle.ensures.notes (omega arith))
