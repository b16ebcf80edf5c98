use Rattle.std.proofs.Common.{◌≡◌, ◌≤◌, length}
use Rattle.ss_journal.specs.Undoing.{unapply_all, FitsAll}
use Rattle.ss_state.specs.Change.{Fits, unapply}
use Rattle.ss_machine.proofs.executor.Executor.roll_back.Given as goal

-- the changes left to take back fit, and lead to the same state as all of them
abbrev pub invariant-loop : goal.invariant-loop
invariant-loop g l = record {
  leads : unapply_all unapply l.self.journal.current l.self.held
      ≡ unapply_all unapply l.initial.self.journal.current l.initial.self.held;
  fit : FitsAll Fits unapply l.self.journal.current l.self.held;
  steps : l.self.journal.steps ≡ l.initial.self.journal.steps;
  notes : l.initial.self.journal.notes ≤ l.self.journal.notes;
  closes : l.self.journal.closes ≡ l.initial.self.journal.closes;
}

abbrev pub decreases-loop : goal.decreases-loop
decreases-loop g l = length l.self.journal.current
