use Rattle.std.proofs.Common.{◌≡◌, ◌+◌, length}
use Rattle.ss_journal.specs.Undoing.{unapply_all, FitsAll}
use Rattle.ss_journal.proofs.undo.roll_back.Given as goal

-- the changes left fit and lead to the state before all of them; each undone one left its room
abbrev pub invariant-loop-change : goal.invariant-loop-change
invariant-loop-change g l =
    let fits = g.U.Undo.fits in
    let unapply = g.U.Undo.unapply in
    record {
      leads : unapply_all unapply l.journal.current l.target
          ≡ unapply_all unapply l.initial.journal.current l.initial.target;
      fit : FitsAll fits unapply l.journal.current l.target;
      steps : l.journal.steps ≡ l.initial.journal.steps;
      notes : l.journal.notes + length l.journal.current ≡ l.initial.journal.notes + length l.initial.journal.current;
      closes : l.journal.closes ≡ l.initial.journal.closes;
    }

abbrev pub decreases-loop-change : goal.decreases-loop-change
decreases-loop-change g l = length l.journal.current
