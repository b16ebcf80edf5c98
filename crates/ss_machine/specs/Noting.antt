-- Private: the notes that a statement's step leaves in the journal.
use Rattle.std.specs.Prelude.{ℕ}
use Rattle.ss_journal.specs.Undoing.{WorkKeepsOrigin}
use Rattle.ss_machine.specs.declared.executor.Executor.{Executor}
use Rattle.ss_state.specs.Change.{Fits, unapply}

-- it noted at most n changes, which fit and lead back to the state before
abbrev pub Notes : {S : Type 0} → ℕ → Executor S → Executor S → Type 0
Notes n old new = WorkKeepsOrigin Fits unapply n old.held old.journal new.held new.journal
