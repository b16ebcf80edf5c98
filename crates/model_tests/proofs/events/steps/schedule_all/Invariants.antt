use Rattle.std.proofs.Common.{◌≡◌, []}
use Rattle.ss_journal.specs.Undoing.{FitsSteps}
use Rattle.ss_events.specs.Changes.{Fits, unapply}
use Rattle.model_tests.proofs.events.steps.schedule_all.Given as goal

-- the open step is empty, and all kept steps fit
abbrev pub invariant-loop-notice : goal.invariant-loop-notice
invariant-loop-notice g l = record {
  closed : l.journal.current ≡ [];
  fits : FitsSteps Fits unapply l.journal.steps l.agenda;
}
