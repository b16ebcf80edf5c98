use Rattle.std.proofs.Common.{◌≡◌, []}
use Rattle.ss_journal.specs.Undoing.{FitsSteps}
use Rattle.model_tests.specs.contracts.journal.DialUndo.TheImpl.{fits-value, unapply-value}
use Rattle.model_tests.proofs.journal.there.Given as goal

-- the open step is empty, and all kept steps fit
abbrev pub invariant-loop-before : goal.invariant-loop-before
invariant-loop-before g l = record {
  closed : l.journal.current ≡ [];
  fits : FitsSteps fits-value.it unapply-value.it l.journal.steps l.dial;
}
