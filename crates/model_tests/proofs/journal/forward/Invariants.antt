use Rattle.ss_journal.specs.Undoing.{WorkKeepsOrigin}
use Rattle.model_tests.specs.contracts.journal.DialUndo.TheImpl.{fits-value, unapply-value}
use Rattle.model_tests.proofs.journal.forward.Given as goal

-- so far a turn was noted for each value
abbrev pub invariant-loop-value : goal.invariant-loop-value
invariant-loop-value l =
    WorkKeepsOrigin fits-value.it unapply-value.it l.value-index l.initial.dial l.initial.journal l.dial l.journal
