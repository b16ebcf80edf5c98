use Rattle.std.proofs.Common.{sym, subst}
use Rattle.ss_journal.specs.Undoing.{FitsSteps}
use Rattle.model_tests.specs.contracts.journal.DialUndo.TheImpl.{fits-value, unapply-value}
use Rattle.ss_journal.proofs.UndoingLemmas.{FitsSteps-newest}
use Rattle.model_tests.proofs.journal.forget.Goals as goal

pub returns-clause-fits : goal.returns-clause-fits
returns-clause-fits c =
    subst (λ steps. FitsSteps fits-value.it unapply-value.it steps c.args.dial.now) (sym c.keep_last.ensures.steps)
    (FitsSteps-newest fits-value.it unapply-value.it c.args.kept c.args.journal.now.steps c.args.dial.now
    c.requires.fits)
