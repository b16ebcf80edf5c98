use Rattle.ss_journal.proofs.Cuts.{length-pieces}
use Rattle.ss_journal.proofs.journal.Journal.steps.Goals as goal

pub returns : goal.returns
returns g c = rw (← c.self.view_is) (rw length-pieces c.len.ensures)
