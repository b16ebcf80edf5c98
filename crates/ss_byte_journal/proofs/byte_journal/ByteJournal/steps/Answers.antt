use Rattle.ss_journal.proofs.Cuts.{length-pieces}
use Rattle.ss_byte_journal.proofs.byte_journal.ByteJournal.steps.Goals as goal

pub returns : goal.returns
returns c = rw (← c.self.view_is) (rw length-pieces c.len.ensures)
