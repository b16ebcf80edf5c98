use Rattle.ss_console.proofs.Batch.{batch_by_input, batch_by_line}
use Rattle.ss_console.proofs.laws.dialogue_writes_the_batch.Goals as goal

pub returns-clause-input : goal.returns-clause-input
returns-clause-input g c = batch_by_input g.A.Answerer.meaning

pub returns-clause-line : goal.returns-clause-line
returns-clause-line g c = batch_by_line g.A.Answerer.meaning
