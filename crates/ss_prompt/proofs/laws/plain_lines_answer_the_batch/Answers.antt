use Rattle.ss_prompt.proofs.Batches.{plain_batch, plain_led}
use Rattle.ss_prompt.proofs.laws.plain_lines_answer_the_batch.Goals as goal

pub returns-clause-answers : goal.returns-clause-answers
returns-clause-answers c = plain_batch

pub returns-clause-report : goal.returns-clause-report
returns-clause-report c = plain_led
