use Rattle.ss_prompt.proofs.KeptLines.{lines_same, kept_says, plain_texts}
use Rattle.ss_prompt.proofs.laws.plain_texts_answer_the_batch.Goals as goal

pub returns-clause-lines : goal.returns-clause-lines
returns-clause-lines c = lines_same

pub returns-clause-kept : goal.returns-clause-kept
returns-clause-kept c = kept_says

pub returns-clause-answers : goal.returns-clause-answers
returns-clause-answers c = plain_texts
