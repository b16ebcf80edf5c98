use Rattle.ss_prompt.proofs.Plains.{plain_answers}
use Rattle.ss_prompt.proofs.laws.plain_answers_come_first.Goals as goal

pub returns : goal.returns
returns c = plain_answers
