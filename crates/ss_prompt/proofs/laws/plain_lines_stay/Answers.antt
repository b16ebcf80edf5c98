use Rattle.ss_prompt.proofs.Plains.{plain_lines, few_others}
use Rattle.ss_prompt.proofs.laws.plain_lines_stay.Goals as goal

pub returns-clause-stay : goal.returns-clause-stay
returns-clause-stay c = plain_lines

pub returns-clause-few : goal.returns-clause-few
returns-clause-few c = few_others
