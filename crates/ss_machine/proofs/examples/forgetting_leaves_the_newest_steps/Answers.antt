use Rattle.std.proofs.Common.{refl}
use Rattle.ss_machine.proofs.examples.forgetting_leaves_the_newest_steps.Goals as goal

pub returns-clause-none_made : goal.returns-clause-none_made
returns-clause-none_made c = λ b. record { input = refl; state = refl; position = refl; past = refl; steps = refl }

pub returns-clause-fewer : goal.returns-clause-fewer
returns-clause-fewer c = λ b. record { input = refl; state = refl; position = refl; past = refl; steps = refl }

pub returns-clause-one_of_two : goal.returns-clause-one_of_two
returns-clause-one_of_two c = λ b. record { input = refl; state = refl; position = refl; past = refl; steps = refl }

pub returns-clause-one_of_three : goal.returns-clause-one_of_three
returns-clause-one_of_three c = λ b. record { input = refl; state = refl; position = refl; past = refl; steps = refl }

pub returns-clause-all : goal.returns-clause-all
returns-clause-all c = λ b. record { input = refl; state = refl; position = refl; past = refl; steps = refl }
