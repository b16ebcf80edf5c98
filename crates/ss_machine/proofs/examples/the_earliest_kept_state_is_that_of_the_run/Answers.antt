use Rattle.std.proofs.Common.{refl, rules}
use Rattle.ss_machine.proofs.examples.the_earliest_kept_state_is_that_of_the_run.Goals as goal

pub returns-clause-past : goal.returns-clause-past
returns-clause-past c = λ b. refl

pub returns-clause-back : goal.returns-clause-back
returns-clause-back c = λ b. record {
  input = refl;
  past = refl;
  position = refl;
  forgotten = refl;
  ready = refl;
  steps = (_, refl);
}

pub returns-clause-earliest : goal.returns-clause-earliest
returns-clause-earliest c = λ b. refl

pub returns-clause-position : goal.returns-clause-position
returns-clause-position c = λ b. refl

pub returns-clause-no_further : goal.returns-clause-no_further
returns-clause-no_further c = λ b. (refl, refl)

pub returns-clause-again : goal.returns-clause-again
returns-clause-again c = λ b. record {
  ready = refl;
  before_last = search rules;
  input = refl;
  state = refl;
  position = refl;
  forgotten = refl;
  past = refl;
  steps = (_, refl, search rules);
}
