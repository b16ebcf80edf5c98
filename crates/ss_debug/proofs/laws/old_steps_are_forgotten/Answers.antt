use Rattle.std.proofs.Common.{refl}
use Rattle.std.specs.Fmt.{digits}
use Rattle.ss_debug.specs.Answer.{kept_text}
use Rattle.ss_debug.specs.Turn.{debugger_state_after, answer}
use Rattle.ss_debug.proofs.laws.old_steps_are_forgotten.Goals as goal

pub returns-clause-one : goal.returns-clause-one
unfolding digits kept_text debugger_state_after answer
returns-clause-one c = λ t. (refl, refl)

pub returns-clause-all : goal.returns-clause-all
unfolding digits kept_text debugger_state_after answer
returns-clause-all c = λ t. (refl, refl)

pub returns-clause-more : goal.returns-clause-more
unfolding digits kept_text debugger_state_after answer
returns-clause-more c = λ t. (refl, refl)

pub returns-clause-start : goal.returns-clause-start
unfolding digits kept_text debugger_state_after answer
returns-clause-start c = λ t. (refl, refl)

pub returns-clause-again : goal.returns-clause-again
unfolding digits kept_text debugger_state_after answer
returns-clause-again c = λ t. (refl, refl)
