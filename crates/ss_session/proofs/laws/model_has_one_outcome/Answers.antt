use Rattle.ss_session.proofs.Outcomes.{some_outcome, one_outcome}
use Rattle.ss_session.proofs.laws.model_has_one_outcome.Goals as goal

pub returns-clause-exists : goal.returns-clause-exists
returns-clause-exists c = some_outcome

pub returns-clause-unique : goal.returns-clause-unique
returns-clause-unique c = one_outcome
