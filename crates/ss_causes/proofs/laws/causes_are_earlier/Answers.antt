use Rattle.ss_causes.proofs.CauseLaws.{earlier, pending}
use Rattle.ss_causes.proofs.laws.causes_are_earlier.Goals as goal

pub returns-clause-earlier : goal.returns-clause-earlier
returns-clause-earlier c = earlier

pub returns-clause-pending : goal.returns-clause-pending
returns-clause-pending c = pending
