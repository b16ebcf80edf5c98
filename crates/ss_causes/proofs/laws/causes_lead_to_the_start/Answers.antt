use Rattle.ss_causes.proofs.CauseLaws.{goes_back, ends, started}
use Rattle.ss_causes.proofs.laws.causes_lead_to_the_start.Goals as goal

pub returns-clause-back : goal.returns-clause-back
returns-clause-back c = goes_back

pub returns-clause-ends : goal.returns-clause-ends
returns-clause-ends c = ends

pub returns-clause-start : goal.returns-clause-start
returns-clause-start c = started
