use Rattle.ss_events.proofs.LimitLaws.{last-given}
use Rattle.ss_events.proofs.laws.last_filing_number_is_given.Goals as goal

pub returns : goal.returns
returns c = last-given
