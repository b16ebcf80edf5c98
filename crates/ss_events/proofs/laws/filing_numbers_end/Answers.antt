use Rattle.ss_events.proofs.LimitLaws.{numbers-end}
use Rattle.ss_events.proofs.laws.filing_numbers_end.Goals as goal

pub returns : goal.returns
returns c = numbers-end
