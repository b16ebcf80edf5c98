use Rattle.ss_events.proofs.LimitLaws.{none-behind}
use Rattle.ss_events.proofs.laws.no_filing_number_behind_the_last.Goals as goal

pub returns : goal.returns
returns c = none-behind
