use Rattle.ss_trace.proofs.HistoryLaws.{only}
use Rattle.ss_trace.proofs.laws.histories_are_true.Goals as goal

pub returns : goal.returns
returns c = only
