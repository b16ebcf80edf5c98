use Rattle.ss_trace.proofs.HistoryLaws.{whole}
use Rattle.ss_trace.proofs.laws.histories_are_whole.Goals as goal

pub returns : goal.returns
returns c = whole
