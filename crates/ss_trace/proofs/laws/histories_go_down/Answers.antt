use Rattle.ss_trace.proofs.HistoryLaws.{goes_down}
use Rattle.ss_trace.proofs.laws.histories_go_down.Goals as goal

pub returns : goal.returns
returns c = goes_down
