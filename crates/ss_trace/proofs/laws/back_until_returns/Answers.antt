use Rattle.ss_trace.proofs.Aims.{returns_back}
use Rattle.ss_trace.proofs.laws.back_until_returns.Goals as goal

pub returns : goal.returns
returns c = returns_back
