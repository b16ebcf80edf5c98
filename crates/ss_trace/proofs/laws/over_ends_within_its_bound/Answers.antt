use Rattle.ss_trace.proofs.Ends.{over_ends}
use Rattle.ss_trace.proofs.laws.over_ends_within_its_bound.Goals as goal

pub returns : goal.returns
returns c = over_ends
