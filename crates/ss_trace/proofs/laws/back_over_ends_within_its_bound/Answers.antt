use Rattle.ss_trace.proofs.Ends.{back_over_ends}
use Rattle.ss_trace.proofs.laws.back_over_ends_within_its_bound.Goals as goal

pub returns : goal.returns
returns c = back_over_ends
