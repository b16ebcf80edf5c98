use Rattle.ss_trace.proofs.Aims.{ends_at_first}
use Rattle.ss_trace.proofs.laws.go_first_ends_at_the_first.Goals as goal

pub returns : goal.returns
returns c = ends_at_first
