use Rattle.ss_faults.proofs.Faulting.{faulting}
use Rattle.ss_faults.proofs.laws.what_is_missing_faults.Goals as goal

pub returns : goal.returns
returns c = faulting
