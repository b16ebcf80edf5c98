use Rattle.ss_adapter.proofs.Least.{least}
use Rattle.ss_adapter.proofs.laws.nearest_change_is_least.Goals as goal

pub returns : goal.returns
returns c = least
