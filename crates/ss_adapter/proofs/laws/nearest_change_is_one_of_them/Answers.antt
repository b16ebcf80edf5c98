use Rattle.ss_adapter.proofs.Least.{one}
use Rattle.ss_adapter.proofs.laws.nearest_change_is_one_of_them.Goals as goal

pub returns : goal.returns
returns c = one
