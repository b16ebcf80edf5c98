use Rattle.ss_store.proofs.Between.{other_lists_stay}
use Rattle.ss_store.proofs.laws.other_lists_stay.Goals as goal

pub returns : goal.returns
returns c = other_lists_stay
