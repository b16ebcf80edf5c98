use Rattle.ss_store.proofs.Between.{filed_between}
use Rattle.ss_store.proofs.laws.filed_between.Goals as goal

pub returns : goal.returns
returns c = filed_between
