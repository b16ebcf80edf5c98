use Rattle.ss_check.proofs.NamedItems.{tables_again}
use Rattle.ss_check.proofs.laws.tables_give_the_items.Goals as goal

pub returns : goal.returns
returns c = tables_again
