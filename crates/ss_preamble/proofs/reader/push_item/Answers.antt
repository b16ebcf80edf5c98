use Rattle.std.proofs.Common.{arith}
use Rattle.std.proofs.lemmas.Grind.{common_steps}
use Rattle.ss_preamble.proofs.NotedItems.{pushed}
use Rattle.ss_preamble.proofs.Unfoldings.{item_at_line}
use Rattle.ss_preamble.proofs.reader.push_item.Goals as goal

pub returns-clause-exact : goal.returns-clause-exact
unfolding item_at_line
returns-clause-exact c = grind (arith, common_steps, pushed)
