use Rattle.std.proofs.Common.{rules}
use Rattle.ss_preamble.specs.ItemReading.{keys}
use Rattle.ss_preamble.proofs.Unfoldings.{steps}
use Rattle.ss_preamble.proofs.key.keys.Goals as goal

pub returns-clause-exact : goal.returns-clause-exact
unfolding steps keys
returns-clause-exact c = search rules
