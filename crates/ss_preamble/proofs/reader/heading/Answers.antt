use Rattle.std.proofs.Common.{rules}
use Rattle.ss_preamble.specs.ItemReading.{heading_with}
use Rattle.ss_preamble.proofs.Unfoldings.{steps}
use Rattle.ss_preamble.proofs.reader.heading.Goals as goal

pub returns-clause-exact : goal.returns-clause-exact
unfolding steps heading_with
returns-clause-exact c = search rules
