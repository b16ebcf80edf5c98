use Rattle.ss_inspect.proofs.LivingNumbers.{living_exist}
use Rattle.ss_inspect.proofs.laws.the_living_are_those_that_exist.Goals as goal

pub returns : goal.returns
returns c = living_exist
