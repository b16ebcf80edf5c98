use Rattle.ss_routines.proofs.Examples.{loop_ends_the_chain}
use Rattle.ss_routines.proofs.laws.loop_ends_the_chain.Goals as goal

pub returns : goal.returns
returns c = loop_ends_the_chain
