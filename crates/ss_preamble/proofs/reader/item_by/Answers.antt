use Rattle.std.proofs.Common.{rules}
use Rattle.ss_preamble.proofs.Unfoldings.{steps_by_word}
use Rattle.ss_preamble.proofs.reader.item_by.Goals as goal

pub returns-clause-exact : goal.returns-clause-exact
unfolding steps_by_word
returns-clause-exact c = search rules
