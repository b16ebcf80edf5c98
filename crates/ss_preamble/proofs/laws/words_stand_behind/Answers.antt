use Rattle.ss_preamble.proofs.WordsBehind.{words_stand_behind}
use Rattle.ss_preamble.proofs.laws.words_stand_behind.Goals as goal

pub returns : goal.returns
returns c = words_stand_behind
