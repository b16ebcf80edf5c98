use Rattle.ss_preamble.specs.Laws.{words_spelled}
use Rattle.ss_preamble.proofs.Programs.{word_behind_end}
use Rattle.ss_preamble.proofs.laws.no_item_stands_behind_end.Goals as goal

pub returns : goal.returns
returns c = λ spells. word_behind_end (words_spelled spells)
