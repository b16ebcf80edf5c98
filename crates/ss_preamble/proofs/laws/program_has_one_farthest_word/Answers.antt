use Rattle.ss_preamble.specs.Laws.{words_spelled}
use Rattle.ss_preamble.proofs.Programs.{farthest_of_program}
use Rattle.ss_preamble.proofs.laws.program_has_one_farthest_word.Goals as goal

pub returns : goal.returns
returns c = λ spells. farthest_of_program (words_spelled spells)
