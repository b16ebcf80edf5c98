use Rattle.ss_console.proofs.KeptLaws.{short_lines_are_kept, long_lines_are_cut, words_are_kept}
use Rattle.ss_console.proofs.laws.kept_lines_tell_enough.Goals as goal

pub returns-clause-short : goal.returns-clause-short
returns-clause-short c = short_lines_are_kept

pub returns-clause-long : goal.returns-clause-long
returns-clause-long c = long_lines_are_cut

pub returns-clause-words : goal.returns-clause-words
returns-clause-words c = words_are_kept
