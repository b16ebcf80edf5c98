use Rattle.ss_routines.proofs.Examples.{open_phrases_are_told}
use Rattle.ss_routines.proofs.laws.open_phrases_are_told.Goals as goal

pub returns : goal.returns
returns c = open_phrases_are_told
