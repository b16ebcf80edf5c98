-- Definitions that the functions which note places unfold together.
use Rattle.std.specs.Prelude.{⊤}
use Rattle.ss_words.specs.Noting.{here}
use Rattle.ss_routines.specs.PlacesAtLines.{noting_last, noting_must}
use Rattle.ss_routines.proofs.Unfoldings.{steps}

-- one reading after another, by the next word's line
unfoldable pub at_lines : ⊤
unfolding steps here
at_lines = tt

-- the part after the last phrase of a chain
unfoldable pub last : ⊤
unfolding at_lines noting_last noting_must
last = tt
