use Rattle.std.proofs.Common.{◌≡◌, map, length}
use Rattle.ss_words.specs.Plain.{plain_at}
use Rattle.ss_names.specs.Pictures.{first_picture}
use Rattle.ss_names.proofs.pictures.first_picture.Given as goal

abbrev pub invariant-loop-rest : goal.invariant-loop-rest
invariant-loop-rest l = first_picture (map plain_at l.rest) ≡ first_picture (map plain_at l.words)

abbrev pub decreases-loop-rest : goal.decreases-loop-rest
decreases-loop-rest l = length l.rest
