use Rattle.std.proofs.Common.{◌≡◌, map, length}
use Rattle.ss_words.specs.Plain.{plain_at}
use Rattle.ss_names.specs.Pictures.{value_count}
use Rattle.ss_names.proofs.pictures.value_count.Given as goal

abbrev pub invariant-loop-rest : goal.invariant-loop-rest
invariant-loop-rest l = value_count (map plain_at l.rest) ≡ value_count (map plain_at l.words)

abbrev pub decreases-loop-rest : goal.decreases-loop-rest
decreases-loop-rest l = length l.rest
