use Rattle.std.proofs.Common.{◌≡◌, map, length}
use Rattle.ss_words.specs.Plain.{plain_at}
use Rattle.ss_names.specs.Here.{defines_sets}
use Rattle.ss_names.proofs.here.defines_sets.Given as goal

abbrev pub invariant-loop-rest : goal.invariant-loop-rest
invariant-loop-rest l = defines_sets (map plain_at l.rest) ≡ defines_sets (map plain_at l.words)

abbrev pub decreases-loop-rest : goal.decreases-loop-rest
decreases-loop-rest l = length l.rest
