use Rattle.std.proofs.Common.{◌≡◌, ◌++◌, map, length}
use Rattle.ss_words.specs.Plain.{plain_at}
use Rattle.ss_names.specs.Here.{at_start}
use Rattle.ss_names.specs.Keys.{keys_with}
use Rattle.ss_names.proofs.keys.keys_with.Given as goal

abbrev pub invariant-loop-rest : goal.invariant-loop-rest
invariant-loop-rest l =
    l.names ++ keys_with l.declarations l.counted l.section l.here (map plain_at l.rest)
    ≡ keys_with l.declarations l.counted 0 at_start (map plain_at l.words)

abbrev pub decreases-loop-rest : goal.decreases-loop-rest
decreases-loop-rest l = length l.rest
