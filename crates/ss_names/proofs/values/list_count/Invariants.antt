use Rattle.std.proofs.Common.{◌≡◌, map, length}
use Rattle.ss_words.specs.Plain.{plain_at}
use Rattle.ss_names.specs.Values.{list_count}
use Rattle.ss_names.proofs.values.list_count.Given as goal

abbrev pub invariant-loop-rest : goal.invariant-loop-rest
invariant-loop-rest l = list_count l.depth l.count (map plain_at l.rest) ≡ list_count 0 1 (map plain_at l.words)

abbrev pub decreases-loop-rest : goal.decreases-loop-rest
decreases-loop-rest l = length l.rest
