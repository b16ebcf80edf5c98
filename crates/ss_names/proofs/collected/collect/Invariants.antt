use Rattle.std.proofs.Common.{◌≡◌, [], map, length}
use Rattle.ss_words.specs.Plain.{plain_at}
use Rattle.ss_names.specs.Collected.{collection}
use Rattle.ss_names.specs.Here.{at_start}
use Rattle.ss_names.proofs.collected.collect.Given as goal

abbrev pub invariant-loop-rest : goal.invariant-loop-rest
invariant-loop-rest l =
    collection l.wanted l.found l.here l.class (map plain_at l.rest)
    ≡ collection l.wanted [] at_start [] (map plain_at l.words)

abbrev pub decreases-loop-rest : goal.decreases-loop-rest
decreases-loop-rest l = length l.rest
