use Rattle.std.proofs.Common.{◌≡◌, map, length}
use Rattle.ss_words.specs.Plain.{plain_at}
use Rattle.ss_names.specs.Unused.{first_line}
use Rattle.ss_names.proofs.unused.first_line.Given as goal

abbrev pub invariant-loop-rest : goal.invariant-loop-rest
invariant-loop-rest l = first_line l.told (map plain_at l.rest) ≡ first_line l.told (map plain_at l.words)

abbrev pub decreases-loop-rest : goal.decreases-loop-rest
decreases-loop-rest l = length l.rest
