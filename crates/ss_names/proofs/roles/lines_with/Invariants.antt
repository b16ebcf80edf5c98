use Rattle.std.proofs.Common.{◌≡◌, ◌++◌, map, length}
use Rattle.ss_words.specs.Plain.{plain_at}
use Rattle.ss_names.specs.Here.{at_start}
use Rattle.ss_names.specs.Roles.{lines_with}
use Rattle.ss_names.proofs.roles.lines_with.Given as goal

abbrev pub invariant-loop-rest : goal.invariant-loop-rest
invariant-loop-rest l =
    l.lines.items ++ lines_with l.role l.told l.here (map plain_at l.rest)
    ≡ lines_with l.role l.told at_start (map plain_at l.words)

abbrev pub decreases-loop-rest : goal.decreases-loop-rest
decreases-loop-rest l = length l.rest
