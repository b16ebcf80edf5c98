use Rattle.std.proofs.Common.{◌≡◌, ◌++◌, map, length}
use Rattle.ss_words.specs.Plain.{plain_at}
use Rattle.ss_names.specs.Here.{at_start}
use Rattle.ss_names.specs.Warnings.{once_text}
use Rattle.ss_names.proofs.once.push_once.Given as goal

abbrev pub invariant-loop-rest : goal.invariant-loop-rest
invariant-loop-rest l =
    l.text.items ++ once_text l.names l.here (map plain_at l.rest)
    ≡ l.fn.text.items ++ once_text l.names at_start (map plain_at l.words)

abbrev pub decreases-loop-rest : goal.decreases-loop-rest
decreases-loop-rest l = length l.rest
