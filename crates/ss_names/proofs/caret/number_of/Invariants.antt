use Rattle.std.proofs.Common.{◌≡◌, None, length, map}
use Rattle.ss_words.specs.Plain.{plain_at}
use Rattle.ss_names.specs.Carets.{number_of}
use Rattle.ss_names.specs.Here.{at_start}
use Rattle.ss_names.proofs.caret.number_of.Given as goal

abbrev pub invariant-loop-rest : goal.invariant-loop-rest
invariant-loop-rest l =
    number_of l.which l.spoken.name.now l.spoken.line l.found l.here (map plain_at l.rest)
    ≡ number_of l.which l.spoken.name.now l.spoken.line None at_start (map plain_at l.words)

abbrev pub decreases-loop-rest : goal.decreases-loop-rest
decreases-loop-rest l = length l.rest
