use Rattle.std.proofs.Common.{◌≡◌, None, length}
use Rattle.ss_sentences.specs.Hints.{last_line}
use Rattle.ss_sentences.proofs.hints.last_line.Given as goal

abbrev pub invariant-loop-rest : goal.invariant-loop-rest
invariant-loop-rest l = last_line l.last l.rest ≡ last_line None l.lines

abbrev pub decreases-loop-rest : goal.decreases-loop-rest
decreases-loop-rest l = length l.rest
