use Rattle.std.proofs.Common.{◌≡◌, ◌+◌, length, reverse}
use Rattle.ss_program.specs.Match.{bare_phrases}
use Rattle.ss_program.proofs.ways.phrases_backward.Given as goal

-- the phrases passed, and those at the end of the rest, are all
abbrev pub invariant-loop-rest : goal.invariant-loop-rest
invariant-loop-rest l = record {
  left : length l.rest + l.count ≡ length l.spots;
  phrases : l.count + bare_phrases (reverse l.rest) ≡ bare_phrases (reverse l.spots);
}

abbrev pub decreases-loop-rest : goal.decreases-loop-rest
decreases-loop-rest l = length l.rest
