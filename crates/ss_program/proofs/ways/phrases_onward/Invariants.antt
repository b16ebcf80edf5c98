use Rattle.std.proofs.Common.{◌≡◌, ◌+◌, drop}
use Rattle.ss_program.specs.Match.{bare_phrases}
use Rattle.ss_program.proofs.ways.phrases_onward.Given as goal

-- the phrases passed, and those at the head of the rest, are all
abbrev pub invariant-loop-spot : goal.invariant-loop-spot
invariant-loop-spot l = record {
  count : l.count ≡ l.spot-index;
  phrases : l.count + bare_phrases (drop l.spot-index l.spots) ≡ bare_phrases l.spots;
}
