use Rattle.std.proofs.Common.{◌≡◌, ◌+◌, ◌≤◌, length, reverse}
use Rattle.ss_program.specs.Match.{distance}
use Rattle.ss_program.specs.Pairings.{is_wanted, goes_deeper, comes_back}
use Rattle.ss_program.proofs.ways.distance_backward.Given as goal

-- the places passed, and the distance from there on, are the whole distance
abbrev pub invariant-loop-rest : goal.invariant-loop-rest
invariant-loop-rest l = record {
  left : length l.rest + l.count ≡ length l.spots;
  depth : l.depth ≤ l.count;
  distance : l.count + distance (is_wanted l.pairing) (goes_deeper l.pairing) (comes_back l.pairing) l.depth
      (reverse l.rest)
      ≡ distance (is_wanted l.pairing) (goes_deeper l.pairing) (comes_back l.pairing) 0 (reverse l.spots);
}

abbrev pub decreases-loop-rest : goal.decreases-loop-rest
decreases-loop-rest l = length l.rest
