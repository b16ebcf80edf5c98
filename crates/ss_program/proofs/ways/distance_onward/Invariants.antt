use Rattle.std.proofs.Common.{◌≡◌, ◌+◌, ◌≤◌, drop}
use Rattle.ss_program.specs.Match.{distance}
use Rattle.ss_program.specs.Pairings.{is_wanted, goes_deeper, comes_back}
use Rattle.ss_program.proofs.ways.distance_onward.Given as goal

-- the places passed, and the distance from there on, are the whole distance
abbrev pub invariant-loop-spot : goal.invariant-loop-spot
invariant-loop-spot l = record {
  count : l.count ≡ l.spot-index;
  depth : l.depth ≤ l.spot-index;
  distance : l.count + distance (is_wanted l.pairing) (goes_deeper l.pairing) (comes_back l.pairing) l.depth
      (drop l.spot-index l.spots)
      ≡ distance (is_wanted l.pairing) (goes_deeper l.pairing) (comes_back l.pairing) 0 l.spots;
}
