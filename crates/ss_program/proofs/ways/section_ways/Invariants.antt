use Rattle.std.proofs.Common.{◌≡◌, ◌++◌, length, drop}
use Rattle.ss_program.specs.Match.{section_ways, ways_from}
use Rattle.ss_program.proofs.ways.section_ways.Given as goal

-- the ways made, and those of the places that are left, are all
abbrev pub invariant-loop-spot : goal.invariant-loop-spot
invariant-loop-spot l = record {
  count : length l.all.items ≡ l.spot-index;
  ways : l.all.items ++ ways_from l.spots l.spot-index (drop l.spot-index l.spots) ≡ section_ways l.spots;
}
