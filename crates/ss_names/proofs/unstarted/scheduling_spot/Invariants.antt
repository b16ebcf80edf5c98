use Rattle.std.proofs.Common.{◌≡◌, length}
use Rattle.ss_names.specs.Unstarted.{scheduling_spot}
use Rattle.ss_names.proofs.unstarted.scheduling_spot.Given as goal

abbrev pub invariant-loop-spots : goal.invariant-loop-spots
invariant-loop-spots l = scheduling_spot l.spots ≡ scheduling_spot l.initial.spots

abbrev pub decreases-loop-spots : goal.decreases-loop-spots
decreases-loop-spots l = length l.spots
