use Rattle.std.proofs.Common.{◌≡◌, false, length}
use Rattle.ss_routines.specs.View.{spots}
use Rattle.ss_check.specs.Increments.{places_refusal}
use Rattle.ss_check.proofs.rules.breach.check_places.Given as goal

-- the places so far break no rule
abbrev pub invariant-loop-spot : goal.invariant-loop-spot
invariant-loop-spot l =
    places_refusal l.whole l.in_main l.behind_find (spots l.rest)
    ≡ places_refusal l.whole l.in_main false (spots l.places)

abbrev pub decreases-loop-spot : goal.decreases-loop-spot
decreases-loop-spot l = length l.rest
