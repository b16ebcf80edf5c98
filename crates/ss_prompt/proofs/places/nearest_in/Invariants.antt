use Rattle.std.proofs.Common.{◌≡◌, drop, map, fold}
use Rattle.ss_prompt.specs.Places.{nearer_line}
use Rattle.ss_prompt.proofs.places.nearest_in.Given as goal

-- the lines that are left bring the nearest so far to that of all
abbrev pub invariant-loop-spot : goal.invariant-loop-spot
invariant-loop-spot l =
    fold (nearer_line l.from) l.best (map (λ spot. spot.line) (drop l.spot-index l.places))
    ≡ fold (nearer_line l.from) l.fn.nearest (map (λ spot. spot.line) l.places)
