-- A place that is pushed, and a local DEFINE.
use Rattle.std.proofs.Common.{◌≡◌, List, [], ◌∷◌, ◌++◌, map}
use Rattle.std.proofs.lemmas.List.{map_push}
use Rattle.ss_routines.specs.declared.tree.place.Spot.{Spot as CodeSpot}
use Rattle.ss_routines.specs.declared.tree.section.LocalNames.{LocalNames as CodeLocalNames}
use Rattle.ss_routines.specs.View.{spot_view, spots, local_view}

pub pushed : (xs ys : List CodeSpot) (s : CodeSpot) → ys ≡ xs ++ s ∷ [] → spots ys ≡ spots xs ++ spot_view s ∷ []
pushed xs ys s e = rw e (map_push spot_view xs s)

pub pushed_local : (xs ys : List CodeLocalNames) (d : CodeLocalNames) → ys ≡ xs ++ d ∷ []
    → map local_view ys ≡ map local_view xs ++ local_view d ∷ []
pushed_local xs ys d e = rw e (map_push local_view xs d)
