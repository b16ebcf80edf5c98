-- Each place of a section has its ways.
use Rattle.std.proofs.Common.{◌≡◌, ℕ, suc, ◌+◌, List, [], ◌∷◌, length, refl, ap}
use Rattle.ss_program.specs.declared.place.Spot.{Spot}
use Rattle.ss_program.specs.Match.{ways_from, section_ways}

from_length : (ps xs : List Spot) (k : ℕ) → length (ways_from ps k xs) ≡ length xs
from_length ps [] k = refl
from_length ps (x ∷ xs) k = ap suc (from_length ps xs (k + 1))

pub ways_length : (ps : List Spot) → length (section_ways ps) ≡ length ps
ways_length ps = from_length ps ps 0
