-- The item that is taken next.
use Rattle.std.proofs.Common.{◌≡◌, ℕ, ℤ, List, map, refl, Some, Ok}
use Rattle.std.specs.List.{slice_get}
use Rattle.std.proofs.lemmas.Option.{slice_get-map}
use Rattle.ss_data.specs.Numbers.{number}
use Rattle.ss_data.specs.Items.{DataRead, item, next_value}

-- the number of the piece that is next
pub next_value-at : (pieces : List (List ℕ)) (taken : ℕ) (d : DataRead) (piece : List ℕ) (z : ℤ)
    → record { items = map item pieces; taken = taken } ≡ d → slice_get pieces taken ≡ Some piece
    → number piece ≡ Some z → next_value d ≡ Ok z
next_value-at pieces taken d piece z view next value =
    rw (← view, slice_get-map item pieces taken, next, value) refl
