-- The place at which a seat is filed in a list: in front of the first seat that is after this
-- place.
use Rattle.std.specs.Prelude.{ℕ, false, Bool, not, ◌&&◌, if◌then◌else◌, ◌==◌, List, [], ◌∷◌, ◌++◌, IsTrue}
use Rattle.std.specs.List.{list_all}
use Rattle.ss_links.specs.Seats.{has}

-- the seats up to the first one that is after the place
abbrev pub seats_passed : (ℕ → Bool) → List ℕ → List ℕ
seats_passed behind [] = []
seats_passed behind (y ∷ ys) = if behind y then [] else y ∷ seats_passed behind ys

-- the seats from the first one on that is after the place
abbrev pub rest : (ℕ → Bool) → List ℕ → List ℕ
rest behind [] = []
rest behind (y ∷ ys) = if behind y then y ∷ ys else rest behind ys

-- the list with a seat filed
abbrev pub seats_filed : (ℕ → Bool) → ℕ → List ℕ → List ℕ
seats_filed behind x l = seats_passed behind l ++ x ∷ rest behind l

-- from the first seat on that is after the place, all are
abbrev pub IsDivided : (ℕ → Bool) → List ℕ → Type 0
IsDivided behind l = IsTrue (list_all behind (rest behind l))

-- a fact of each seat of a list
abbrev pub EachSeat : (ℕ → Type 0) → List ℕ → Type 0
EachSeat P l = (y : ℕ) → IsTrue (has l y) → P y

-- whether a seat is in a list once, no seat in front of it is after the place, and all after it are
abbrev pub is_at : (ℕ → Bool) → ℕ → List ℕ → Bool
is_at behind x [] = false
is_at behind x (y ∷ ys) =
    if y == x then list_all behind ys && not (has ys x) else not (behind y) && is_at behind x ys
