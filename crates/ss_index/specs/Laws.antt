-- Laws of lists in which seats are filed.
use Rattle.std.specs.Prelude.{◌≡◌, ℕ, ◌≤◌, Bool, false, List, IsTrue}
use Rattle.ss_links.specs.Seats.{has, times_in, last_of, put_at, list_without}
use Rattle.ss_index.specs.Filing.{seats_passed, seats_filed, IsDivided}
use Rattle.ss_index.specs.Orders.{IsOrder, increases}

-- a seat filed and taken out leaves the list as it was
abbrev pub FiledSeatLeaves : Type 0
FiledSeatLeaves = (behind : ℕ → Bool) (x : ℕ) (l : List ℕ) → has l x ≡ false
    → list_without (seats_filed behind x l) x ≡ l

-- a seat is filed directly after the last one passed, or first
abbrev pub FiledSeatIsLinked : Type 0
FiledSeatIsLinked = (behind : ℕ → Bool) (x : ℕ) (l : List ℕ) → ((y : ℕ) → times_in l y ≤ 1)
    → seats_filed behind x l ≡ put_at l (last_of (seats_passed behind l)) x

-- a list that increases is divided at the place of each seat
abbrev pub IncreasingListIsDivided : Type 0
IncreasingListIsDivided = (lt : ℕ → ℕ → Bool) → IsOrder lt → (x : ℕ) (l : List ℕ) → IsTrue (increases lt l)
    → IsDivided (lt x) l

-- a list that increases does so with one more seat filed, and with one taken out
abbrev pub FiledListIncreases : Type 0
FiledListIncreases = (lt : ℕ → ℕ → Bool) → IsOrder lt → (x : ℕ) (l : List ℕ) → IsTrue (increases lt l)
    → (has l x ≡ false → IsTrue (increases lt (seats_filed (lt x) x l))) × IsTrue (increases lt (list_without l x))

-- in a list that increases, each seat is at its place of filing among the others
abbrev pub IncreasingListIsFiled : Type 0
IncreasingListIsFiled = (lt : ℕ → ℕ → Bool) → IsOrder lt → (x : ℕ) (l : List ℕ) → IsTrue (increases lt l)
    → IsTrue (has l x) → l ≡ seats_filed (lt x) x (list_without l x)
