-- Laws of lists that increase by an order of seats.
use Rattle.std.proofs.Common.{◌≡◌, ℕ, true, false, Bool, List, [], ◌∷◌}
use Rattle.std.proofs.Common.{refl, arith}
use Rattle.std.proofs.lemmas.Bool.Decides.{nat_tests}
use Rattle.std.specs.List.{list_all}
use Rattle.ss_links.specs.Seats.{has, list_without as without}
use Rattle.ss_links.proofs.SeatLaws.{without-absent}
use Rattle.ss_index.specs.Filing.{rest, seats_filed}
use Rattle.ss_index.specs.Orders.{IsOrder, increases}

-- a seat before another is before all seats that the other one is before
pub list_all-before : (lt : ℕ → ℕ → Bool) → IsOrder lt → (x y : ℕ) (l : List ℕ) → lt x y ≡ true
    → list_all (lt y) l ≡ true → list_all (lt x) l ≡ true
list_all-before lt o x y [] h a = refl
list_all-before lt o x y (z ∷ l) h a = grind (arith, o.transitive x y z, list_all-before lt o x y l)

pub divided-increases : (lt : ℕ → ℕ → Bool) → IsOrder lt → (x : ℕ) (l : List ℕ) → increases lt l ≡ true
    → list_all (lt x) (rest (lt x) l) ≡ true
divided-increases lt o x [] i = refl
divided-increases lt o x (y ∷ l) i =
    grind (arith, nat_tests, divided-increases lt o x l, list_all-before lt o x y l)

pub list_all-has : (p : ℕ → Bool) (x : ℕ) (l : List ℕ) → list_all p l ≡ true → has l x ≡ true → p x ≡ true
list_all-has p x [] a h = absurd (cc)
list_all-has p x (y ∷ l) a h = grind (arith, nat_tests, list_all-has p x l)

pub list_all-seats_filed : (p q : ℕ → Bool) (x : ℕ) (l : List ℕ) → list_all p l ≡ true → p x ≡ true
    → list_all p (seats_filed q x l) ≡ true
list_all-seats_filed p q x [] a h = grind arith
list_all-seats_filed p q x (y ∷ l) a h = grind (arith, list_all-seats_filed p q x l)

pub list_all-without : (p : ℕ → Bool) (x : ℕ) (l : List ℕ) → list_all p l ≡ true → list_all p (without l x) ≡ true
list_all-without p x [] a = refl
list_all-without p x (y ∷ l) a = grind (arith, nat_tests, list_all-without p x l)

pub increases-seats_filed : (lt : ℕ → ℕ → Bool) → IsOrder lt → (x : ℕ) (l : List ℕ) → increases lt l ≡ true
    → has l x ≡ false → increases lt (seats_filed (lt x) x l) ≡ true
increases-seats_filed lt o x [] i h = refl
increases-seats_filed lt o x (y ∷ l) i h = grind (
  arith,
  nat_tests,
  increases-seats_filed lt o x l,
  list_all-before lt o x y l,
  list_all-seats_filed (lt y) (lt x) x l,
  o.total x y,
)

pub increases-without : (lt : ℕ → ℕ → Bool) (x : ℕ) (l : List ℕ) → increases lt l ≡ true
    → increases lt (without l x) ≡ true
increases-without lt x [] i = refl
increases-without lt x (y ∷ l) i = grind (arith, nat_tests, increases-without lt x l, list_all-without (lt y) x l)

-- in front of seats that are all after its place, a seat is filed first
pub seats_filed-first : (p : ℕ → Bool) (x : ℕ) (l : List ℕ) → list_all p l ≡ true → seats_filed p x l ≡ x ∷ l
seats_filed-first p x [] a = refl
seats_filed-first p x (y ∷ l) a = grind arith

pub absent-behind : (lt : ℕ → ℕ → Bool) → IsOrder lt → (x : ℕ) (l : List ℕ) → list_all (lt x) l ≡ true → has l x ≡ false
absent-behind lt o x [] a = refl
absent-behind lt o x (y ∷ l) a = grind (arith, nat_tests, absent-behind lt o x l, o.asymmetric x x)

pub seats_filed-without : (lt : ℕ → ℕ → Bool) → IsOrder lt → (x : ℕ) (l : List ℕ) → increases lt l ≡ true
    → has l x ≡ true → l ≡ seats_filed (lt x) x (without l x)
seats_filed-without lt o x [] i h = absurd (cc)
seats_filed-without lt o x (y ∷ l) i h = grind (
  arith,
  nat_tests,
  seats_filed-without lt o x l,
  absent-behind lt o x l,
  without-absent l x,
  seats_filed-first (lt x) x l,
  list_all-has (lt y) x l,
  o.asymmetric y x,
)
