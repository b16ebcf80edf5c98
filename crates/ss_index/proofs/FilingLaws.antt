-- Laws of filing: facts of a list as facts of the parts around one of its seats.
use Rattle.std.proofs.Common.{◌≡◌, ℕ, ◌++◌, true, false, if◌then◌else◌, ◌==◌, ◌||◌, ◌&&◌, Bool, List, [], ◌∷◌}
use Rattle.std.proofs.Common.{Some, None, unwrap_or, refl, arith, ◌≤◌}
use Rattle.std.proofs.lemmas.Bool.Decides.{nat_tests}
use Rattle.std.specs.List.{list_all}
use Rattle.ss_links.specs.Seats.{has, times_in, last_of, put_at, list_without as without}
use Rattle.ss_links.proofs.SeatLaws.{without-absent, once-head, once-tail, has-last_of}
use Rattle.ss_index.specs.Filing.{seats_passed, rest, seats_filed, is_at}

pub last_of-middle : (l : List ℕ) (y : ℕ) (r : List ℕ) → last_of (l ++ y ∷ r) ≡ Some (unwrap_or (last_of r) y)
last_of-middle [] y r = refl
last_of-middle (z ∷ l) y r = grind (arith, last_of-middle l y r)

pub has-middle : (l : List ℕ) (y : ℕ) (r : List ℕ) (x : ℕ) → has (l ++ y ∷ r) x ≡ (has l x || ((y == x) || has r x))
has-middle [] y r x = refl
has-middle (z ∷ l) y r x = grind (arith, nat_tests, has-middle l y r x)

pub without-middle : (l : List ℕ) (y : ℕ) (r : List ℕ) (x : ℕ)
    → without (l ++ y ∷ r) x ≡ without l x ++ (if y == x then without r x else y ∷ without r x)
without-middle [] y r x = refl
without-middle (z ∷ l) y r x = grind (arith, nat_tests, without-middle l y r x)

pub list_all-middle : (p : ℕ → Bool) (l : List ℕ) (y : ℕ) (r : List ℕ)
    → list_all p (l ++ y ∷ r) ≡ (list_all p l && (p y && list_all p r))
list_all-middle p [] y r = refl
list_all-middle p (z ∷ l) y r = grind (arith, nat_tests, list_all-middle p l y r)

-- a seat that is after the place ends the passed seats
pub seats_passed-behind : (p : ℕ → Bool) (l : List ℕ) (y : ℕ) (r : List ℕ) → p y ≡ true
    → seats_passed p (l ++ y ∷ r) ≡ seats_passed p l
seats_passed-behind p [] y r h = grind (arith, nat_tests)
seats_passed-behind p (z ∷ l) y r h = grind (arith, nat_tests, seats_passed-behind p l y r)

pub rest-behind : (p : ℕ → Bool) (l : List ℕ) (y : ℕ) (r : List ℕ) → p y ≡ true
    → rest p (l ++ y ∷ r) ≡ rest p l ++ y ∷ r
rest-behind p [] y r h = grind (arith, nat_tests)
rest-behind p (z ∷ l) y r h = grind (arith, nat_tests, rest-behind p l y r)

-- in a divided list no seat in front of one that is not after the place is after the place
pub seats_passed-front : (p : ℕ → Bool) (l : List ℕ) (y : ℕ) (r : List ℕ) → p y ≡ false
    → list_all p (rest p (l ++ y ∷ r)) ≡ true → seats_passed p (l ++ y ∷ r) ≡ l ++ y ∷ seats_passed p r
seats_passed-front p [] y r h d = grind (arith, nat_tests)
seats_passed-front p (z ∷ l) y r h d = grind (arith, nat_tests, seats_passed-front p l y r, list_all-middle p l y r)

pub rest-front : (p : ℕ → Bool) (l : List ℕ) (y : ℕ) (r : List ℕ) → p y ≡ false
    → list_all p (rest p (l ++ y ∷ r)) ≡ true → rest p (l ++ y ∷ r) ≡ rest p r
rest-front p [] y r h d = grind (arith, nat_tests)
rest-front p (z ∷ l) y r h d = grind (arith, nat_tests, rest-front p l y r, list_all-middle p l y r)

-- a seat at its place, and another: the side of the other gives the side of it that has the seat
pub is_at-behind : (p : ℕ → Bool) (x : ℕ) (l : List ℕ) (y : ℕ) (r : List ℕ) → p y ≡ true → (y == x) ≡ false
    → is_at p x (l ++ y ∷ r) ≡ true → is_at p x l ≡ true
is_at-behind p x [] y r h e a = absurd (grind (arith, nat_tests))
is_at-behind p x (z ∷ l) y r h e a =
    grind (arith, nat_tests, is_at-behind p x l y r, list_all-middle p l y r, has-middle l y r x)

pub has-rest_of_is_at : (p : ℕ → Bool) (x : ℕ) (l : List ℕ) (y : ℕ) (r : List ℕ) → p y ≡ true → (y == x) ≡ false
    → is_at p x (l ++ y ∷ r) ≡ true → has r x ≡ false
has-rest_of_is_at p x [] y r h e a = absurd (grind (arith, nat_tests))
has-rest_of_is_at p x (z ∷ l) y r h e a =
    grind (arith, nat_tests, has-rest_of_is_at p x l y r, list_all-middle p l y r, has-middle l y r x)

pub is_at-front : (p : ℕ → Bool) (x : ℕ) (l : List ℕ) (y : ℕ) (r : List ℕ) → p y ≡ false → (y == x) ≡ false
    → is_at p x (l ++ y ∷ r) ≡ true → is_at p x r ≡ true
is_at-front p x [] y r h e a = grind (arith, nat_tests)
is_at-front p x (z ∷ l) y r h e a =
    grind (arith, nat_tests, is_at-front p x l y r, list_all-middle p l y r, has-middle l y r x)

pub has-front_of_is_at : (p : ℕ → Bool) (x : ℕ) (l : List ℕ) (y : ℕ) (r : List ℕ) → p y ≡ false → (y == x) ≡ false
    → is_at p x (l ++ y ∷ r) ≡ true → has l x ≡ false
has-front_of_is_at p x [] y r h e a = refl
has-front_of_is_at p x (z ∷ l) y r h e a =
    grind (arith, nat_tests, has-front_of_is_at p x l y r, list_all-middle p l y r, has-middle l y r x)

-- the seat itself: it is on neither side
pub has-left_of_is_at : (p : ℕ → Bool) (x : ℕ) (l r : List ℕ) → is_at p x (l ++ x ∷ r) ≡ true → has l x ≡ false
has-left_of_is_at p x [] r a = refl
has-left_of_is_at p x (z ∷ l) r a =
    grind (arith, nat_tests, has-left_of_is_at p x l r, has-middle l x r x)

pub has-right_of_is_at : (p : ℕ → Bool) (x : ℕ) (l r : List ℕ) → is_at p x (l ++ x ∷ r) ≡ true → has r x ≡ false
has-right_of_is_at p x [] r a = grind (arith, nat_tests)
has-right_of_is_at p x (z ∷ l) r a =
    grind (arith, nat_tests, has-right_of_is_at p x l r, has-middle l x r x)

-- a seat filed in a divided list that does not have it is at its place
pub is_at-seats_filed : (p : ℕ → Bool) (x : ℕ) (l : List ℕ) → has l x ≡ false → list_all p (rest p l) ≡ true
    → is_at p x (seats_filed p x l) ≡ true
is_at-seats_filed p x [] h d = grind (arith, nat_tests)
is_at-seats_filed p x (z ∷ l) h d = grind (arith, nat_tests, is_at-seats_filed p x l)

-- a seat filed and taken out leaves the list as it was
pub without-seats_filed : (p : ℕ → Bool) (x : ℕ) (l : List ℕ) → has l x ≡ false → without (seats_filed p x l) x ≡ l
without-seats_filed p x [] h = grind (arith, nat_tests)
without-seats_filed p x (y ∷ l) h = grind (arith, nat_tests, without-seats_filed p x l, without-absent l x)

-- a passed seat is in the list
pub has-seats_passed : (p : ℕ → Bool) (l : List ℕ) (y : ℕ) → has (seats_passed p l) y ≡ true → has l y ≡ true
has-seats_passed p [] y h = absurd (cc)
has-seats_passed p (z ∷ l) y h = grind (arith, nat_tests, has-seats_passed p l y)

-- filed after the last one passed, or first: at a list's first seat, from the seats passed after it
put_at-none : (p : ℕ → Bool) (x y : ℕ) (l : List ℕ) → p y ≡ false → last_of (seats_passed p l) ≡ None
    → seats_filed p x l ≡ put_at l (last_of (seats_passed p l)) x
    → seats_filed p x (y ∷ l) ≡ put_at (y ∷ l) (last_of (seats_passed p (y ∷ l))) x
put_at-none p x y l b e h = grind (arith, nat_tests)

put_at-some : (p : ℕ → Bool) (x y q : ℕ) (l : List ℕ) → p y ≡ false → has l y ≡ false
    → last_of (seats_passed p l) ≡ Some q
    → has l q ≡ true → seats_filed p x l ≡ put_at l (last_of (seats_passed p l)) x
    → seats_filed p x (y ∷ l) ≡ put_at (y ∷ l) (last_of (seats_passed p (y ∷ l))) x
put_at-some p x y q l b a e i h = grind (arith, nat_tests)

put_at-front : (p : ℕ → Bool) (x y : ℕ) (l : List ℕ) → p y ≡ true
    → seats_filed p x (y ∷ l) ≡ put_at (y ∷ l) (last_of (seats_passed p (y ∷ l))) x
put_at-front p x y l b = grind arith

pub seats_filed-put_at : (p : ℕ → Bool) (x : ℕ) (l : List ℕ) → ((y : ℕ) → times_in l y ≤ 1)
    → seats_filed p x l ≡ put_at l (last_of (seats_passed p l)) x
seats_filed-put_at p x [] once = refl
seats_filed-put_at p x (y ∷ l) once =
    let h = seats_filed-put_at p x l (once-tail y l once) in
    elim (p y) as (λ t. p y ≡ t → seats_filed p x (y ∷ l) ≡ put_at (y ∷ l) (last_of (seats_passed p (y ∷ l))) x) [
      | true ↦ λ b. put_at-front p x y l b
      | false ↦ λ b. elim (last_of (seats_passed p l)) as (λ o. last_of (seats_passed p l) ≡ o
          → seats_filed p x (y ∷ l) ≡ put_at (y ∷ l) (last_of (seats_passed p (y ∷ l))) x) [
            | None ↦ λ e. put_at-none p x y l b e h
            | Some q ↦ λ e. put_at-some p x y q l b (once-head y l once) e
                (has-seats_passed p l q (has-last_of (seats_passed p l) q e)) h
          ] refl
    ] refl
