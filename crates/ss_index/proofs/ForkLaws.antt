-- Facts of a fork's seats d, and so of those of its sides, l and r, around its own, y.
use Rattle.std.proofs.Common.{◌≡◌, ℕ, ◌++◌, true, false, ◌==◌, Bool, List, ◌∷◌}
use Rattle.std.proofs.Common.{arith, ◌<◌, length, length-append}
use Rattle.std.proofs.lemmas.Bool.Decides.{nat_tests}
use Rattle.ss_links.specs.Seats.{list_without as without}
use Rattle.ss_links.proofs.SeatLaws.{without-absent}
use Rattle.ss_index.specs.Filing.{rest, IsDivided, EachSeat, is_at}
use Rattle.ss_index.proofs.FilingLaws.{has-middle, without-middle, list_all-middle, rest-behind, rest-front}
use Rattle.ss_index.proofs.FilingLaws.{has-rest_of_is_at, has-front_of_is_at}
use Rattle.ss_index.proofs.FilingLaws.{has-left_of_is_at, has-right_of_is_at}

pub known-here : {P : ℕ → Type 0} {d : List ℕ} (l : List ℕ) (y : ℕ) (r : List ℕ) → d ≡ l ++ y ∷ r → EachSeat P d → P y
known-here l y r e known = known y (rw (e, has-middle l y r y) (grind (arith, nat_tests)))

pub known-left : {P : ℕ → Type 0} {d : List ℕ} (l : List ℕ) (y : ℕ) (r : List ℕ) → d ≡ l ++ y ∷ r → EachSeat P d
    → EachSeat P l
known-left l y r e known z h = known z (rw (e, has-middle l y r z) (grind (arith, nat_tests)))

pub known-right : {P : ℕ → Type 0} {d : List ℕ} (l : List ℕ) (y : ℕ) (r : List ℕ) → d ≡ l ++ y ∷ r → EachSeat P d
    → EachSeat P r
known-right l y r e known z h = known z (rw (e, has-middle l y r z) (grind (arith, nat_tests)))

pub divided-left : (p : ℕ → Bool) (d l : List ℕ) (y : ℕ) (r : List ℕ) → d ≡ l ++ y ∷ r → p y ≡ true → IsDivided p d
    → IsDivided p l
divided-left p d l y r e b divided =
    grind (arith, nat_tests, rest-behind p l y r b, list_all-middle p (rest p l) y r)

pub divided-right : (p : ℕ → Bool) (d l : List ℕ) (y : ℕ) (r : List ℕ) → d ≡ l ++ y ∷ r → p y ≡ false → IsDivided p d
    → IsDivided p r
divided-right p d l y r e b divided = grind (arith, nat_tests, rest-front p l y r b)

-- a side has fewer seats
pub fewer-left : {d : List ℕ} (l : List ℕ) (y : ℕ) (r : List ℕ) → d ≡ l ++ y ∷ r → length l < length d
fewer-left l y r e = rw e (omega (arith, length-append l (y ∷ r)))

pub fewer-right : {d : List ℕ} (l : List ℕ) (y : ℕ) (r : List ℕ) → d ≡ l ++ y ∷ r → length r < length d
fewer-right l y r e = rw e (omega (arith, length-append l (y ∷ r)))

pub apart : (y x : ℕ) → (y ≡ x → ⊥) → (y == x) ≡ false
apart y x n = grind (arith, nat_tests)

-- of the seats without one seat, x
pub others-here : {P : ℕ → Type 0} {d : List ℕ} (x : ℕ) (l : List ℕ) (y : ℕ) (r : List ℕ) → d ≡ l ++ y ∷ r
    → (y == x) ≡ false → EachSeat P (without d x) → P y
others-here x l y r e n known =
    known y (rw (e, without-middle l y r x, n, has-middle (without l x) y (without r x) y) (grind (arith, nat_tests)))

pub others-left : {P : ℕ → Type 0} {d : List ℕ} (x : ℕ) (l : List ℕ) (y : ℕ) (r : List ℕ) → d ≡ l ++ y ∷ r
    → (y == x) ≡ false → EachSeat P (without d x) → EachSeat P (without l x)
others-left x l y r e n known z h =
    known z (rw (e, without-middle l y r x, n, has-middle (without l x) y (without r x) z) (grind (arith, nat_tests)))

pub others-right : {P : ℕ → Type 0} {d : List ℕ} (x : ℕ) (l : List ℕ) (y : ℕ) (r : List ℕ) → d ≡ l ++ y ∷ r
    → (y == x) ≡ false → EachSeat P (without d x) → EachSeat P (without r x)
others-right x l y r e n known z h =
    known z (rw (e, without-middle l y r x, n, has-middle (without l x) y (without r x) z) (grind (arith, nat_tests)))

-- of a seat that is at its place
pub without-left : (p : ℕ → Bool) (d : List ℕ) (x : ℕ) (l : List ℕ) (y : ℕ) (r : List ℕ) → d ≡ l ++ y ∷ r
    → (y == x) ≡ false → p y ≡ true → is_at p x d ≡ true → without d x ≡ without l x ++ y ∷ r
without-left p d x l y r e n b at =
    let free = has-rest_of_is_at p x l y r b n (rw (← e) at) in
    rw (e, without-middle l y r x, n, without-absent r x free)

pub without-right : (p : ℕ → Bool) (d : List ℕ) (x : ℕ) (l : List ℕ) (y : ℕ) (r : List ℕ) → d ≡ l ++ y ∷ r
    → (y == x) ≡ false → p y ≡ false → is_at p x d ≡ true → without d x ≡ l ++ y ∷ without r x
without-right p d x l y r e n b at =
    let free = has-front_of_is_at p x l y r b n (rw (← e) at) in
    rw (e, without-middle l y r x, n, without-absent l x free)

pub without-here : (p : ℕ → Bool) (d : List ℕ) (x : ℕ) (l : List ℕ) (y : ℕ) (r : List ℕ) → d ≡ l ++ y ∷ r → y ≡ x
    → is_at p x d ≡ true → without d x ≡ l ++ r
without-here p d x l y r e same at =
    let at_x : is_at p x (l ++ x ∷ r) ≡ true = cc in
    let left = without-absent l x (has-left_of_is_at p x l r at_x) in
    let right = without-absent r x (has-right_of_is_at p x l r at_x) in
    let whole = without-middle l x r x in
    let whole-e : without d x ≡ without (l ++ x ∷ r) x = cc in
    grind (arith, nat_tests)
