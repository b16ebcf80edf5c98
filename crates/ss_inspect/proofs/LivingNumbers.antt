-- Which numbers are listed as those of living entities.
use Rattle.std.proofs.Common.{◌≡◌, ℕ, zero, suc, ◌<◌, ◌≤◌, ◌==◌, Bool, true, false, cond, ◌||◌, [], ◌∷◌}
use Rattle.std.proofs.Common.{refl, sym, ◌∙◌, arith}
use Rattle.std.specs.Prelude.{nat_lt}
use Rattle.std.proofs.lemmas.Bool.Decides.{nat_tests}
use borrow.Author.Tests.{ltb-true}
use Rattle.ss_links.specs.Seats.{has}
use Rattle.ss_links.proofs.SeatLaws.{has-append}
use Rattle.ss_debug.specs.Entities.{lines_below}
use Rattle.ss_store.specs.Store.{Store, exists, greatest_number}
use Rattle.ss_inspect.specs.Living.{living_at, living_numbers}
use Rattle.ss_inspect.proofs.Numbers.{none_there}

-- the number at a place is listed if and only if its entity exists
own : (k : ℕ) (b : Bool) → has (cond b (k ∷ []) []) k ≡ b
own k true = let same : (k == k) ≡ true = grind (arith, nat_tests) in rw same refl
own k false = refl

other : (j k : ℕ) (b : Bool) → (j == k) ≡ false → has (cond b (j ∷ []) []) k ≡ false
other j k true h = rw h refl
other j k false h = refl

past : (st : Store) (c n k : ℕ) → n < k → has (lines_below (living_at st c) n) k ≡ false
past st c zero k h = refl
past st c (suc n) k h =
    let not_this : (suc n == k) ≡ false = grind (arith, nat_tests, h) in
    rw (
      has-append (lines_below (living_at st c) n) (living_at st c n) k,
      past st c n k (omega (arith, h)),
      other (suc n) k (exists st c (suc n)) not_this,
    ) refl

or_false : (b : Bool) → (b || false) ≡ b
or_false true = refl
or_false false = refl

step : (st : Store) (c n k : ℕ) → (k ≤ n → has (lines_below (living_at st c) n) k ≡ exists st c k) → k ≤ suc n →
    (b : Bool) → nat_lt k (suc n) ≡ b → has (lines_below (living_at st c) (suc n)) k ≡ exists st c k
step st c n k below h true e =
    let less : k < suc n = ltb-true k (suc n) e in
    let not_this : (suc n == k) ≡ false = grind (arith, nat_tests, less) in
    rw (
      has-append (lines_below (living_at st c) n) (living_at st c n) k,
      other (suc n) k (exists st c (suc n)) not_this,
      or_false (has (lines_below (living_at st c) n) k),
    )
    (below (omega (arith, less)))
step st c n k below h false e =
    let this : k ≡ suc n = grind (arith, nat_tests, h, e) in
    rw (
      this,
      has-append (lines_below (living_at st c) n) (living_at st c n) (suc n),
      past st c n (suc n) (omega arith),
      own (suc n) (exists st c (suc n)),
    ) refl

within : (st : Store) (c n k : ℕ) → k ≤ n → has (lines_below (living_at st c) n) k ≡ exists st c k
within st c zero zero h = refl
within st c zero (suc k) h = absurd (omega arith)
within st c (suc n) k h = step st c n k (λ w. within st c n k w) h (nat_lt k (suc n)) refl

not_past : (st : Store) (c k : ℕ) → greatest_number st c < k → exists st c k ≡ false
not_past st c zero h = refl
not_past st c (suc i) h = none_there st c i (omega (arith, h))

-- the numbers that are listed are those of the entities that exist
pub living_exist : (st : Store) (c k : ℕ) → has (living_numbers st c) k ≡ exists st c k
living_exist st c k = split (nat_lt (greatest_number st c) k) refl
  where
    split : (b : Bool) → nat_lt (greatest_number st c) k ≡ b → has (living_numbers st c) k ≡ exists st c k
    split true e =
        let more : greatest_number st c < k = ltb-true (greatest_number st c) k e in
        past st c (greatest_number st c) k more ∙ sym (not_past st c k more)
    split false e =
        let few : k ≤ greatest_number st c = grind (arith, nat_tests, e) in within st c (greatest_number st c) k few
