-- numbers that are written in bytes
use Rattle.std.proofs.Common.{◌≡◌, ℕ, ◌+◌, ◌-◌, ◌*◌, ◌/◌, ◌%◌, ◌^◌, ◌<◌, ◌≤◌, List, [], ◌∷◌, length, refl, ap, ◌∙◌}
use Rattle.std.proofs.Common.{arith, zero, suc, Bool, true, false, nat_lt, All}
use Rattle.std.proofs.Math.Nat.{pow-suc, pow-le-pow_right}
use Rattle.std.proofs.lemmas.List.Elements.{All-nil, All-cons, All-head, All-tail, All-same}
use Rattle.std.proofs.lemmas.Bool.{lt-ltb, le-ltb}
use Rattle.std.specs.Prelude.{if◌then◌else◌, MatchBool}
use Rattle.ss_machine.specs.History.Numbers.{with_group, numbers_of, AreSmall, IsHigher}

some_group : (group : ℕ) (numbers : List ℕ) → with_group group numbers ≡ [] → ⊥
some_group group [] none = omega (arith, ap length none)
some_group group (higher ∷ others) none = omega (arith, ap length none)

some_by : (small : Bool) (byte : ℕ) (numbers : List ℕ) →
    (if small then byte ∷ numbers else with_group (byte - 128) numbers) ≡ [] → ⊥
some_by true byte numbers none = omega (arith, ap length none)
some_by false byte numbers none = some_group _ numbers none

-- bytes without numbers are none
pub no_bytes : (bytes : List ℕ) → numbers_of bytes ≡ [] → bytes ≡ []
no_bytes [] none = refl
no_bytes (byte ∷ bytes) none = absurd (some_by (nat_lt byte 128) byte (numbers_of bytes) none)

-- a small number is its byte
pub small_byte : (byte : ℕ) (bytes : List ℕ) → byte < 128 → numbers_of (byte ∷ bytes) ≡ byte ∷ numbers_of bytes
small_byte byte bytes h = rw (lt-ltb byte 128 h) refl

-- another byte is the lowest group of the first number
pub great_byte : (byte : ℕ) (bytes : List ℕ) → 128 ≤ byte →
    numbers_of (byte ∷ bytes) ≡ with_group (byte - 128) (numbers_of bytes)
great_byte byte bytes h = rw (le-ltb byte 128 h) refl

-- which is written last
pub written : (number : ℕ) (bytes others : List ℕ) → numbers_of bytes ≡ number / 128 ∷ others →
    numbers_of ((128 + number % 128) ∷ bytes) ≡ number ∷ others
written number bytes others is =
    great_byte (128 + number % 128) bytes (omega arith) ∙ ap (with_group (128 + number % 128 - 128)) is
    ∙ ap (λ (n : ℕ). n ∷ others) (omega arith)

-- with the bytes above its lowest group written, there is room for that group, and the number has taken no more bytes
-- than it has groups
pub group_room : (number n had left : ℕ) → 128 ≤ number → number < 128 ^ n →
    ((k : ℕ) → 0 < k → number / 128 < 128 ^ k → had ≤ left + k) → had < left + n
group_room number zero had left great small uses = absurd (omega (arith, great, small))
group_room number (suc zero) had left great small uses = absurd (omega (arith, great, small))
group_room number (suc (suc k)) had left great small uses =
    let split : 128 ^ suc (suc k) ≡ 128 ^ suc k * 128 = pow-suc 128 (suc k) in
    omega (arith, uses (suc k) (omega arith) (omega (arith, split, small)))

-- ten bytes are enough
pub ten_bytes : (number n : ℕ) → number < 2 ^ 64 → 10 ≤ n → number < 128 ^ n
ten_bytes number n small enough =
    let most : 2 ^ 64 ≤ 128 ^ 10 = omega arith in
    omega (arith, small, most, pow-le-pow_right {n = 128} (omega arith) {i = 10} {j = n} enough)

small_behind : (group : ℕ) (numbers : List ℕ) → All (λ n. n < 2 ^ 64) (with_group group numbers) →
    All (λ n. n < 2 ^ 64) numbers
small_behind group [] small = All-nil (λ n. n < 2 ^ 64)
small_behind group (higher ∷ others) small =
    let first : group + 128 * higher < 2 ^ 64 = All-head (λ n. n < 2 ^ 64) (group + 128 * higher) others small in
    All-cons (λ n. n < 2 ^ 64) higher others (omega (arith, first))
    (All-tail (λ n. n < 2 ^ 64) (group + 128 * higher) others small)

-- the part of a number of 64 bits above its lowest group
pub small_rest : (byte : ℕ) (bytes : List ℕ) → 128 ≤ byte → All (λ n. n < 2 ^ 64) (numbers_of (byte ∷ bytes)) →
    All (λ n. n < 2 ^ 64) (numbers_of bytes)
small_rest byte bytes great small = small_behind (byte - 128) (numbers_of bytes) (rw great_byte at small)

-- the numbers left after a number of one byte
pub small_behind_byte : (byte : ℕ) (bytes : List ℕ) → byte < 128 →
    All (λ n. n < 2 ^ 64) (numbers_of (byte ∷ bytes)) → All (λ n. n < 2 ^ 64) (numbers_of bytes)
small_behind_byte byte bytes h small =
    let all : All (λ n. n < 2 ^ 64) (byte ∷ numbers_of bytes) = rw (small_byte byte bytes h) at small in
    All-tail (λ n. n < 2 ^ 64) byte (numbers_of bytes) all

-- the small numbers that are left when the newest is taken off
pub small_left : (taken : ℕ) (had left : List ℕ) → IsHigher taken had left →
    All (λ n. n < 2 ^ 64) had → All (λ n. n < 2 ^ 64) left
small_left taken [] left is small = All-same (λ n. n < 2 ^ 64) left [] is.1 (All-nil (λ n. n < 2 ^ 64))
small_left taken (first ∷ others) left is small =
    All-same (λ n. n < 2 ^ 64) left others is.1 (All-tail (λ n. n < 2 ^ 64) first others small)

-- and when a step is opened again
pub small_steps : (again : Bool) (had left : List (List ℕ)) (current : List ℕ) →
    MatchBool again (had ≡ current ∷ left) ((had ≡ []) × (left ≡ []) × (current ≡ [])) →
    All AreSmall had → AreSmall current × All AreSmall left
small_steps true had left current are small =
    let all : All AreSmall (current ∷ left) = rw are at small in
    (All-head AreSmall current left all, All-tail AreSmall current left all)
small_steps false had left current are small =
    (rw are.2 (All-nil (λ n. n < 2 ^ 64)), rw are.1 (All-nil AreSmall))
