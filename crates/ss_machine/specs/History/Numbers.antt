-- Private: numbers, written in bytes of seven bits each.
use Rattle.std.specs.Prelude.{ℕ, ◌+◌, ◌-◌, ◌*◌, ◌/◌, ◌^◌, min, ◌<◌, List, [], ◌∷◌, ◌≡◌, All, nat_lt, if◌then◌else◌}

-- the numbers with a lowest group added to the first one; if there is none, the group is the first
abbrev pub with_group : ℕ → List ℕ → List ℕ
with_group group [] = group ∷ []
with_group group (higher ∷ others) = (group + 128 * higher) ∷ others

-- the numbers with a byte more: below 128 it is a number, else 128 and a lowest group
abbrev pub with_byte : ℕ → List ℕ → List ℕ
with_byte byte numbers = if nat_lt byte 128 then byte ∷ numbers else with_group (byte - 128) numbers

-- the numbers of bytes, the newest first
abbrev pub numbers_of : List ℕ → List ℕ
numbers_of [] = []
numbers_of (byte ∷ bytes) = with_byte byte (numbers_of bytes)

-- the numbers have 64 bits
abbrev pub AreSmall : List ℕ → Type 0
AreSmall bytes = All (λ n. n < 2 ^ 64) (numbers_of bytes)

-- for how many numbers n bytes give room, or as many as can be asked for, if n is greater
abbrev pub number_room : ℕ → ℕ
number_room bytes = min bytes (2 ^ 64 - 1) / 10

-- the first number was taken off, or 0 if there is none
abbrev pub IsHigher : ℕ → List ℕ → List ℕ → Type 0
IsHigher number [] left = (number ≡ 0) × (left ≡ [])
IsHigher number (first ∷ others) left = (number ≡ first) × (left ≡ others)
