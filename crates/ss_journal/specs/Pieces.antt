-- how the stores of a journal show its steps; only views cite this
use Rattle.std.specs.Prelude.{ℕ, ◌+◌, List, [], ◌∷◌, take, drop, Bool, true, false, nat_lt}

-- a list cut into pieces of these lengths
abbrev pub cut_by_lengths : {C : Type 0} → List ℕ → List C → List (List C)
cut_by_lengths [] cs = []
cut_by_lengths (k ∷ ks) cs = take k cs ∷ cut_by_lengths ks (drop k cs)

-- sizes of steps, the newest first; how many more there is room for; and how many changes the steps may have together
pub record SizeList : Type 0 where
  -- the sizes
  pub sizes : List ℕ
  -- how many more there is room for
  pub closes : ℕ
  -- how many changes the steps may have
  pub most : ℕ

-- the size that a byte gives, if it is below 255, or else 255 and the first of the long ones (each
-- such byte has one, so the last case never occurs)
abbrev pub size_by : Bool → ℕ → List ℕ → ℕ
size_by true byte longs = byte
size_by false byte (long ∷ longs) = 255 + long
size_by false byte [] = byte

-- the long ones after those that a byte has
abbrev pub longs_behind : Bool → List ℕ → List ℕ
longs_behind true longs = longs
longs_behind false longs = drop 1 longs

-- the sizes that bytes and long ones give
abbrev pub sizes_of : List ℕ → List ℕ → List ℕ
sizes_of [] longs = []
sizes_of (byte ∷ bytes) longs =
    size_by (nat_lt byte 255) byte longs ∷ sizes_of bytes (longs_behind (nat_lt byte 255) longs)

-- how many long ones a byte has
abbrev pub long_by : Bool → ℕ
long_by true = 0
long_by false = 1

-- how many long ones bytes have
abbrev pub long_count : List ℕ → ℕ
long_count [] = 0
long_count (byte ∷ bytes) = long_by (nat_lt byte 255) + long_count bytes
