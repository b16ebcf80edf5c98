-- Parts of a text, by UTF-16 code units.
use Rattle.std.specs.Prelude.{ℕ, ◌+◌, ◌-◌, List, [], ◌∷◌, nat_le, nat_lt, if◌then◌else◌}

-- how many UTF-16 code units a byte of a text in UTF-8 begins
abbrev pub units_of : ℕ → ℕ
units_of b = if nat_lt b 128 then 1 else if nat_lt b 192 then 0 else if nat_lt b 240 then 1 else 2

-- the first part of a text, as far as it is within n UTF-16 code units
abbrev pub within_units : ℕ → List ℕ → List ℕ
within_units n [] = []
within_units n (b ∷ bs) = if nat_le (units_of b) n then b ∷ within_units (n - units_of b) bs else []

-- how many UTF-16 code units a text has
abbrev pub count_units : List ℕ → ℕ
count_units [] = 0
count_units (b ∷ bs) = units_of b + count_units bs
