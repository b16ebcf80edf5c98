-- The range of a value of the language: 64 bits with a sign.
use Rattle.std.specs.Prelude.{◌^◌, ℤ, pos, negsuc, Bool, nat_lt}

-- from -(2^63) to 2^63 - 1
abbrev pub in_range : ℤ → Bool
in_range (pos n) = nat_lt n (2 ^ 63)
in_range (negsuc n) = nat_lt n (2 ^ 63)
