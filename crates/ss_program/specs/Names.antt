-- The clock's name.
use Rattle.std.specs.Prelude.{ℕ, Bool, List, codes, bytes_eq}

-- TIME.V
abbrev pub is_clock : List ℕ → Bool
is_clock name = bytes_eq name (codes "TIME.V")
