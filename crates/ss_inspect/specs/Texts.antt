-- Texts that several answers are made of.
use Rattle.std.specs.Prelude.{ℕ, ℤ, List, [], ◌∷◌, ◌++◌, codes, if◌then◌else◌, nat_eq, slice_index_or}
use Rattle.std.specs.Fmt.{signed_decimal}
use Rattle.ss_debug.specs.Entities.{lines_below}

-- the texts number 0 to n - 1, in order
abbrev pub texts_below : (ℕ → List ℕ) → ℕ → List ℕ
texts_below text n = lines_below text n

-- n lines, or another text if there are none
abbrev pub lines_or : List ℕ → (ℕ → List ℕ) → ℕ → List ℕ
lines_or otherwise line n = if nat_eq n 0 then otherwise else lines_below line n

-- the name with this number in a table
abbrev pub name_at : List (List ℕ) → ℕ → List ℕ
name_at names i = slice_index_or names i []

-- a name and its value
abbrev pub named_value : List ℕ → ℤ → List ℕ
named_value name x = name ++ codes " = " ++ signed_decimal x

-- that there is nothing of this kind and this name
abbrev pub no_such_text : List ℕ → List ℕ → List ℕ
no_such_text kind name = codes "NO " ++ kind ++ codes " " ++ name ++ 10 ∷ []
