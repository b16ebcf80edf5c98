-- Private: a table of distinct names, and a map from its names to their places.
use Rattle.std.specs.Prelude.{◌≡◌, ℕ, List, [], ◌∷◌, ◌++◌, Option, position, bytes_eq, if◌then◌else◌}
use Rattle.std.specs.List.{list_any}
use Rattle.std.specs.Global.{Vec}
use Rattle.std.specs.BTreeMap.{BTreeMap, get_by}
use Rattle.std.specs.Cmp.Lexicographic.{slice_cmp}
use Rattle.std.specs.Ordering.{nat_cmp}

-- a table with a name put at its end, unless the table has it already
abbrev pub with_name : List (List ℕ) → List ℕ → List (List ℕ)
with_name table n = if list_any (bytes_eq n) table then table else table ++ n ∷ []

-- the number in a map's entry of a name, if it has one
abbrev pub entry_of : BTreeMap (Vec ℕ) ℕ → List ℕ → Option ℕ
entry_of m n = get_by (λ k. slice_cmp nat_cmp n k.items) m

-- a map gives the place of each name in a table, if the name is in the table
unfoldable pub IsIndex : List (List ℕ) → BTreeMap (Vec ℕ) ℕ → Type 0
IsIndex table m = (n : List ℕ) → entry_of m n ≡ position (bytes_eq n) table
