-- Pages of items.
use Rattle.std.specs.Prelude.{ℕ, suc, zero, ◌+◌, ◌-◌, min, List, [], ◌++◌, nat_eq, if◌then◌else◌}

-- the number of items of n on a page that begins at start; a page of length 0 has all that follow
abbrev pub page_size : ℕ → ℕ → ℕ → ℕ
page_size start count n = if nat_eq count 0 then n - start else min count (n - start)

-- n items from start on
unfoldable pub items_from : (ℕ → List ℕ) → ℕ → ℕ → List ℕ
items_from item start zero = []
items_from item start (suc n) = items_from item start n ++ item (start + n)

-- a page of n items
abbrev pub page : (ℕ → List ℕ) → ℕ → ℕ → ℕ → List ℕ
page item start count n = items_from item start (page_size start count n)
