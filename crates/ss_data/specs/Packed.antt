-- Adjacent pieces in one list of bytes, separated by the end of each one.
use Rattle.std.specs.Prelude.{◌≡◌, ℕ, ◌≤◌, List, [], ◌∷◌, slice_range}

-- the pieces from `start` on, each up to its end
abbrev pub pieces_by_ends : ℕ → List ℕ → List ℕ → List (List ℕ)
pieces_by_ends start [] bytes = []
pieces_by_ends start (end ∷ ends) bytes = slice_range bytes start end ∷ pieces_by_ends end ends bytes

-- no piece ends before it starts, and the last one ends at the end of the bytes
abbrev pub AreEnds : ℕ → List ℕ → ℕ → Type 0
AreEnds start [] size = start ≡ size
AreEnds start (end ∷ ends) size = (start ≤ end) × AreEnds end ends size
