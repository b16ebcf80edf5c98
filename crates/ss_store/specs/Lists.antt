-- Lists of the numbers of entities, in addition to those of ss_links' Seats.
use Rattle.std.specs.Prelude.{ℕ, zero, suc, Bool, if◌then◌else◌, List, [], ◌∷◌}

-- a list with one item changed
abbrev pub change_at : {A : Type 0} → (A → A) → List A → ℕ → List A
change_at f [] i = []
change_at f (x ∷ xs) zero = f x ∷ xs
change_at f (x ∷ xs) (suc i) = x ∷ change_at f xs i

-- x placed before the first that passes the test, or else last
abbrev pub placed_before : (ℕ → Bool) → ℕ → List ℕ → List ℕ
placed_before test x [] = x ∷ []
placed_before test x (y ∷ ys) = if test y then x ∷ y ∷ ys else y ∷ placed_before test x ys
