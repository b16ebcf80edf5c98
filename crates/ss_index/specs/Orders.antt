-- Lists of seats that increase by an order of seats.
use Rattle.std.specs.Prelude.{◌≡◌, ℕ, Bool, true, false, ◌&&◌, ◌==◌, List, [], ◌∷◌}
use Rattle.std.specs.List.{list_all}

-- one of any two seats comes before the other, and not the other before the one
pub record IsOrder (lt : ℕ → ℕ → Bool) : Type 0 where
  -- never each before the other
  pub asymmetric : (x y : ℕ) → lt x y ≡ true → lt y x ≡ false
  -- a seat before another is before all seats that the other one is before
  pub transitive : (x y z : ℕ) → lt x y ≡ true → lt y z ≡ true → lt x z ≡ true
  -- one of two different seats is before the other
  pub total : (x y : ℕ) → (x == y) ≡ false → lt x y ≡ false → lt y x ≡ true

-- whether each seat comes before all later ones
abbrev pub increases : (ℕ → ℕ → Bool) → List ℕ → Bool
increases lt [] = true
increases lt (y ∷ ys) = list_all (lt y) ys && increases lt ys
