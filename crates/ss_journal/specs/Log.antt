-- the contents of a journal
use Rattle.std.specs.Prelude.{ℕ, List, length, map, sum, take}

-- the closed steps, the newest first, each with its newest change first; the open step, likewise; the rooms for notes
-- and for closes
pub record Log (C : Type 0) : Type 0 where
  -- the closed steps
  pub steps : List (List C)
  -- the changes of the open step
  pub current : List C
  -- how many more changes there is room for
  pub notes : ℕ
  -- how many more steps there is room for
  pub closes : ℕ

-- the newest n steps, or all if there are fewer
abbrev pub newest : {C : Type 0} → ℕ → List (List C) → List (List C)
newest n steps = take n steps

-- how many changes the steps have
abbrev pub change_count : {C : Type 0} → List (List C) → ℕ
change_count steps = sum (map length steps)
