-- The farthest word.
use Rattle.std.specs.Prelude.{◌≡◌, ◌≤◌, ℕ, List, ◌++◌, length, take, drop}
use Rattle.ss_words.specs.Plain.{Plain, first}

-- sp spells the trees of a grammar. Some tree's spelling agrees with the text on the words before number k, and none
-- that does agrees on word k as well; the text's end counts as a word.
pub record IsFarthest {A : Type 0} (sp : A → List Plain) (ws : List Plain) (k : ℕ) : Type 0 where
  -- there is such a word, or it is the end
  pub inside : k ≤ length ws
  -- some tree's spelling agrees on the words before it
  pub reached : (t : A) × (x : List Plain) × (sp t ≡ take k ws ++ x)
  -- none that does agrees on it as well
  pub no_further : (t : A) (x : List Plain) → sp t ≡ take k ws ++ x → first x ≡ first (drop k ws) → ⊥
