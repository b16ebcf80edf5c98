-- The written part of a text.
use Rattle.std.specs.Prelude.{ℕ, ◌≤◌, List, [], ◌∷◌, ◌++◌, length, take, Option}
use Rattle.ss_console.specs.Event.{Event, Adds, write_events}

-- a prefix of a text was written
pub record AddsPart (text : List ℕ) (old new : Option (List Event)) : Type 0 where
  -- how long it is
  pub count : ℕ
  -- the text is as long
  pub within : count ≤ length text
  -- the writing of its bytes comes in the log after the earlier events
  pub told : Adds old new (write_events (take count text))

-- some texts, one after the other
unfoldable pub joined_texts : List (List ℕ) → List ℕ
joined_texts [] = []
joined_texts (text ∷ texts) = text ++ joined_texts texts
