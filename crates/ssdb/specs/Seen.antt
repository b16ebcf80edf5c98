-- The states of a console that are seen before and after a call.
use Rattle.std.specs.Prelude.{ℕ, Bool, List, Option}
use Rattle.ss_console.specs.Event.{Event}

-- the terminal, the lines and the events of a console before and after a call
pub record Seen : Type 0 where
  -- whether it is a terminal
  pub terminal : Bool
  -- the lines that were left to read, if they are known
  pub before : Option (List (List ℕ))
  -- those that are left
  pub after : Option (List (List ℕ))
  -- the events before the call, if they are known
  pub old : Option (List Event)
  -- the events until after the call
  pub new : Option (List Event)

-- the same record from its parts
abbrev pub seen_of : Bool → Option (List (List ℕ)) → Option (List (List ℕ)) → Option (List Event) →
    Option (List Event) → Seen
seen_of terminal before after old new =
    record { terminal = terminal; before = before; after = after; old = old; new = new }
