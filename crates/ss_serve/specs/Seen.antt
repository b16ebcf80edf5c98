-- The view of a channel before and after a call.
use Rattle.std.specs.Prelude.{ℕ, List, Option}
use Rattle.ss_console.specs.Event.{Event}

-- the view of a channel before and after a call
pub record Seen : Type 0 where
  -- the bytes that were left to read, if they are shown
  pub before : Option (List ℕ)
  -- the bytes that are left after the call
  pub after : Option (List ℕ)
  -- the events before the call, if they are shown
  pub old : Option (List Event)
  -- the events up to the end of the call
  pub new : Option (List Event)

-- the view from its four parts
abbrev pub seen_of : Option (List ℕ) → Option (List ℕ) → Option (List Event) → Option (List Event) → Seen
seen_of before after old new = record { before = before; after = after; old = old; new = new }
