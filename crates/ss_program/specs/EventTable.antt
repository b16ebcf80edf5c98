-- The parts of an event class other than its name and attributes.
use Rattle.std.specs.Prelude.{ℕ, List, Bool}
use Rattle.ss_program.specs.declared.keys.Key.{Key}

-- the further parts of an event class
pub record EventTable : Type 0 where
  -- the number of its section
  pub section : ℕ
  -- the keys that break the ties of its notices, the first of which counts most
  pub ties : List Key
  -- whether EXTERNAL EVENTS names it
  pub external : Bool
