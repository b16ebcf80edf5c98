-- The events that a console over memory shows.
use Rattle.std.specs.Prelude.{ℕ, List, [], ◌∷◌}
use Rattle.ss_console.specs.Event.{Event, read, wrote}
use Rattle.ss_console.specs.declared.entry.Entry.{Entry}
use Rattle.ss_console.specs.declared.entry.Entry.TheVariants.{Read, Wrote}

-- the event of one entry, by the function that gives the kept part of bytes that are read
abbrev pub event_of : (List ℕ → List ℕ) → Entry → Event
event_of kept (Read bytes) = read (kept bytes.now)
event_of kept (Wrote byte) = wrote byte

-- the events of some entries, one after the other
unfoldable pub entry_events : (List ℕ → List ℕ) → List Entry → List Event
entry_events kept [] = []
entry_events kept (entry ∷ entries) = event_of kept entry ∷ entry_events kept entries
