-- The events on a channel, in order: as at a console, but the body of a message is read for a line.
use Rattle.std.specs.Prelude.{ℕ, List, [], ◌∷◌, Option, Some, None, Result, Ok, Err}
use Rattle.ss_console.specs.Event.{Event, read}
use Rattle.ss_console.specs.Entries.{entry_events}
use Rattle.ss_console.specs.declared.entry.Entry.{Entry}
use Rattle.ss_messages.specs.declared.frame.FrameFault.{FrameFault}
use Rattle.ss_messages.specs.declared.frame.FrameFault.TheVariants.{Malformed, Read, Memory}
use Rattle.ss_serve.specs.declared.channel.Side.{Side}
use Rattle.ss_serve.specs.declared.channel.Side.TheVariants.{Input, Output}

-- the events that a channel over memory shows: the whole body of each message
abbrev pub channel_events : List Entry → List Event
channel_events entries = entry_events (λ body. body) entries

-- the event of a reading
abbrev pub read_events : Option (List ℕ) → List Event
read_events None = []
read_events (Some body) = read body ∷ []

-- the side that is broken after a reading
abbrev pub broken_after_read : {T : Type 0} → Result T FrameFault → Option Side → Option Side
broken_after_read (Ok body) side = side
broken_after_read (Err Malformed) side = side
broken_after_read (Err Read) side = Some Input
broken_after_read (Err Memory) side = side

-- the side that is broken after a writing
abbrev pub broken_after_send : {T E : Type 0} → Result T E → Option Side → Option Side
broken_after_send (Ok done) side = side
broken_after_send (Err fault) side = Some Output
