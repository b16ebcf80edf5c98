-- The note of a change, and how a change is taken back.
use Rattle.std.specs.Prelude.{ℕ, ℤ, Bool, Option, ◌<◌, ◌≤◌, List, [], ◌∷◌, length, take, drop, slice_set}
use Rattle.ss_state.specs.declared.entry.Entry as entries
use Rattle.ss_state.specs.declared.status.Status as statuses
use Rattle.ss_data.specs.Items.{with_taken}
use Rattle.ss_store.specs.declared.change.StoreChange.{StoreChange}
use Rattle.ss_store.specs.Change.{unapply_store, FitsStore}
use Rattle.ss_events.specs.declared.agenda.AgendaChange.{AgendaChange}
use Rattle.ss_events.specs.Changes as notices
use Rattle.ss_state.specs.Held.{Held, store_of, agenda_of, with_state, with_store, with_agenda}
use Rattle.ss_state.specs.Loops.{OpenLoop, loops_with_candidate}
use Rattle.ss_state.specs.declared.limits.TheConstants.{MOST_BELOW}
use Rattle.ss_state.specs.State.{State, FrameState}
use Rattle.ss_state.specs.State as states

-- the note of a change, enough to take it back: the old value of a global variable or of a local
-- of the last frame, by its number; the old place of the last frame; the old clock; the note of a
-- change of the store or of the event list; how many items were taken; the old length of the
-- report; the old entry; the old status; that a loop was opened; the old candidate of the
-- innermost loop; the loop that was closed; that a frame was opened; the frame that was dropped;
-- the old answer of FIND; the old statistics of COMPUTE
pub data Change : Type 0 where
  Variable Local : ℕ → ℤ → Change
  Place : ℕ → Change
  Clock : ℤ → Change
  Store : StoreChange → Change
  Agenda : AgendaChange → Change
  Taken Report : ℕ → Change
  Entry : entries.Entry → Change
  Status : statuses.Status → Change
  LoopOpened : Change
  LoopMoved : Option ℤ → Change
  LoopClosed : OpenLoop → Change
  FrameOpened : Change
  FrameDropped : FrameState → Change
  Found : Bool → Change
  Statistics : states.Statistics → Change

-- the state in which the nearest frame below is the last one
abbrev pub state_of_caller : List FrameState → State → State
state_of_caller [] state = state
state_of_caller (f ∷ fs) state = record state { frame = f; below = fs }

-- the parts with another last frame
abbrev pub with_frame : Held → FrameState → Held
with_frame held frame = with_state held (record held.state { frame = frame })

-- the parts of a run before a change
abbrev pub unapply : Change → Held → Held
unapply (Variable number old) held =
    with_state held (record held.state { variables = slice_set held.state.variables number old })
unapply (Local number old) held =
    with_frame held (record held.state.frame { locals = slice_set held.state.frame.locals number old })
unapply (Place old) held = with_frame held (record held.state.frame { place = old })
unapply (Clock old) held = with_state held (record held.state { clock = old })
unapply (Store change) held = with_store held (unapply_store change (store_of held))
unapply (Agenda change) held = with_agenda held (notices.unapply change (agenda_of held))
unapply (Taken old) held = with_state held (record held.state { feed = with_taken held.state.feed old })
unapply (Report old_len) held = with_state held (record held.state { report = take old_len held.state.report })
unapply (Entry old) held = with_state held (record held.state { entry = old })
unapply (Status old) held = with_state held (record held.state { status = old })
unapply LoopOpened held = with_frame held (record held.state.frame { loops = drop 1 held.state.frame.loops })
unapply (LoopMoved old) held =
    with_frame held (record held.state.frame { loops = loops_with_candidate old held.state.frame.loops })
unapply (LoopClosed closed) held = with_frame held (record held.state.frame { loops = closed ∷ held.state.frame.loops })
unapply FrameOpened held = with_state held (state_of_caller held.state.below held.state)
unapply (FrameDropped dropped) held =
    with_state held (record held.state { frame = dropped; below = held.state.frame ∷ held.state.below })
unapply (Found old) held = with_frame held (record held.state.frame { found = old })
unapply (Statistics old) held = with_frame held (record held.state.frame { statistics = old })

-- the changed or opened part exists, no old length or number is above the present one, and there
-- is room for a frame that the change dropped
abbrev pub Fits : Change → Held → Type 0
Fits (Variable number old) held = number < length held.state.variables
Fits (Local number old) held = number < length held.state.frame.locals
Fits (Place old) held = Unit {0}
Fits (Clock old) held = Unit {0}
Fits (Store change) held = FitsStore change (store_of held)
Fits (Agenda change) held = notices.Fits change (agenda_of held)
Fits (Taken old) held = old ≤ held.state.feed.taken
Fits (Report old_len) held = old_len ≤ length held.state.report
Fits (Entry old) held = Unit {0}
Fits (Status old) held = Unit {0}
Fits LoopOpened held = 0 < length held.state.frame.loops
Fits (LoopMoved old) held = 0 < length held.state.frame.loops
Fits (LoopClosed closed) held = Unit {0}
Fits FrameOpened held = 0 < length held.state.below
Fits (FrameDropped dropped) held = length held.state.below < MOST_BELOW
Fits (Found old) held = Unit {0}
Fits (Statistics old) held = Unit {0}
