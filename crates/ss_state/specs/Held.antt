-- The parts of a run: its state, and the parts that only undoing uses. A reader of a public clause
-- may skip the parts for undoing: `known` of a machine makes `past_of` the states of its run from
-- the earliest kept one to the last one before this, whatever the parts for undoing are.
use Rattle.std.specs.Prelude.{ℕ, List}
use Rattle.ss_store.specs.Tables.{Tables}
use Rattle.ss_store.specs.Value.{Layout, StoreValue}
use Rattle.ss_events.specs.Rules.{Rule}
use Rattle.ss_events.specs.State.{AgendaState}
use Rattle.ss_state.specs.State.{State}

-- the parts of a run that only undoing uses
pub record Beside : Type 0 where
  -- the store's tables
  pub tables : Tables
  -- the layout that the store keeps
  pub kept : Layout
  -- the rules of the classes for notices
  pub rules : List Rule
  -- the notice of each seat
  pub notices : List ℕ

-- the parts of a run
pub record Held : Type 0 where
  -- the state
  pub state : State
  -- the parts that only undoing uses
  pub beside : Beside

-- ---- private: the store and the agenda among the parts

-- the store's value
abbrev pub store_of : Held → StoreValue
store_of held = record { tables = held.beside.tables; state = held.state.store; kept = held.beside.kept }

-- the agenda's value
abbrev pub agenda_of : Held → AgendaState
agenda_of held = record { rules = held.beside.rules; agenda = held.state.agenda; notices = held.beside.notices }

-- the parts with another state
abbrev pub with_state : Held → State → Held
with_state held state = record held { state = state }

-- the parts with another store
abbrev pub with_store : Held → StoreValue → Held
with_store held store = record {
  state = record held.state { store = store.state };
  beside = record held.beside { tables = store.tables; kept = store.kept };
}

-- the parts with another agenda
abbrev pub with_agenda : Held → AgendaState → Held
with_agenda held v = record {
  state = record held.state { agenda = v.agenda };
  beside = record held.beside { rules = v.rules; notices = v.notices };
}
