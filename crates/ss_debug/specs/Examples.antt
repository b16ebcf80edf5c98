-- Command lines, small programs and states of examples, and the texts that they give.
use Rattle.std.specs.Prelude.{ℕ, ℤ, ◌≡◌, pos, neg_ℤ, false, List, [], ◌∷◌, map, codes, Option, Some, None}
use Rattle.ss_program.specs.declared.kinds.ClassKind.TheVariants.{Event, Permanent, Temporary}
use Rattle.ss_program.specs.declared.kinds.Discipline.TheVariants.{Fifo}
use Rattle.ss_program.specs.declared.kinds.Owner.TheVariants.{System, OwnedBy}
use Rattle.ss_program.specs.Program.{ClassTable, ProgramTable}
use Rattle.ss_store.specs.Store.{Entity, Store}
use Rattle.ss_events.specs.Agenda.{Pending, Agenda, empty_agenda}
use Rattle.ss_state.specs.declared.entry.Entry.TheVariants.{Absent}
use Rattle.ss_state.specs.declared.status.Status.TheVariants.{Ready}
use Rattle.ss_state.specs.State.{State, no_statistics}
use Rattle.ss_debug.specs.declared.commands.Command.{Command}
use Rattle.ss_state.specs.Run.{Input}
use Rattle.ss_debug.specs.Answer.{movement_text}
use Rattle.ss_debug.specs.Command.{command_of}
use Rattle.ss_debug.specs.Turn.{DebuggerState, debugger_state_after, answer}
use Rattle.ss_debug.specs.Entities.{class_named, set_named, class_text, named_list_text}

-- each of these lines says this command
abbrev pub EachSays : Command → List (List ℕ) → Type 0
EachSays command lines = map command_of lines ≡ map (λ _. command) lines

-- ---- steps that are forgotten

-- the debugger at a position, with nothing kept before the earliest one
abbrev pub debugger_at : ℕ → ℕ → DebuggerState
debugger_at earliest p = record { position = p; earliest = earliest; breaks = [] }

-- FORGET leads to this state and gives this text, whatever the run is
abbrev pub Keeps : DebuggerState → Command → DebuggerState → List ℕ → Type 0
Keeps old command new text =
    (t : Input) → (debugger_state_after t old command ≡ new) × (answer t old command ≡ text)

-- a movement leads to this state and gives this word, whatever the run is
abbrev pub Moves : DebuggerState → Command → DebuggerState → List ℕ → Type 0
Moves old command new word =
    (t : Input) → (debugger_state_after t old command ≡ new)
    × (answer t old command ≡ movement_text word t new.position)

-- ---- events

-- an event class without attributes
abbrev pub event_class : List ℕ → ℕ → ClassTable
event_class name variable = record {
  name = name;
  kind = Event (record { section = 0; ties = []; external = false });
  variable = variable;
  attributes = [];
}

-- the events ARRIVAL and TICK; TICK is the first in priority
abbrev pub two_events : ProgramTable
two_events = record {
  globals = codes "ARRIVAL" ∷ codes "TICK" ∷ [];
  classes = event_class (codes "ARRIVAL") 0 ∷ event_class (codes "TICK") 1 ∷ [];
  sets = [];
  priority = 1 ∷ [];
  sections = [];
}

-- a notice without keys
abbrev pub notice_at : ℕ → ℕ → ℕ → ℕ → Pending
notice_at notice class time filing =
    record { notice = notice; time = pos time; class = class; keys = []; filing = filing }

-- an ARRIVAL at 20, a TICK at 5 and a TICK at 20, scheduled in this order
abbrev pub three_notices : Agenda
three_notices = record { pending = notice_at 1 1 20 3 ∷ notice_at 2 0 20 1 ∷ notice_at 3 1 5 2 ∷ []; next_filing = 4 }

-- ---- entities and sets

-- desks, each with a line of jobs, and a pool of jobs
abbrev pub shop : ProgramTable
shop = record {
  globals = codes "DESK" ∷ codes "N.DESK" ∷ codes "JOB" ∷ [];
  classes =
      record { name = codes "DESK"; kind = Permanent 1; variable = 0; attributes = [] }
      ∷ record { name = codes "JOB"; kind = Temporary; variable = 2; attributes = codes "PAY" ∷ codes "AGE" ∷ [] }
      ∷ [];
  sets =
      record { name = codes "LINE"; discipline = Fifo; owner = OwnedBy 0; member = 1 }
      ∷ record { name = codes "POOL"; discipline = Fifo; owner = System; member = 1 }
      ∷ [];
  priority = [];
  sections = [];
}

-- a desk with these jobs in its line
abbrev pub desk : List ℕ → Entity
desk jobs = record { class = 0; attributes = []; owned = jobs ∷ [] }

-- a job
abbrev pub job : ℤ → ℤ → Entity
job pay age = record { class = 1; attributes = pay ∷ age ∷ []; owned = [] }

-- two desks; the jobs 2 and 1 wait at the first, the third has ended, the fourth is in the pool
abbrev pub two_desks : Store
two_desks = record {
  made = (desk (2 ∷ 1 ∷ []) ∷ desk [] ∷ []) ∷ [] ∷ [];
  references =
      Some (job (pos 5) (neg_ℤ (pos 3))) ∷ Some (job (pos 7) (pos 0)) ∷ None ∷ Some (job (pos 0) (pos 0)) ∷ [];
  system = (4 ∷ []) ∷ [];
}

-- the shop's state in which the variable DESK has this value
abbrev pub shop_at : ℤ → State
shop_at d = record {
  variables = d ∷ pos 2 ∷ pos 0 ∷ [];
  frame = record { section = 0; place = 0; locals = []; loops = []; found = false; statistics = no_statistics };
  below = [];
  clock = pos 0;
  store = two_desks;
  agenda = empty_agenda;
  feed = record { items = []; taken = 0 };
  report = [];
  status = Ready;
  entry = Absent;
}

-- the answer to SHOW c k in the shop
abbrev pub shop_entity_text : List ℕ → ℤ → List ℕ
shop_entity_text name x = class_text name x shop two_desks (class_named shop name)

-- the answer to SHOW SET in the shop, if the variable DESK has this value
abbrev pub shop_list_text : ℤ → List ℕ → Option ℤ → List ℕ
shop_list_text d name owner = named_list_text name owner shop (shop_at d) (set_named shop name)
