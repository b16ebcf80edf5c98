-- The one run of a program.
use Rattle.std.specs.Prelude.{ℕ, zero, suc, pos, ◌+◌, List, [], ◌∷◌, ◌++◌, length, replicate, if◌then◌else◌}
use Rattle.ss_program.specs.Program.{ProgramTable, main_number}
use Rattle.ss_data.specs.Items.{Item, items}
use Rattle.ss_store.specs.Tables.{tables_of}
use Rattle.ss_store.specs.Store.{empty_store}
use Rattle.ss_events.specs.Agenda.{empty_agenda}
use Rattle.ss_state.specs.declared.entry.Entry.TheVariants.{Absent}
use Rattle.ss_state.specs.declared.status.Status.TheVariants.{Ready}
use Rattle.ss_state.specs.State.{State, is_ready, new_frame}
use Rattle.ss_state.specs.Step.{step}

-- the input of a run
pub record Input : Type 0 where
  -- a program
  pub program : ProgramTable
  -- the items of its data
  pub items : List Item

-- a program over data
abbrev pub input_with : ProgramTable → List ℕ → Input
input_with program text = record { program = program; items = items text }

-- MAIN at its first place, all variables and the clock 0, no entities, nothing pending, taken or printed, no entry
abbrev pub start : Input → State
start input = record {
  variables = replicate (length input.program.globals) (pos 0);
  frame = new_frame input.program (main_number input.program) [];
  below = [];
  clock = pos 0;
  store = empty_store (tables_of input.program);
  agenda = empty_agenda;
  feed = record { items = input.items; taken = 0 };
  report = [];
  status = Ready;
  entry = Absent;
}

-- the state after another one; one that isn't ready stays
abbrev pub next : ProgramTable → State → State
next program state = if is_ready state.status then step program state else state

-- state number k
abbrev pub run : Input → ℕ → State
run input zero = start input
run input (suc k) = next input.program (run input k)

-- k states, the first of them number a
abbrev pub states_from : Input → ℕ → ℕ → List State
states_from input a zero = []
states_from input a (suc k) = states_from input a k ++ run input (a + k) ∷ []
