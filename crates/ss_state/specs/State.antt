-- The state of a run.
use Rattle.std.specs.Prelude.{ℕ, ℤ, pos, ◌-◌, ◌==◌, if◌then◌else◌, Bool, true, false, List, [], ◌++◌, length, replicate}
use Rattle.std.specs.Prelude.{slice_get}
use Rattle.ss_program.specs.Program.{ProgramTable, locals_of}
use Rattle.ss_data.specs.Items.{DataRead}
use Rattle.ss_store.specs.Store.{Store}
use Rattle.ss_events.specs.Agenda.{Agenda}
use Rattle.ss_state.specs.declared.entry.Entry.{Entry}
use Rattle.ss_state.specs.declared.entry.Entry.TheVariants.{Absent, Waiting, Running}
use Rattle.ss_state.specs.declared.status.Status.{Status}
use Rattle.ss_state.specs.declared.status.Status.TheVariants.{Ready, Stopped, Finished, Faulted}
use Rattle.ss_state.specs.Loops.{OpenLoop}

-- the statistics that COMPUTE has gathered; all 0 if there was no case
pub record Statistics : Type 0 where
  -- how many values there were
  pub number : ℤ
  -- their sum
  pub sum : ℤ
  -- the greatest of them
  pub greatest : ℤ
  -- the least of them
  pub least : ℤ

-- a frame: a section that has begun and not ended
pub record FrameState : Type 0 where
  -- its section
  pub section : ℕ
  -- its place
  pub place : ℕ
  -- the values of its locals, in the order of the section's table
  pub locals : List ℤ
  -- its open loops, the innermost first
  pub loops : List OpenLoop
  -- whether the last FIND found a case
  pub found : Bool
  -- the statistics of COMPUTE
  pub statistics : Statistics

-- the state of a run
pub record State : Type 0 where
  -- the values of the global variables, in the order of their table
  pub variables : List ℤ
  -- the last frame
  pub frame : FrameState
  -- the frames below it, the nearest first
  pub below : List FrameState
  -- the clock
  pub clock : ℤ
  -- the entities and the lists of sets
  pub store : Store
  -- the pending notices
  pub agenda : Agenda
  -- the items of the data, and how many of them are taken
  pub feed : DataRead
  -- the bytes of the report
  pub report : List ℕ
  -- the status
  pub status : Status
  -- the entry of an external event
  pub entry : Entry

-- the statistics over no case
abbrev pub no_statistics : Statistics
no_statistics = record { number = pos 0; sum = pos 0; greatest = pos 0; least = pos 0 }

-- the frame of a section at its first place: the values that it is given, and 0 in all other locals
abbrev pub new_frame : ProgramTable → ℕ → List ℤ → FrameState
new_frame program section xs = record {
  section = section;
  place = 0;
  locals = xs ++ replicate (length (locals_of (slice_get program.sections section)) - length xs) (pos 0);
  loops = [];
  found = false;
  statistics = no_statistics;
}

-- whether a run goes on from a state with this status
abbrev pub is_ready : Status → Bool
is_ready Ready = true
is_ready Stopped = false
is_ready Finished = false
is_ready (Faulted f) = false

-- whether a fault ended it
abbrev pub is_faulted : Status → Bool
is_faulted Ready = false
is_faulted Stopped = false
is_faulted Finished = false
is_faulted (Faulted f) = true

-- ---- the entry of an external event

-- there is none
abbrev pub is_absent : Entry → Bool
is_absent Absent = true
is_absent (Waiting c k) = false
is_absent (Running c k) = false

-- its notice is pending
abbrev pub is_waiting : Entry → Bool
is_waiting Absent = false
is_waiting (Waiting c k) = true
is_waiting (Running c k) = false

-- its notice is pending, and is number k
abbrev pub waits_for : ℕ → Entry → Bool
waits_for k Absent = false
waits_for k (Waiting c j) = j == k
waits_for k (Running c j) = false

-- the entry as the event of notice k starts
abbrev pub entry_at_start : ℕ → Entry → Entry
entry_at_start k Absent = Absent
entry_at_start k (Waiting c j) = if j == k then Running c j else Waiting c j
entry_at_start k (Running c j) = Running c j
