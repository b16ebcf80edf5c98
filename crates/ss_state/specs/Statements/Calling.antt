-- One step of CALL, RETURN, END and STOP.
use Rattle.std.specs.Prelude.{ℕ, ℤ, nat_lt, if◌then◌else◌, List, [], ◌∷◌, length, Option, Some, None, Result, Ok, Err}
use Rattle.ss_words.specs.declared.fault.RunFault.{RunFault}
use Rattle.ss_words.specs.declared.fault.RunFault.TheVariants.{OutsideEntry, TooManyFrames}
use Rattle.ss_program.specs.declared.place.Control.{Control}
use Rattle.ss_program.specs.declared.place.Control.TheVariants.{Stop, Return, End}
use Rattle.ss_program.specs.declared.call.Call.{Call}
use Rattle.ss_program.specs.declared.kinds.SectionKind.{SectionKind}
use Rattle.ss_program.specs.declared.kinds.SectionKind.TheVariants as kinds
use Rattle.ss_program.specs.declared.place.Place.{Place}
use Rattle.ss_program.specs.declared.place.Place.TheVariants as places
use Rattle.ss_program.specs.declared.place.Spot.{Spot}
use Rattle.ss_program.specs.Program.{ProgramTable, section_of, spot_at}
use Rattle.ss_data.specs.Entries.{place_behind_mark}
use Rattle.ss_store.specs.Tables.{Tables, tables_of}
use Rattle.ss_state.specs.declared.entry.Entry.{Entry}
use Rattle.ss_state.specs.declared.entry.Entry.TheVariants.{Absent, Waiting, Running}
use Rattle.ss_state.specs.declared.status.Status.TheVariants.{Stopped, Finished}
use Rattle.ss_state.specs.declared.limits.TheConstants.{MOST_BELOW}
use Rattle.ss_state.specs.State.{State, FrameState}
use Rattle.ss_values.specs.Faults.{◌>>=◌}
use Rattle.ss_values.specs.Values.{values_of}
use Rattle.ss_state.specs.Readings.{readings}
use Rattle.ss_state.specs.Statements.{state_after_result, state_at_place, ways_here, state_with_taken}
use Rattle.ss_state.specs.Statements.{state_with_values, state_with_frame}

-- F18 if there are 200 frames
abbrev pub room_for_frame : List FrameState → List ℤ → Result (List ℤ) RunFault
room_for_frame below xs = if nat_lt (length below) MOST_BELOW then Ok xs else Err TooManyFrames

-- one step of a CALL, which opens a frame
abbrev pub step_call : ProgramTable → State → Call → State
step_call program state call =
    state_after_result state (values_of (readings (tables_of program) state) call.given >>= room_for_frame state.below)
    (state_with_frame program state call.section)

-- the state after a CALL, which goes on at `next`, to which these locals came back
abbrev pub state_behind_call : Tables → List ℤ → ℕ → ℕ → State → Place → Result State RunFault
state_behind_call tables vs k next state (places.Call c) =
    state_with_values tables vs state k c.targets >>= λ r. Ok (state_at_place next r)
-- never met: the frame below a routine's is at a CALL
state_behind_call tables vs k next state other = Ok state

-- the state after the CALL at the place of the frame
abbrev pub state_behind_place : ProgramTable → List ℤ → ℕ → State → Option Spot → Result State RunFault
state_behind_place program vs k state (Some spot) =
    state_behind_call (tables_of program) vs k (ways_here program state spot.place).next state spot.place
-- never met: each frame is at a place
state_behind_place program vs k state None = Ok state

-- the state after a routine's frame is dropped and its locals after the given ones are assigned
abbrev pub state_after_return : ProgramTable → State → List FrameState → State
-- never met: a routine's frame has another below it
state_after_return program state [] = state
state_after_return program state (f ∷ fs) =
    state_after_result state
    (state_behind_place program state.frame.locals (section_of program state.frame.section).given
    (record state { frame = f; below = fs }) (spot_at program f.section f.place)) (λ r. r)

-- the state after an entry ran: data is passed up to and with the next mark; F22 if none is left
abbrev pub state_behind_mark : State → Option ℕ → Result State RunFault
state_behind_mark state None = Err OutsideEntry
state_behind_mark state (Some n) = Ok (record (state_with_taken state n) { entry = Absent })

-- the state after an entry that may run; one that does not run stays
abbrev pub state_without_entry : State → Entry → Result State RunFault
state_without_entry state Absent = Ok state
state_without_entry state (Waiting c k) = Ok state
state_without_entry state (Running c k) = state_behind_mark state (place_behind_mark state.feed)

-- the state after an event's frame is dropped; MAIN stays at its place
abbrev pub state_after_event : State → List FrameState → State
-- never met: an event's frame has MAIN's below it
state_after_event state [] = state
state_after_event state (f ∷ fs) =
    state_after_result state (state_without_entry state state.entry) (λ r. record r { frame = f; below = fs })

-- RETURN and END, by the kind of the section: the run ends in MAIN; the place stays
abbrev pub state_after_section : ProgramTable → State → SectionKind → State
state_after_section program state kinds.Main = record state { status = Finished }
state_after_section program state kinds.Routine = state_after_return program state state.below
state_after_section program state kinds.Event = state_after_event state state.below

-- one step of STOP, RETURN and END
abbrev pub step_control : ProgramTable → State → Control → State
step_control program state Stop = record state { status = Stopped }
step_control program state Return = state_after_section program state (section_of program state.frame.section).kind
step_control program state End = state_after_section program state (section_of program state.frame.section).kind
