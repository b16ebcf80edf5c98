-- One step of SCHEDULE, CANCEL and START SIMULATION.
use Rattle.std.specs.Prelude.{ℕ, ℤ, pos, ◌+◌, ◌+ℤ◌, int_lt, ◌&&◌, ◌||◌, nat_lt, Bool, not, if◌then◌else◌, List, [], ◌∷◌}
use Rattle.std.specs.Prelude.{length, map, position, Option, Some, None, Result, Ok, Err, slice_get}
use Rattle.std.specs.List.{range_with_len}
use Rattle.ss_words.specs.declared.fault.RunFault.{RunFault}
use Rattle.ss_words.specs.declared.fault.RunFault.TheVariants.{TimeBeforeClock, NotScheduled, NotExternal}
use Rattle.ss_program.specs.declared.target.Target.{Target}
use Rattle.ss_program.specs.declared.variable.Variable.TheVariants.{Global}
use Rattle.ss_program.specs.declared.timing.Notice.{Notice}
use Rattle.ss_program.specs.declared.timing.Notice.TheVariants.{New, Known}
use Rattle.ss_program.specs.declared.timing.Listing.{Listing}
use Rattle.ss_program.specs.declared.timing.Listing.TheVariants.{InParentheses, Given}
use Rattle.ss_program.specs.declared.timing.When.{When}
use Rattle.ss_program.specs.declared.timing.When.TheVariants.{At, Now, In}
use Rattle.ss_program.specs.declared.timing.Schedule.{Schedule}
use Rattle.ss_program.specs.declared.timing.Timing.{Timing}
use Rattle.ss_program.specs.declared.timing.Timing.TheVariants as timings
use Rattle.ss_program.specs.Program as program
use Rattle.ss_program.specs.Program.{ProgramTable, section_of, event_of, event_of_kind, has_external}
use Rattle.ss_program.specs.ProgramExpr.{Expr}
use Rattle.ss_data.specs.Items.{Item, value_or_fault}
use Rattle.ss_data.specs.Entries.{item_writes}
use Rattle.ss_store.specs.Tables.{Tables, tables_of, class_of}
use Rattle.ss_store.specs.Store.{Store, attribute_of, last_reference, with_attribute, with_new, without_entity}
use Rattle.ss_events.specs.Rules.{rules_of}
use Rattle.ss_events.specs.Agenda.{Pending, Agenda, is_pending, least, may_schedule, agenda_after_scheduling}
use Rattle.ss_events.specs.Agenda.{agenda_after_taking}
use Rattle.ss_state.specs.declared.entry.Entry.TheVariants.{Waiting}
use Rattle.ss_state.specs.State.{State, is_absent, waits_for, entry_at_start}
use Rattle.ss_values.specs.Faults.{◌>>=◌, ◌>>◌, refuse_if}
use Rattle.ss_values.specs.Values.{Readings, result_in_range, value_of, values_of, number_value}
use Rattle.ss_state.specs.Readings.{readings}
use Rattle.ss_state.specs.Statements.{state_after_result, state_at_place, state_after_assignment, state_with_store}
use Rattle.ss_state.specs.Statements.{state_with_value, state_with_taken, entity_named, state_with_frame}

-- ---- event notices

-- the value that names the notice of THE; A names none
abbrev pub notice_named : Readings → Notice → Result ℤ RunFault
notice_named readings (New is_called target) = Ok (pos 0)
notice_named readings (Known is_called e) = value_of readings e

-- the value that names the notice, and the arguments, in the order in which they are written
abbrev pub arguments_asked : Readings → Notice → List Expr → Listing → Result (ℤ × List ℤ) RunFault
arguments_asked readings notice es InParentheses =
    values_of readings es >>= λ xs. notice_named readings notice >>= λ x. Ok (x, xs)
arguments_asked readings notice es Given =
    notice_named readings notice >>= λ x. values_of readings es >>= λ xs. Ok (x, xs)

-- when the notice is to be due
abbrev pub time_asked : Readings → When → Result ℤ RunFault
time_asked readings (At e) = value_of readings e
time_asked readings Now = Ok readings.clock
time_asked readings (In e) = value_of readings e >>= λ n. result_in_range (readings.clock +ℤ n)

-- the values of attributes of entity number k of class c, by their numbers, or F3
abbrev pub attributes_now : Store → ℕ → ℕ → List ℕ → Result (List ℤ) RunFault
attributes_now store c k [] = Ok []
attributes_now store c k (a ∷ rest) =
    attribute_of store c a k >>= λ x. attributes_now store c k rest >>= λ xs. Ok (x ∷ xs)

-- the attributes that break the ties of class c
abbrev pub tie_attributes : ProgramTable → ℕ → List ℕ
tie_attributes program c = map (λ key. key.attribute) (event_of program c).ties

-- the state in which entity number k of class c has these values in its attributes from number a on
abbrev pub state_with_attributes : State → ℕ → ℕ → ℕ → List ℤ → Result State RunFault
state_with_attributes state c k a [] = Ok state
state_with_attributes state c k a (x ∷ xs) =
    with_attribute state.store c a k x >>= λ st. state_with_attributes (state_with_store state st) c k (a + 1) xs

-- the state with other pending notices
abbrev pub state_with_agenda : State → Agenda → State
state_with_agenda state agenda = record state { agenda = agenda }

-- the state in which notice k of class c is pending at a time with these keys: F9, F10, F20
abbrev pub state_with_notice : State → ℕ → ℕ → ℤ → List ℤ → Result State RunFault
state_with_notice state c k time keys =
    may_schedule state.agenda k time state.clock
    >> Ok (state_with_agenda state (agenda_after_scheduling state.agenda k time c keys))

-- the state in which notice k of class c has these first attributes, and is pending with its keys as they are then
abbrev pub state_after_scheduling : ProgramTable → State → ℕ → ℕ → ℤ → List ℤ → Result State RunFault
state_after_scheduling program state c k time xs =
    state_with_attributes state c k 0 xs
    >>= λ r. attributes_now r.store c k (tie_attributes program c) >>= state_with_notice r c k time

-- SCHEDULE A: the notice is made, scheduled, and its reference assigned
abbrev pub state_after_new : ProgramTable → State → ℕ → Target → ℤ → List ℤ → Result State RunFault
state_after_new program state c target time xs =
    refuse_if (int_lt time state.clock) TimeBeforeClock >> with_new state.store c (class_of (tables_of program) c)
    >>= λ st. state_after_scheduling program (state_with_store state st) c (last_reference st) time xs
    >>= λ r. number_value (last_reference st) >>= state_with_value (tables_of program) r target

-- the state after scheduling the notice of A or THE: SCHEDULE THE assigns nothing
abbrev pub state_after_notice : ProgramTable → State → ℕ → Notice → ℤ → ℤ → List ℤ → Result State RunFault
state_after_notice program state c (New is_called target) x time xs = state_after_new program state c target time xs
state_after_notice program state c (Known is_called e) x time xs =
    entity_named state.store c x >>= λ k. state_after_scheduling program state c k time xs

-- the state after SCHEDULE: the notice's name and the arguments, then the time, then the change
abbrev pub state_after_schedule : ProgramTable → State → Schedule → Result State RunFault
state_after_schedule program state schedule =
    arguments_asked (readings (tables_of program) state) schedule.notice schedule.arguments schedule.listing
    >>= λ a. time_asked (readings (tables_of program) state) schedule.when
    >>= λ time. state_after_notice program state schedule.class schedule.notice a.0 time a.1

-- the agenda without notice k; F11 if it is not pending, or waits for its entry
abbrev pub agenda_without : State → ℕ → Result Agenda RunFault
agenda_without state k =
    refuse_if (waits_for k state.entry || not (is_pending state.agenda k)) NotScheduled
    >> Ok (agenda_after_taking state.agenda k)

-- the state after CANCEL of the notice that a value names
abbrev pub state_after_cancel : Tables → State → ℕ → Expr → Result State RunFault
state_after_cancel tables state c expression =
    value_of (readings tables state) expression >>= entity_named state.store c >>= agenda_without state
    >>= λ a. Ok (state_with_agenda state a)

-- ---- the timing routine

-- the section of an event class
abbrev pub event_section : ProgramTable → ℕ → ℕ
event_section program c = (event_of program c).section

-- the store as the event of notice k starts: without the notice, unless the section says SAVING
abbrev pub store_at_start : ProgramTable → Store → ℕ → ℕ → Result Store RunFault
store_at_start program store c k =
    if (section_of program (event_section program c)).saving then Ok store
    else without_entity (tables_of program) store c k

-- the state in which notice k is taken off and the clock is at a time, over a store; an entry that waited for it runs
abbrev pub state_at_time : State → ℕ → ℤ → Store → State
state_at_time state k time store = record state {
  clock = time;
  store = store;
  agenda = agenda_after_taking state.agenda k;
  entry = entry_at_start k state.entry;
}

-- the state after the start of the event of notice k of class c at a time: the class's variable has its reference, and
-- the parameters have its first attributes
abbrev pub state_after_start : ProgramTable → State → ℕ → ℕ → ℤ → Result State RunFault
state_after_start p state k c time =
    attributes_now state.store c k (range_with_len 0 (section_of p (event_section p c)).given)
    >>= λ xs. store_at_start p state.store c k >>= λ st. number_value k
    >>= λ x. Ok (state_with_frame p (state_after_assignment (state_at_time state k time st)
    (Global (program.class_of p c).variable) x) (event_section p c) xs)

-- nothing pending: the place after START SIMULATION follows; else the least notice's event starts
abbrev pub step_simulation : ProgramTable → State → ℕ → Option Pending → State
step_simulation program state next None = state_at_place next state
step_simulation program state next (Some n) =
    state_after_result state (state_after_start program state n.notice n.class n.time) (λ r. r)

-- the external class that an item names
abbrev pub external_class : ProgramTable → Option Item → Option ℕ
external_class program o = position (λ c. (event_of_kind c.kind).external && item_writes c.name o) program.classes

-- the external class that is named, or F21
abbrev pub class_named : Option ℕ → Result ℕ RunFault
class_named None = Err NotExternal
class_named (Some c) = Ok c

-- the state in which a new notice of class c waits for its entry
abbrev pub state_after_arrival : ProgramTable → State → ℕ → ℤ → Result State RunFault
state_after_arrival program state c time =
    refuse_if (int_lt time state.clock) TimeBeforeClock >> with_new state.store c (class_of (tables_of program) c)
    >>= λ st. state_after_scheduling program (state_with_store state st) c (last_reference st) time []
    >>= λ r. Ok (record r { entry = Waiting c (last_reference st) })

-- the class and the time of the next entry of the data: F21, then F16 or F17
abbrev pub arrival_asked : ProgramTable → State → Result (ℕ × ℤ) RunFault
arrival_asked program state =
    class_named (external_class program (slice_get state.feed.items state.feed.taken))
    >>= λ c. value_or_fault (slice_get state.feed.items (state.feed.taken + 1)) >>= λ time. Ok (c, time)

-- the state after the load of that entry
abbrev pub state_after_load : ProgramTable → State → Result State RunFault
state_after_load program state =
    arrival_asked program state
    >>= λ a. state_after_arrival program (state_with_taken state (state.feed.taken + 2)) a.0 a.1

-- whether an entry of the data is to be loaded
abbrev pub loads : ProgramTable → State → Bool
loads program state = is_absent state.entry && nat_lt state.feed.taken (length state.feed.items) && has_external program

-- START SIMULATION: the load of an entry, or the timing routine
abbrev pub step_start : ProgramTable → State → ℕ → State
step_start program state next =
    if loads program state then state_after_result state (state_after_load program state) (λ r. r)
    else step_simulation program state next (least (rules_of program) state.agenda.pending)

-- one step of a statement that schedules notices, takes them off, or starts events
abbrev pub step_timing : ProgramTable → State → ℕ → Timing → State
step_timing program state next (timings.Schedule x) =
    state_after_result state (state_after_schedule program state x) (state_at_place next)
step_timing program state next (timings.Cancel c is_called e) =
    state_after_result state (state_after_cancel (tables_of program) state c e) (state_at_place next)
step_timing program state next timings.Start = step_start program state next
