-- The parts that statements share: values first, from the left; a fault changes only the status.
pub mod Assigning
pub mod Printing
pub mod Reading
pub mod Entities
pub mod Filing
pub mod Branching
pub mod Looping
pub mod Calling
pub mod Timing
use Rattle.std.specs.Prelude.{ℕ, ℤ, pos, ◌+◌, not, List, [], ◌∷◌, Result, Ok, Err, slice_get, slice_set, slice_index_or}
use Rattle.ss_words.specs.declared.fault.RunFault.{RunFault}
use Rattle.ss_words.specs.declared.fault.RunFault.TheVariants.{NoEntity}
use Rattle.ss_program.specs.declared.target.Target.{Target}
use Rattle.ss_program.specs.declared.target.Target.TheVariants as targets
use Rattle.ss_program.specs.declared.variable.Variable.{Variable}
use Rattle.ss_program.specs.declared.variable.Variable.TheVariants.{Global, Local, Clock}
use Rattle.ss_program.specs.declared.ways.Ways.{Ways}
use Rattle.ss_program.specs.declared.place.Place.{Place}
use Rattle.ss_program.specs.Program.{ProgramTable, places_of}
use Rattle.ss_program.specs.Match.{ways_of}
use Rattle.ss_data.specs.Items.{with_taken}
use Rattle.ss_store.specs.Tables.{Tables}
use Rattle.ss_store.specs.Store.{Store, number_of, exists, with_attribute}
use Rattle.ss_state.specs.declared.status.Status.TheVariants.{Faulted}
use Rattle.ss_state.specs.State.{State, new_frame}
use Rattle.ss_values.specs.Faults.{◌>>=◌, ◌>>◌, refuse_if}
use Rattle.ss_values.specs.Values.{subscript_value}
use Rattle.ss_state.specs.Readings.{readings}

-- the state that follows from a result; a fault changes only the status
abbrev pub state_after_result : {A : Type 0} → State → Result A RunFault → (A → State) → State
state_after_result state (Ok x) f = f x
state_after_result state (Err e) f = record state { status = Faulted e }

-- the state whose last frame is at a place
abbrev pub state_at_place : ℕ → State → State
state_at_place place state = record state { frame = record state.frame { place = place } }

-- the state in which a variable has a new value
abbrev pub state_after_assignment : State → Variable → ℤ → State
state_after_assignment state (Global i) x = record state { variables = slice_set state.variables i x }
state_after_assignment state (Local i) x =
    record state { frame = record state.frame { locals = slice_set state.frame.locals i x } }
-- never met: no statement assigns to the clock
state_after_assignment state Clock x = state

-- the ways on from the place of the last frame, counted in its section
abbrev pub ways_here : ProgramTable → State → Place → Ways
ways_here program state place =
    ways_of (places_of (slice_get program.sections state.frame.section)) state.frame.place place

-- the state with another store
abbrev pub state_with_store : State → Store → State
state_with_store state store = record state { store = store }

-- the state in which a target has a new value; F3 if the attribute's entity does not exist
abbrev pub state_with_value : Tables → State → Target → ℤ → Result State RunFault
state_with_value tables state (targets.Variable x) z = Ok (state_after_assignment state x z)
state_with_value tables state (targets.Attribute c a i) z =
    subscript_value (readings tables state) i >>= λ x.
    with_attribute state.store c a (number_of x) z >>= λ st. Ok (state_with_store state st)

-- the state in which n items are taken
abbrev pub state_with_taken : State → ℕ → State
state_with_taken state n = record state { feed = with_taken state.feed n }

-- the state in which targets have the values from number k on, target by target
abbrev pub state_with_values : Tables → List ℤ → State → ℕ → List Target → Result State RunFault
state_with_values tables vs state k [] = Ok state
state_with_values tables vs state k (x ∷ xs) =
    state_with_value tables state x (slice_index_or vs k (pos 0)) >>= λ r. state_with_values tables vs r (k + 1) xs

-- the number of the entity of class c that a value names, or F3
abbrev pub entity_named : Store → ℕ → ℤ → Result ℕ RunFault
entity_named store c x = refuse_if (not (exists store c (number_of x))) NoEntity >> Ok (number_of x)

-- the state in which the frame of a section is the last one, with these values in its first locals
abbrev pub state_with_frame : ProgramTable → State → ℕ → List ℤ → State
state_with_frame program state section xs =
    record state { frame = new_frame program section xs; below = state.frame ∷ state.below }
