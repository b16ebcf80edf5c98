-- One step of CREATE, CREATE EVERY and DESTROY.
use Rattle.std.specs.Prelude.{ℕ, ℤ, Option, Some, None, Result, Ok}
use Rattle.ss_words.specs.declared.fault.RunFault.{RunFault}
use Rattle.ss_words.specs.declared.fault.RunFault.TheVariants.{EndedInUse}
use Rattle.ss_program.specs.declared.target.Target.{Target}
use Rattle.ss_program.specs.declared.making.Making.{Making}
use Rattle.ss_program.specs.declared.making.Making.TheVariants.{Create, CreateEvery, Destroy}
use Rattle.ss_program.specs.declared.variable.Variable.TheVariants.{Global}
use Rattle.ss_program.specs.ProgramExpr.{Expr}
use Rattle.ss_store.specs.Tables.{Tables, class_of}
use Rattle.ss_store.specs.Store.{Store, last_reference, with_new, with_class, without_entity}
use Rattle.ss_events.specs.Agenda.{is_pending}
use Rattle.ss_state.specs.State.{State}
use Rattle.ss_values.specs.Faults.{◌>>=◌, ◌>>◌, refuse_if}
use Rattle.ss_values.specs.Values.{Readings, variable_value, value_of, number_value}
use Rattle.ss_state.specs.Readings.{readings}
use Rattle.ss_state.specs.Statements.{state_after_result, state_at_place, state_after_assignment, state_with_store}
use Rattle.ss_state.specs.Statements.{state_with_value, entity_named}

-- the state after CREATE: the entity is made, and its reference assigned
abbrev pub state_after_create : Tables → State → ℕ → Target → Result State RunFault
state_after_create tables state c target =
    with_new state.store c (class_of tables c)
    >>= λ st. number_value (last_reference st) >>= state_with_value tables (state_with_store state st) target

-- how many entities CREATE EVERY makes: as many as are written, else N.c
abbrev pub number_asked : Readings → Option Expr → ℕ → Result ℤ RunFault
number_asked readings None count = Ok (variable_value readings (Global count))
number_asked readings (Some e) count = value_of readings e

-- the state after CREATE EVERY, in which N.c is their number
abbrev pub state_after_create_every : Tables → State → ℕ → ℕ → ℤ → Result State RunFault
state_after_create_every tables state c count n =
    with_class state.store c (class_of tables c) n
    >>= λ st. Ok (state_after_assignment (state_with_store state st) (Global count) n)

-- the store without entity number k of class c; F7 also if it is a pending notice
abbrev pub store_without : Tables → State → ℕ → ℕ → Result Store RunFault
store_without tables state c k =
    refuse_if (is_pending state.agenda k) EndedInUse >> without_entity tables state.store c k

-- the state after DESTROY of the entity that a value names
abbrev pub state_after_destroy : Tables → State → ℕ → Expr → Result State RunFault
state_after_destroy tables state c expression =
    value_of (readings tables state) expression >>= entity_named state.store c >>= store_without tables state c
    >>= λ st. Ok (state_with_store state st)

-- the state after a statement that makes or ends entities
abbrev pub state_after_making : Tables → State → Making → Result State RunFault
state_after_making tables state (Create c is_called target) = state_after_create tables state c target
state_after_making tables state (CreateEvery c e count) =
    number_asked (readings tables state) e count >>= state_after_create_every tables state c count
state_after_making tables state (Destroy c is_called e) = state_after_destroy tables state c e

-- one step of such a statement
abbrev pub step_making : Tables → State → ℕ → Making → State
step_making tables state next making =
    state_after_result state (state_after_making tables state making) (state_at_place next)
