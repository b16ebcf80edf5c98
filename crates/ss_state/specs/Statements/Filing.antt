-- One step of FILE and REMOVE.
use Rattle.std.specs.Prelude.{ℕ, ℤ, position, Result, Ok}
use Rattle.ss_words.specs.declared.fault.RunFault.{RunFault}
use Rattle.ss_program.specs.declared.target.SetRef.{SetRef}
use Rattle.ss_program.specs.declared.target.Target.{Target}
use Rattle.ss_words.specs.declared.terms.SetEnd.{SetEnd}
use Rattle.ss_words.specs.declared.terms.SetEnd.TheVariants as ends
use Rattle.ss_program.specs.declared.filing.Position.{Position}
use Rattle.ss_program.specs.declared.filing.Position.TheVariants.{ByRule, AtEnd, Before, After}
use Rattle.ss_program.specs.declared.filing.Filing.{Filing}
use Rattle.ss_program.specs.declared.filing.Filing.TheVariants.{File, FileAt, RemoveAt, Remove}
use Rattle.ss_store.specs.declared.shape.How.{How}
use Rattle.ss_store.specs.declared.shape.How.TheVariants as how
use Rattle.ss_store.specs.declared.shape.Which.{Which}
use Rattle.ss_store.specs.declared.shape.Which.TheVariants as which
use Rattle.ss_store.specs.Tables.{Tables, set_of}
use Rattle.ss_store.specs.Store.{number_of}
use Rattle.ss_store.specs.Filing.{after_filing, after_removing}
use Rattle.ss_state.specs.State.{State}
use Rattle.ss_values.specs.Faults.{◌>>=◌}
use Rattle.ss_values.specs.Values.{Readings, value_of, subscript_value, number_value}
use Rattle.ss_state.specs.Readings.{readings}
use Rattle.ss_state.specs.Statements.{state_after_result, state_at_place, state_with_store, state_with_value}

-- an end of a list, as FILE names it
abbrev pub how_at : SetEnd → How
how_at ends.First = how.First
how_at ends.Last = how.Last

-- an end of a list, as REMOVE names it
abbrev pub which_at : SetEnd → Which
which_at ends.First = which.First
which_at ends.Last = which.Last

-- the position at which FILE puts a member, with the value that names another one
abbrev pub how_asked : Readings → Position → Result How RunFault
how_asked readings ByRule = Ok how.ByRule
how_asked readings (AtEnd end) = Ok (how_at end)
how_asked readings (Before e) = value_of readings e >>= λ y. Ok (how.Before y)
how_asked readings (After e) = value_of readings e >>= λ y. Ok (how.After y)

-- the state after FILE of a member
abbrev pub state_after_file : Tables → State → SetRef → ℤ → How → Result State RunFault
state_after_file tables state set x how =
    subscript_value (readings tables state) set.owner
    >>= λ o. after_filing (set_of tables set.set) state.store (number_of o) (number_of x) how
    >>= λ st. Ok (state_with_store state st)

-- the state after REMOVE of an end, whose member's number is assigned
abbrev pub state_after_remove_end : Tables → State → SetRef → SetEnd → Target → Result State RunFault
state_after_remove_end tables state set end target =
    subscript_value (readings tables state) set.owner
    >>= λ o. after_removing (set_of tables set.set) state.store (number_of o) (which_at end)
    >>= λ k. number_value k.0 >>= state_with_value tables (state_with_store state k.1) target

-- the state after REMOVE of a member
abbrev pub state_after_remove : Tables → State → SetRef → ℤ → Result State RunFault
state_after_remove tables state set x =
    subscript_value (readings tables state) set.owner
    >>= λ o. after_removing (set_of tables set.set) state.store (number_of o) (which.Member x)
    >>= λ k. Ok (state_with_store state k.1)

-- the state after a statement that files or removes: its values from the left, then the change
abbrev pub state_after_filing : Tables → State → Filing → Result State RunFault
state_after_filing tables state (File e position r) =
    value_of (readings tables state) e >>= λ x. how_asked (readings tables state) position
    >>= λ h. state_after_file tables state r x h
state_after_filing tables state (FileAt end e r) =
    value_of (readings tables state) e >>= λ x. state_after_file tables state r x (how_at end)
state_after_filing tables state (RemoveAt end target r) = state_after_remove_end tables state r end target
state_after_filing tables state (Remove e r) =
    value_of (readings tables state) e >>= λ x. state_after_remove tables state r x

-- one step of such a statement
abbrev pub step_filing : Tables → State → ℕ → Filing → State
step_filing tables state next filing =
    state_after_result state (state_after_filing tables state filing) (state_at_place next)
