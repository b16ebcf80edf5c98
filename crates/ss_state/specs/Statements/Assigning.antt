-- One step of LET, ADD and SUBTRACT.
use Rattle.std.specs.Prelude.{ℕ, Result}
use Rattle.ss_words.specs.declared.fault.RunFault.{RunFault}
use Rattle.ss_program.specs.declared.target.Target.{Target}
use Rattle.ss_program.specs.declared.place.Assign.{Assign}
use Rattle.ss_program.specs.declared.place.Assign.TheVariants.{Let, Add, Subtract}
use Rattle.ss_store.specs.Tables.{Tables}
use Rattle.ss_state.specs.State.{State}
use Rattle.ss_values.specs.Faults.{◌>>=◌}
use Rattle.ss_values.specs.Values.{assigned_value}
use Rattle.ss_state.specs.Readings.{readings}
use Rattle.ss_state.specs.Statements.{state_after_result, state_at_place, state_with_value}

-- the target that LET, ADD and SUBTRACT assign to
abbrev pub target_of : Assign → Target
target_of (Let written target value) = target
target_of (Add value target) = target
target_of (Subtract value target) = target

-- the state in which they have assigned it
abbrev pub state_after_assign : Tables → State → Assign → Result State RunFault
state_after_assign tables state statement =
    assigned_value (readings tables state) statement >>= state_with_value tables state (target_of statement)

-- one step of an assignment
abbrev pub step_assign : Tables → State → ℕ → Assign → State
step_assign tables state next statement =
    state_after_result state (state_after_assign tables state statement) (state_at_place next)
