-- The state in which a statement looks, perhaps with another value of one variable.
use Rattle.std.specs.Prelude.{Bool, false, Option, Some, None}
use Rattle.ss_program.specs.declared.variable.Variable.{Variable}
use Rattle.ss_program.specs.Program.{ProgramTable}
use Rattle.ss_program.specs.ProgramSound.{Scope, IsSettable, scope_in}
use Rattle.ss_store.specs.Tables.{tables_of}
use Rattle.ss_values.specs.Values.{Readings}
use Rattle.ss_state.specs.State.{State}
use Rattle.ss_state.specs.Readings.{readings}
use Rattle.ss_state.specs.Statements.{state_after_assignment}
use Rattle.ss_state.specs.Well.{IsWell}
use Rattle.ss_reads.specs.declared.scene.Given.{Given}
use Rattle.ss_reads.specs.Same.{is_same_variable}

-- a state of a program's run, and perhaps a variable with another value
pub record Scene : Type 0 where
  -- the program
  pub program : ProgramTable
  -- the state
  pub state : State
  -- the variable, and its other value
  pub given : Option Given

-- whether a variable is the one that has another value
abbrev pub is_given : Option Given → Variable → Bool
is_given None x = false
is_given (Some g) x = is_same_variable g.variable x

-- the state with that value
abbrev pub state_given : State → Option Given → State
state_given state None = state
state_given state (Some g) = state_after_assignment state g.variable g.value

-- the sources of values
abbrev pub sources : Scene → Readings
sources s = readings (tables_of s.program) (state_given s.state s.given)

-- the tables that its statement may name rows of
abbrev pub scope_of : Scene → Scope
scope_of s = scope_in s.program s.state.frame.section

-- a property within this scope
abbrev pub InScene : {A : Type 0} → Scene → (Scope → A → Type 0) → A → Type 0
InScene s P x = P (scope_of s) x

-- a variable that has another value, if there is one, is a target
abbrev pub IsSoundGiven : Scope → Option Given → Type 0
IsSoundGiven sc None = Unit {0}
IsSoundGiven sc (Some g) = IsSettable sc g.variable

-- a scene of a run
abbrev pub IsSoundScene : Scene → Type 0
IsSoundScene s = IsWell s.program s.state × IsSoundGiven (scope_of s) s.given
