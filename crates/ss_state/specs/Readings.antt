-- The parts of a state that values are read from, and what is read there in one of its frames.
use Rattle.std.specs.Prelude.{ℕ, ℤ, pos, ◌<◌, length, slice_index_or, Bool, Option, Some, None, Result}
use Rattle.std.specs.Option.{option_map}
use Rattle.ss_words.specs.declared.fault.RunFault.{RunFault}
use Rattle.ss_program.specs.declared.variable.Variable.{Variable}
use Rattle.ss_program.specs.declared.variable.Variable.TheVariants.{Global, Local, Clock}
use Rattle.ss_program.specs.Program.{ProgramTable}
use Rattle.ss_program.specs.ProgramExpr.{Expr, Subscript}
use Rattle.ss_program.specs.ProgramCondition.{Condition}
use Rattle.ss_program.specs.ProgramSound.{Scope, scope_in}
use Rattle.ss_store.specs.Tables.{Tables, tables_of}
use Rattle.ss_values.specs.Values.{Readings, value_of, subscript_value}
use Rattle.ss_values.specs.Conditions.{holds}
use Rattle.ss_state.specs.State.{State, FrameState}
use Rattle.ss_state.specs.Frames.{frame_at}

-- the parts of a state that an expression reads
abbrev pub readings : Tables → State → Readings
readings tables state = record {
  tables = tables;
  store = state.store;
  variables = state.variables;
  locals = state.frame.locals;
  clock = state.clock;
}

-- those that it reads in a frame of the state: the locals are that frame's
abbrev pub readings_in : Tables → State → FrameState → Readings
readings_in tables state frame = record (readings tables state) { locals = frame.locals }

-- the value of an expression in the frame with `depth` others above it, or its first fault; none
-- if there is no such frame
abbrev pub value_in : ProgramTable → State → ℕ → Expr → Option (Result ℤ RunFault)
value_in program state depth e =
    option_map (λ frame. value_of (readings_in (tables_of program) state frame) e) (frame_at state depth)

-- whether a condition holds there, or its first fault
abbrev pub truth_in : ProgramTable → State → ℕ → Condition → Option (Result Bool RunFault)
truth_in program state depth c =
    option_map (λ frame. holds (readings_in (tables_of program) state frame) c) (frame_at state depth)

-- the number that a subscript means there, or its first fault
abbrev pub subscript_in : ProgramTable → State → ℕ → Subscript → Option (Result ℤ RunFault)
subscript_in program state depth i =
    option_map (λ frame. subscript_value (readings_in (tables_of program) state frame) i) (frame_at state depth)

-- something has a property in the scope of a frame's section, if there is such a frame
abbrev pub IsSoundIn : {A : Type 0} → (Scope → A → Type 0) → ProgramTable → Option FrameState → A → Type 0
IsSoundIn P program None x = Unit {0}
IsSoundIn P program (Some frame) x = P (scope_in program frame.section) x

-- the value of a variable in a state
abbrev pub variable_in : State → Variable → ℤ
variable_in state (Global i) = slice_index_or state.variables i (pos 0)
variable_in state (Local i) = slice_index_or state.frame.locals i (pos 0)
variable_in state Clock = state.clock

-- a state has a variable
abbrev pub HasVariable : State → Variable → Type 0
HasVariable state (Global i) = i < length state.variables
HasVariable state (Local i) = i < length state.frame.locals
HasVariable state Clock = Unit {0}
