-- What a question is about, in the runs of a program.
use Rattle.std.specs.Prelude.{ℕ, Bool, Option}
use Rattle.ss_state.specs.State.{State}
use Rattle.ss_readings.specs.Value.{Value}

-- what a question is about
pub record Subject : Type 0 where
  -- it names a local variable of its section
  pub local : Bool
  -- its value in a state, if it has one, read in the frame with `depth` others above it
  pub value : State → ℕ → Option Value
