-- The texts of a session, and the state of an outlet.
use Rattle.std.specs.Prelude.{ℕ, List, Option}
use Rattle.ss_program.specs.Program.{ProgramTable}
use Rattle.ss_state.specs.Run.{Input, input_with}
use Rattle.ss_debug.specs.CommandLines.{command_lines}
use Rattle.ss_debug.specs.Turn.{obeyed_lines}

-- the texts of a session
pub record Texts : Type 0 where
  -- the model
  pub model : List ℕ
  -- its data
  pub data_text : List ℕ
  -- the commands
  pub commands : List ℕ

-- a program over the data
abbrev pub input_of : Texts → ProgramTable → Input
input_of texts program = input_with program texts.data_text

-- the lines of the commands that are obeyed
abbrev pub obeyed_commands : Texts → List (List ℕ)
obeyed_commands texts = obeyed_lines (command_lines texts.commands)

-- the state of an outlet
pub record OutletState : Type 0 where
  -- the bytes that it took, if it shows them
  pub taken : Option (List ℕ)
  -- how many of its calls failed
  pub failures : ℕ
