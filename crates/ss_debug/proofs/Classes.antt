-- The variables of classes.
use Rattle.std.proofs.Common.{ℕ, ◌<◌, length, arith}
use Rattle.std.proofs.lemmas.Option.{slice_get_within}
use Rattle.ss_program.specs.Program.{ProgramTable, class_of}
use Rattle.ss_program.specs.ProgramSound.{IsSound}
use Rattle.ss_state.specs.State.{State}
use Rattle.ss_state.specs.Well.{IsWell}
use Rattle.ss_state.proofs.Sounds.{class_there}

-- the variable of a class of the table has a value
pub class_variable_there : (p : ProgramTable) (s : State) (c : ℕ) → IsSound p → IsWell p s → c < length p.classes →
    (class_of p c).variable < length s.variables
class_variable_there p s c sound well h =
    let there : (class_of p c).variable < length p.globals =
    slice_get_within p.globals (class_of p c).variable (class_of p c).name (class_there p c sound h).variable in
    omega (arith, well.bounds.variables, there)
