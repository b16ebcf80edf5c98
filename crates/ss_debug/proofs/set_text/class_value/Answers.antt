use Rattle.std.proofs.Common.{◌≡◌, rules}
use Rattle.ss_program.specs.Program.{class_of}
use Rattle.ss_program.specs.ProgramSound.{IsSound}
use Rattle.ss_debug.proofs.Classes.{class_variable_there}
use Rattle.ss_debug.proofs.set_text.class_value.Goals as goal

pub variable-requires : goal.variable-requires
variable-requires g c =
    let m = c.args.machine.now in
    let v : c.class_variable.result ≡ (class_of m.input.program c.args.class).variable = search rules in
    let sound : IsSound m.input.program = search rules in
    rw v (class_variable_there m.input.program m.state c.args.class sound c.known.ensures.well c.requires)
