use Rattle.std.specs.Prelude.{bytes_eq}
use Rattle.ss_program.proofs.Mains.{found_first, found_none}
use Rattle.ss_check.proofs.declared.name_tables.place_of.Goals as goal

pub returns-in-Some : goal.returns-in-Some
returns-in-Some c =
    found_first (bytes_eq c.args.name.now) c.args.names.now c.in-Some.place c.in-Some.ensures

pub returns-in-None : goal.returns-in-None
returns-in-None c = found_none (bytes_eq c.args.name.now) c.args.names.now c.in-None.ensures
