use Rattle.std.proofs.Common.{◌∙◌}
use Rattle.std.specs.Prelude.{bytes_eq}
use Rattle.ss_program.proofs.Mains.{found_none}
use Rattle.ss_check.proofs.declared.name_tables.number.Goals as goal

pub returns-in-None : goal.returns-in-None
returns-in-None c = c.len.ensures ∙ found_none (bytes_eq c.args.name.now) c.args.table.now c.in-None.ensures.value
