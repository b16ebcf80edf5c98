use Rattle.std.proofs.Common.{◌≡◌, drop}
use Rattle.std.specs.List.{fold}
use Rattle.ss_program.specs.NameIndex.{with_name}
use Rattle.ss_check.proofs.resolved.section_locals.add_names.Given as goal

-- the names that are left bring the table to the whole one
abbrev pub invariant-loop-name : goal.invariant-loop-name
invariant-loop-name l =
    fold with_name l.locals (drop l.name-index l.names)
    ≡ fold with_name l.fn.locals l.names
