use Rattle.std.proofs.Common.{◌≡◌, drop}
use Rattle.std.specs.Prelude.{map}
use Rattle.std.specs.List.{flat_map, fold}
use Rattle.ss_program.specs.NameIndex.{with_name}
use Rattle.ss_check.specs.ResolvedNames.{undeclared_name, variable_used}
use Rattle.ss_check.specs.UseView.{use_view}
use Rattle.ss_check.proofs.resolved.section_locals.add_used.Given as goal

-- the uses that are left bring the table to the whole one
abbrev pub invariant-loop-one : goal.invariant-loop-one
invariant-loop-one l =
    fold with_name l.locals
    (flat_map (undeclared_name l.whole) (flat_map variable_used (map use_view (drop l.one-index l.uses))))
    ≡ fold with_name l.fn.locals (flat_map (undeclared_name l.whole) (flat_map variable_used (map use_view l.uses)))
