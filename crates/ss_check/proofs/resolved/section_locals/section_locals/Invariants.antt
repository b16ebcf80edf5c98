use Rattle.std.proofs.Common.{◌≡◌, drop}
use Rattle.std.specs.List.{flat_map, fold}
use Rattle.ss_routines.specs.View.{section_view, spots}
use Rattle.ss_program.specs.NameIndex.{with_name}
use Rattle.ss_check.specs.ResolvedNames.{locals_of, undeclared_name, variable_used}
use Rattle.ss_check.specs.Uses.{uses}
use Rattle.ss_check.proofs.resolved.section_locals.section_locals.Given as goal

-- the places that are left bring the table to the whole one
abbrev pub invariant-loop-spot : goal.invariant-loop-spot
invariant-loop-spot l =
    fold with_name l.locals (flat_map (undeclared_name l.whole)
    (flat_map (λ x. flat_map variable_used (uses x.place)) (spots (drop l.spot-index l.spot-items))))
    ≡ locals_of l.whole (section_view l.fn.section)
