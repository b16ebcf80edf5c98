use Rattle.std.proofs.Common.{◌≡◌, ◌++◌, drop}
use Rattle.std.specs.Prelude.{map}
use Rattle.ss_routines.specs.View.{section_view}
use Rattle.ss_check.specs.ResolvedNames.{locals_of}
use Rattle.ss_check.proofs.symbols.locals_of_sections.Given as goal

-- the sections that are left bring the local variables to all
abbrev pub invariant-loop-section : goal.invariant-loop-section
invariant-loop-section l =
    l.locals.items ++ map (locals_of l.whole) (map section_view (drop l.section-index l.sections))
    ≡ map (locals_of l.whole) (map section_view l.sections)
