use Rattle.std.proofs.Common.{◌≡◌, drop}
use Rattle.std.specs.Prelude.{map}
use Rattle.ss_preamble.specs.View.{items_view}
use Rattle.ss_routines.specs.View.{section_view}
use Rattle.ss_check.specs.Declarations.{headed_items}
use Rattle.ss_check.specs.Increments.{with_items, with_sections}
use Rattle.ss_check.proofs.rules.breach.add_all.Given as goal

-- the sections that are left bring the tables to those of all
abbrev pub invariant-loop-section : goal.invariant-loop-section
invariant-loop-section l =
    with_sections l.tables (map section_view (drop l.section-index l.sections))
    ≡ with_sections (with_items l.fn.tables (headed_items (items_view l.items))) (map section_view l.sections)
