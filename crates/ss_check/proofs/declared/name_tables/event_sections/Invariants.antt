use Rattle.std.proofs.Common.{◌≡◌, ◌++◌, drop}
use Rattle.std.specs.Prelude.{map}
use Rattle.ss_routines.specs.View.{section_view}
use Rattle.ss_check.specs.Declarations.{events_in, heads}
use Rattle.ss_check.specs.ResolvedNames.{section_numbers}
use Rattle.ss_check.proofs.declared.name_tables.event_sections.Given as goal

-- the sections that are left bring the table to the whole one
abbrev pub invariant-loop-number : goal.invariant-loop-number
invariant-loop-number l =
    l.table ++ section_numbers l.number (map events_in (heads (map section_view (drop l.number l.sections)))) (λ n. n)
    ≡ section_numbers 0 (map events_in (heads (map section_view l.sections))) (λ n. n)
