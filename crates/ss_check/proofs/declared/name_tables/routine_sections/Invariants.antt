use Rattle.std.proofs.Common.{◌≡◌, ◌++◌, drop}
use Rattle.std.specs.Prelude.{map}
use Rattle.ss_routines.specs.View.{section_view}
use Rattle.ss_check.specs.Declarations.{routine_facts, heads}
use Rattle.ss_check.specs.ResolvedNames.{section_numbers}
use Rattle.ss_check.proofs.declared.name_tables.routine_sections.Given as goal

-- the sections that are left bring the table to the whole one
abbrev pub invariant-loop-number : goal.invariant-loop-number
invariant-loop-number l =
    l.table ++ section_numbers l.number (map routine_facts (heads (map section_view (drop l.number l.sections))))
    (λ f. f.name)
    ≡ section_numbers 0 (map routine_facts (heads (map section_view l.sections))) (λ f. f.name)
