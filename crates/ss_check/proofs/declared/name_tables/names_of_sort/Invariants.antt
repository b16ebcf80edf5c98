use Rattle.std.proofs.Common.{◌≡◌, drop}
use Rattle.std.specs.List.{fold}
use Rattle.ss_program.specs.NameIndex.{with_name}
use Rattle.ss_check.specs.FactsView.{facts_view}
use Rattle.ss_check.specs.KindView.{kind_view}
use Rattle.ss_check.specs.ResolvedNames.{each_of, names_where}
use Rattle.ss_check.specs.Sorts.{belongs}
use Rattle.ss_check.proofs.declared.name_tables.names_of_sort.Given as goal

-- the declarations that are left bring the table to the whole one
abbrev pub invariant-loop-fact : goal.invariant-loop-fact
invariant-loop-fact l =
    fold with_name l.table (names_where (belongs l.sort) (facts_view kind_view (drop l.fact-index l.kinds)))
    ≡ each_of (belongs l.sort) (facts_view kind_view l.kinds)
