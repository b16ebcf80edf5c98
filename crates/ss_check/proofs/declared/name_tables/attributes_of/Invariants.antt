use Rattle.std.proofs.Common.{◌≡◌, ◌++◌, drop}
use Rattle.ss_check.specs.FactsView.{facts_view}
use Rattle.ss_check.specs.KindView.{kind_view}
use Rattle.ss_check.specs.NameKinds.{is_attribute_of}
use Rattle.ss_check.specs.ResolvedNames.{names_where}
use Rattle.ss_check.proofs.declared.name_tables.attributes_of.Given as goal

-- the declarations that are left bring the names to all
abbrev pub invariant-loop-fact : goal.invariant-loop-fact
invariant-loop-fact l =
    l.names.items ++ names_where (is_attribute_of l.class) (facts_view kind_view (drop l.fact-index l.kinds))
    ≡ names_where (is_attribute_of l.class) (facts_view kind_view l.kinds)
