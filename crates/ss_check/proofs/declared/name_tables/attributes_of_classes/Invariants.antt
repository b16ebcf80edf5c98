use Rattle.std.proofs.Common.{◌≡◌, ◌++◌, drop}
use Rattle.std.specs.Prelude.{map}
use Rattle.ss_check.specs.FactsView.{facts_view}
use Rattle.ss_check.specs.KindView.{kind_view}
use Rattle.ss_check.specs.NameKinds.{is_attribute_of}
use Rattle.ss_check.specs.ResolvedNames.{names_where}
use Rattle.ss_check.proofs.declared.name_tables.attributes_of_classes.Given as goal

-- the classes that are left bring the tables to all
abbrev pub invariant-loop-class : goal.invariant-loop-class
invariant-loop-class l =
    map (λ t. t.items) l.tables.items
    ++ map (λ c. names_where (is_attribute_of c) (facts_view kind_view l.kinds)) (drop l.class-index l.classes)
    ≡ map (λ c. names_where (is_attribute_of c) (facts_view kind_view l.kinds)) l.classes
