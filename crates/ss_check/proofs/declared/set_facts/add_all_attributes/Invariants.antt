use Rattle.std.proofs.Common.{◌≡◌, ◌++◌, drop}
use Rattle.std.specs.Prelude.{map}
use Rattle.std.specs.List.{flat_map}
use Rattle.ss_words.specs.Lists.{all_of, several_view}
use Rattle.ss_preamble.specs.View.{clause_view}
use Rattle.ss_check.specs.Declarations.{attribute_classes}
use Rattle.ss_check.proofs.declared.set_facts.add_all_attributes.Given as goal

-- the clauses that are left bring the classes to all
abbrev pub invariant-loop-clause : goal.invariant-loop-clause
invariant-loop-clause l =
    l.attributes ++ flat_map (attribute_classes l.class) (map clause_view (drop l.clause-index l.clause-items))
    ≡ l.fn.attributes ++ flat_map (attribute_classes l.class) (all_of (several_view clause_view l.fn.clauses))
