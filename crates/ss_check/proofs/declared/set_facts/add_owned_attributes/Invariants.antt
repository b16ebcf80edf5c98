use Rattle.std.proofs.Common.{◌≡◌, ◌++◌, drop}
use Rattle.std.specs.Prelude.{map}
use Rattle.ss_preamble.specs.View.{clause_view}
use Rattle.ss_check.specs.Declarations.{attribute_classes}
use Rattle.ss_check.proofs.declared.set_facts.add_owned_attributes.Given as goal

-- the names that are left bring the classes to all
abbrev pub invariant-loop-name : goal.invariant-loop-name
invariant-loop-name l =
    l.attributes ++ map (λ n. l.class) (map (λ n. n) (drop l._name-index l._name-items))
    ≡ l.fn.attributes ++ attribute_classes l.class (clause_view l.fn.clause)
