use Rattle.std.proofs.Common.{◌≡◌, ◌++◌, drop}
use Rattle.std.specs.Prelude.{map, Some}
use Rattle.std.specs.List.{flat_map}
use Rattle.ss_words.specs.Lists.{all_of, several_view}
use Rattle.ss_check.specs.NameKinds.{class_facts}
use Rattle.ss_check.proofs.resolved.declarations.add_classes.Given as goal

-- the classes that are left bring the declarations to all
abbrev pub invariant-loop-class : goal.invariant-loop-class
invariant-loop-class l =
    l.kinds ++ flat_map (class_facts (Some l.heading)) (map (λ n. n) (drop l.class-index l.class-items))
    ≡ l.fn.kinds ++ flat_map (class_facts (Some l.heading)) (all_of (several_view (λ n. n) l.fn.classes))
