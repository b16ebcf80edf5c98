use Rattle.std.proofs.Common.{◌≡◌, ◌++◌, drop}
use Rattle.std.specs.Prelude.{map}
use Rattle.ss_words.specs.Lists.{all_of, several_view}
use Rattle.ss_check.specs.NameKind.{Attribute}
use Rattle.ss_check.specs.Facts.{fact}
use Rattle.ss_check.proofs.resolved.declarations.add_attributes.Given as goal

-- the attributes that are left bring the declarations to all
abbrev pub invariant-loop-name : goal.invariant-loop-name
invariant-loop-name l =
    l.kinds ++ map (λ n. fact n (Attribute l.class)) (map (λ n. n) (drop l.name-index l.name-items))
    ≡ l.fn.kinds ++ map (λ n. fact n (Attribute l.class)) (all_of (several_view (λ n. n) l.fn.names))
