use Rattle.std.proofs.Common.{◌≡◌, ◌++◌, drop}
use Rattle.std.specs.Prelude.{map}
use Rattle.ss_words.specs.Lists.{all_of, several_view}
use Rattle.ss_check.specs.NameKind.{Variable}
use Rattle.ss_check.specs.Facts.{fact}
use Rattle.ss_check.proofs.resolved.declarations.add_variables.Given as goal

-- the variables that are left bring the declarations to all
abbrev pub invariant-loop-name : goal.invariant-loop-name
invariant-loop-name l =
    l.kinds ++ map (λ n. fact n Variable) (map (λ n. n) (drop l.name-index l.name-items))
    ≡ l.fn.kinds ++ map (λ n. fact n Variable) (all_of (several_view (λ n. n) l.fn.names))
