use Rattle.std.proofs.Common.{◌≡◌, ◌++◌, drop}
use Rattle.std.specs.Prelude.{map}
use Rattle.std.specs.List.{flat_map}
use Rattle.ss_words.specs.Lists.{all_of, several_view}
use Rattle.ss_check.specs.NameKinds.{set_facts}
use Rattle.ss_check.proofs.resolved.declarations.add_sets.Given as goal

-- the sets that are left bring the declarations to all
abbrev pub invariant-loop-set : goal.invariant-loop-set
invariant-loop-set l =
    l.kinds ++ flat_map set_facts (map (λ n. n) (drop l.set-index l.set-items))
    ≡ l.fn.kinds ++ flat_map set_facts (all_of (several_view (λ n. n) l.fn.sets))
