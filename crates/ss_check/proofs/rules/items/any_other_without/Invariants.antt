use Rattle.std.proofs.Common.{◌≡◌, ◌&&◌, drop, not}
use Rattle.std.specs.List.{list_any}
use Rattle.ss_check.specs.Facts.{fact_of, is_among, names_of}
use Rattle.ss_check.specs.NameKinds.{names_set}
use Rattle.ss_check.proofs.rules.items.any_other_without.Given as goal

-- no set so far is one
abbrev pub invariant-loop-set : goal.invariant-loop-set
invariant-loop-set g l =
    list_any (λ s. not (names_set (fact_of l.kinds s)) && not (is_among s (names_of l.facts))) (drop l.set-index l.sets)
    ≡ list_any (λ s. not (names_set (fact_of l.kinds s)) && not (is_among s (names_of l.facts))) l.sets
