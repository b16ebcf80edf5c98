use Rattle.std.proofs.Common.{◌≡◌, ◌++◌, drop}
use Rattle.std.specs.Prelude.{map}
use Rattle.std.specs.List.{flat_map}
use Rattle.ss_routines.specs.View.{qualifier_view}
use Rattle.ss_check.specs.Uses.{uses_condition}
use Rattle.ss_check.proofs.uses.places.add_qualifiers.Given as goal

-- the qualifiers that are left bring the uses to all
abbrev pub invariant-loop-qualifier : goal.invariant-loop-qualifier
invariant-loop-qualifier l =
    l.uses ++ flat_map (λ q. uses_condition q.condition) (map qualifier_view (drop l.qualifier-index l.all))
    ≡ l.fn.uses ++ flat_map (λ q. uses_condition q.condition) (map qualifier_view l.all)
