use Rattle.std.proofs.Common.{◌≡◌, ◌++◌, drop}
use Rattle.std.specs.Prelude.{map}
use Rattle.std.specs.List.{flat_map}
use Rattle.ss_routines.specs.View.{computed_view}
use Rattle.ss_check.specs.Uses.{uses_target}
use Rattle.ss_check.proofs.uses.places.add_computed.Given as goal

-- the targets that are left bring the uses to all
abbrev pub invariant-loop-computed : goal.invariant-loop-computed
invariant-loop-computed l =
    l.uses ++ flat_map (λ t. uses_target t.target) (map computed_view (drop l.computed-index l.targets))
    ≡ l.fn.uses ++ flat_map (λ t. uses_target t.target) (map computed_view l.targets)
