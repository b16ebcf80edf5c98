use Rattle.std.proofs.Common.{◌≡◌, ◌++◌, drop}
use Rattle.std.specs.Prelude.{map}
use Rattle.std.specs.List.{flat_map}
use Rattle.ss_routines.specs.View.{reference_view}
use Rattle.ss_check.specs.Uses.{uses_target}
use Rattle.ss_check.proofs.uses.expressions.add_targets.Given as goal

-- the targets that are left bring the uses to all
abbrev pub invariant-loop-v : goal.invariant-loop-v
invariant-loop-v l =
    l.uses ++ flat_map uses_target (map reference_view (drop l.v-index l.vs))
    ≡ l.fn.uses ++ flat_map uses_target (map reference_view l.vs)
