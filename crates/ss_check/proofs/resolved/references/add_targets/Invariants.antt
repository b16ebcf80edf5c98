use Rattle.std.proofs.Common.{◌≡◌, ◌++◌, drop}
use Rattle.std.specs.Prelude.{map}
use Rattle.ss_routines.specs.View.{reference_view}
use Rattle.ss_check.specs.Resolved.{resolved_target}
use Rattle.ss_check.specs.Scope.{in_scope}
use Rattle.ss_check.proofs.resolved.references.add_targets.Given as goal

-- the targets that are left bring the list to all
abbrev pub invariant-loop-r : goal.invariant-loop-r
invariant-loop-r l =
    l.list.items ++ map (in_scope l.scope resolved_target) (map reference_view (drop l.r-index l.rs))
    ≡ l.fn.list.items ++ map (in_scope l.scope resolved_target) (map reference_view l.rs)
