use Rattle.std.proofs.Common.{◌≡◌, ◌++◌, drop}
use Rattle.std.specs.Prelude.{map}
use Rattle.ss_routines.specs.View.{expr_view}
use Rattle.ss_check.specs.Resolved.{resolved_expr}
use Rattle.ss_check.specs.Scope.{in_scope}
use Rattle.ss_check.proofs.resolved.expressions.add_values.Given as goal

-- the expressions that are left bring the list to all
abbrev pub invariant-loop-e : goal.invariant-loop-e
invariant-loop-e l =
    l.list.items ++ map (in_scope l.scope resolved_expr) (map expr_view (drop l.e-index l.es))
    ≡ l.fn.list.items ++ map (in_scope l.scope resolved_expr) (map expr_view l.es)
