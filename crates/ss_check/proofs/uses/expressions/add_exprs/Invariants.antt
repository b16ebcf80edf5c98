use Rattle.std.proofs.Common.{◌≡◌, ◌++◌, drop}
use Rattle.std.specs.Prelude.{map}
use Rattle.std.specs.List.{flat_map}
use Rattle.ss_routines.specs.View.{expr_view}
use Rattle.ss_check.specs.Uses.{uses_expr}
use Rattle.ss_check.proofs.uses.expressions.add_exprs.Given as goal

-- the expressions that are left bring the uses to all
abbrev pub invariant-loop-e : goal.invariant-loop-e
invariant-loop-e l =
    l.uses ++ flat_map uses_expr (map expr_view (drop l.e-index l.es))
    ≡ l.fn.uses ++ flat_map uses_expr (map expr_view l.es)
