use Rattle.std.proofs.Common.{◌≡◌, take}
use Rattle.std.specs.Prelude.{map}
use Rattle.ss_routines.specs.View.{expr_view, factor_view, added_view}
use Rattle.ss_program.specs.ProgramExpr.{expr_of, factor_of, signed_of}
use Rattle.ss_check.specs.Resolved.{resolved_expr, resolved_factor}
use Rattle.ss_check.specs.Scope.{in_scope}
use Rattle.ss_check.proofs.TreeParts.{resolved_signed}
use Rattle.ss_check.proofs.resolved.expressions.+resolve.Given as goal

abbrev pub decreases-resolve_sum : goal.decreases-resolve_sum
decreases-resolve_sum l = goal.size-resolve_sum l

abbrev pub decreases-resolve_term : goal.decreases-resolve_term
decreases-resolve_term l = goal.size-resolve_term l

abbrev pub decreases-resolve_factor : goal.decreases-resolve_factor
decreases-resolve_factor l = goal.size-resolve_factor l

abbrev pub decreases-resolve_application : goal.decreases-resolve_application
decreases-resolve_application l = goal.size-resolve_application l

-- the terms so far
abbrev pub invariant-resolve_sum-loop-further : goal.invariant-resolve_sum-loop-further
invariant-resolve_sum-loop-further l =
    map signed_of l.more.items
    ≡ map (λ a. in_scope l.scope resolved_signed (added_view a)) (take l.further-index l.further-items)

-- the factors so far
abbrev pub invariant-resolve_term-loop-further : goal.invariant-resolve_term-loop-further
invariant-resolve_term-loop-further l =
    map factor_of l.more.items
    ≡ map (λ f. in_scope l.scope resolved_factor (factor_view f)) (take l.further-index l.further-items)

-- the arguments so far
abbrev pub invariant-resolve_application-loop-other : goal.invariant-resolve_application-loop-other
invariant-resolve_application-loop-other l =
    map expr_of l.more.items
    ≡ map (λ e. in_scope l.scope resolved_expr (expr_view e)) (take l.other-index l.other-items)
