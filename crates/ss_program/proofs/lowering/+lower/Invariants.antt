use Rattle.std.proofs.Common.{◌≡◌, ◌+◌, ◌*◌, drop}
use Rattle.std.specs.Prelude.{map}
use Rattle.ss_program.specs.ProgramExpr.{expr_of, term_of, factor_of, signed_of, sums_of, products_of}
use Rattle.ss_program.specs.Lowering.{lowered, lowered_term, sums_onto, products_onto}
use Rattle.ss_program.proofs.lowering.+lower.Given as goal

-- twice the size of the tree that is read, and one more if the whole tree is handed on
abbrev pub decreases-lower_sum : goal.decreases-lower_sum
decreases-lower_sum l = 2 * goal.size-lower_sum l

abbrev pub decreases-lower_before : goal.decreases-lower_before
decreases-lower_before l = 2 * goal.size-lower_before l + 1

abbrev pub decreases-lower_term : goal.decreases-lower_term
decreases-lower_term l = 2 * goal.size-lower_term l

abbrev pub decreases-lower_factor : goal.decreases-lower_factor
decreases-lower_factor l = 2 * goal.size-lower_factor l

abbrev pub decreases-lower_subscript : goal.decreases-lower_subscript
decreases-lower_subscript l = 2 * goal.size-lower_subscript l

-- with the terms that are left, the operations are those of the sum
abbrev pub invariant-lower_sum-loop-further : goal.invariant-lower_sum-loop-further
invariant-lower_sum-loop-further l =
    sums_onto l.code.items (sums_of (map signed_of (drop l.further-index l.further-items))) ≡ lowered (expr_of l.fn.e)

-- and with the factors that are left, those of the term
abbrev pub invariant-lower_term-loop-further : goal.invariant-lower_term-loop-further
invariant-lower_term-loop-further l =
    products_onto l.code.items (products_of (map factor_of (drop l.further-index l.further-items)))
    ≡ lowered_term (term_of l.fn.t)
