use Rattle.std.proofs.Common.{◌≡◌, ◌++◌, ◌+◌, ◌*◌, drop}
use Rattle.std.specs.Prelude.{map}
use Rattle.ss_program.specs.ProgramExpr.{expr_of, exprs_of, arguments_of, term_of, factor_of, signed_of, sums_of}
use Rattle.ss_program.specs.ProgramExpr.{products_of}
use Rattle.ss_reads.specs.Written.{expr_text, sums_text, term_text, products_text, exprs_text}
use Rattle.ss_reads.proofs.written.+written.Given as goal

-- three times the size of the tree that is written, and more if the whole tree is handed on
abbrev pub decreases-push_sum : goal.decreases-push_sum
decreases-push_sum l = 3 * goal.size-push_sum l

abbrev pub decreases-push_term : goal.decreases-push_term
decreases-push_term l = 3 * goal.size-push_term l

abbrev pub decreases-push_closed : goal.decreases-push_closed
decreases-push_closed l = 3 * goal.size-push_closed l + 1

abbrev pub decreases-push_arguments : goal.decreases-push_arguments
decreases-push_arguments l = 3 * goal.size-push_arguments l

abbrev pub decreases-push_function : goal.decreases-push_function
decreases-push_function l = 3 * goal.size-push_function l + 1

abbrev pub decreases-push_factor : goal.decreases-push_factor
decreases-push_factor l = 3 * goal.size-push_factor l

abbrev pub decreases-push_subscript : goal.decreases-push_subscript
decreases-push_subscript l = 3 * goal.size-push_subscript l

abbrev pub decreases-push_reference : goal.decreases-push_reference
decreases-push_reference l = 3 * goal.size-push_reference l + 1

-- the text of the terms that are left is missing
abbrev pub invariant-push_sum-loop-further : goal.invariant-push_sum-loop-further
invariant-push_sum-loop-further l =
    l.text.items ++ sums_text l.program l.section (sums_of (map signed_of (drop l.further-index l.further-items)))
    ≡ l.fn.text.items ++ expr_text l.program l.section (expr_of l.fn.e)

-- that of the factors that are left
abbrev pub invariant-push_term-loop-further : goal.invariant-push_term-loop-further
invariant-push_term-loop-further l =
    l.text.items ++ products_text l.program l.section (products_of (map factor_of (drop l.further-index l.further-items)))
    ≡ l.fn.text.items ++ term_text l.program l.section (term_of l.fn.t)

-- that of the arguments that are left
abbrev pub invariant-push_arguments-loop-further : goal.invariant-push_arguments-loop-further
invariant-push_arguments-loop-further l =
    l.text.items ++ exprs_text l.program l.section (exprs_of (map expr_of (drop l.further-index l.further-items)))
    ≡ l.fn.text.items ++ (expr_text l.program l.section (arguments_of l.fn.arguments).0
    ++ exprs_text l.program l.section (arguments_of l.fn.arguments).1)
