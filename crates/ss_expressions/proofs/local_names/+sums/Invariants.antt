use Rattle.std.proofs.Common.{◌≡◌, drop}
use Rattle.std.specs.Prelude.{map, ◌||◌}
use Rattle.ss_program.specs.ProgramExpr.{expr_of, exprs_of, arguments_of, term_of, factor_of, signed_of, sums_of}
use Rattle.ss_program.specs.ProgramExpr.{products_of}
use Rattle.ss_expressions.specs.LocalNames.{expr_names_local, sums_name_local, term_names_local, products_name_local}
use Rattle.ss_expressions.specs.LocalNames.{exprs_name_local}
use Rattle.ss_expressions.proofs.local_names.+sums.Given as goal

abbrev pub decreases-sum_names_local : goal.decreases-sum_names_local
decreases-sum_names_local l = goal.size-sum_names_local l

abbrev pub decreases-term_names_local : goal.decreases-term_names_local
decreases-term_names_local l = goal.size-term_names_local l

abbrev pub decreases-factor_names_local : goal.decreases-factor_names_local
decreases-factor_names_local l = goal.size-factor_names_local l

abbrev pub decreases-subscript_names_local : goal.decreases-subscript_names_local
decreases-subscript_names_local l = goal.size-subscript_names_local l

abbrev pub decreases-arguments_name_local : goal.decreases-arguments_name_local
decreases-arguments_name_local l = goal.size-arguments_name_local l

-- the terms that are left decide
abbrev pub invariant-sum_names_local-loop-further : goal.invariant-sum_names_local-loop-further
invariant-sum_names_local-loop-further l =
    sums_name_local (sums_of (map signed_of (drop l.further-index l.further-items))) ≡ expr_names_local (expr_of l.fn.e)

-- the factors that are left decide
abbrev pub invariant-term_names_local-loop-further : goal.invariant-term_names_local-loop-further
invariant-term_names_local-loop-further l =
    products_name_local (products_of (map factor_of (drop l.further-index l.further-items))) ≡ term_names_local (term_of l.fn.t)

-- the arguments that are left decide
abbrev pub invariant-arguments_name_local-loop-further : goal.invariant-arguments_name_local-loop-further
invariant-arguments_name_local-loop-further l =
    exprs_name_local (exprs_of (map expr_of (drop l.further-index l.further-items)))
    ≡ (expr_names_local (arguments_of l.fn.arguments).0 || exprs_name_local (arguments_of l.fn.arguments).1)
