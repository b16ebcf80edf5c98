use Rattle.std.proofs.Common.{◌≡◌, drop}
use Rattle.std.specs.Prelude.{map}
use Rattle.ss_program.specs.ProgramExpr.{expr_of, exprs_of, arguments_of, term_of, factor_of, signed_of, sums_of}
use Rattle.ss_program.specs.ProgramExpr.{products_of}
use Rattle.ss_faults.specs.Readings.{told_of, sums_told, term_told, products_told, arguments_told, behind}
use Rattle.ss_faults.proofs.reading.+told.Given as goal

abbrev pub decreases-sum_told : goal.decreases-sum_told
decreases-sum_told g l = goal.size-sum_told g l

abbrev pub decreases-term_told : goal.decreases-term_told
decreases-term_told g l = goal.size-term_told g l

abbrev pub decreases-factor_told : goal.decreases-factor_told
decreases-factor_told g l = goal.size-factor_told g l

abbrev pub decreases-subscript_told : goal.decreases-subscript_told
decreases-subscript_told g l = goal.size-subscript_told g l

abbrev pub decreases-arguments_told : goal.decreases-arguments_told
decreases-arguments_told g l = goal.size-arguments_told g l

-- with the terms that are left the finding is that of the expression
abbrev pub invariant-sum_told-loop-further : goal.invariant-sum_told-loop-further
invariant-sum_told-loop-further g l =
    sums_told l.machine.input.program l.machine.state l.told
    (sums_of (map signed_of (drop l.further-index l.further-items)))
    ≡ told_of l.machine.input.program l.machine.state (expr_of l.fn.e)

-- with the factors that are left, that of the term
abbrev pub invariant-term_told-loop-further : goal.invariant-term_told-loop-further
invariant-term_told-loop-further g l =
    products_told l.machine.input.program l.machine.state l.told
    (products_of (map factor_of (drop l.further-index l.further-items)))
    ≡ term_told l.machine.input.program l.machine.state (term_of l.fn.t)

-- with the arguments that are left, that of all
abbrev pub invariant-arguments_told-loop-further : goal.invariant-arguments_told-loop-further
invariant-arguments_told-loop-further g l =
    arguments_told l.machine.input.program l.machine.state l.told
    (exprs_of (map expr_of (drop l.further-index l.further-items)))
    ≡ arguments_told l.machine.input.program l.machine.state
    (behind (told_of l.machine.input.program l.machine.state (arguments_of l.fn.arguments).0))
    (arguments_of l.fn.arguments).1
