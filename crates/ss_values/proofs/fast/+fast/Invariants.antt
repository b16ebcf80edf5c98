use Rattle.std.proofs.Common.{◌≡◌, ◌+◌, ◌*◌, drop}
use Rattle.std.specs.Prelude.{map}
use Rattle.ss_program.specs.ProgramExpr.{expr_of, exprs_of, arguments_of, term_of, factor_of, signed_of, sums_of}
use Rattle.ss_program.specs.ProgramExpr.{products_of, greatest, least}
use Rattle.ss_program.specs.ProgramSound.{IsSoundSums, IsSoundProducts, AreSoundArguments}
use Rattle.ss_values.specs.Values.{value_of, sums_value, term_value, products_value, factor_value, greatest_value}
use Rattle.ss_values.specs.Values.{least_value}
use Rattle.ss_values.specs.Seen.{view_readings, scope_of}
use Rattle.ss_values.proofs.fast.+fast.Given as goal

-- twice the size of the tree that is read, and one more if the whole tree is handed on
abbrev pub decreases-entity_or_none : goal.decreases-entity_or_none
decreases-entity_or_none g l = 2 * goal.size-entity_or_none g l

abbrev pub decreases-factor_or_none : goal.decreases-factor_or_none
decreases-factor_or_none g l = 2 * goal.size-factor_or_none g l + 1

abbrev pub decreases-attribute_or_none : goal.decreases-attribute_or_none
decreases-attribute_or_none g l = 2 * goal.size-attribute_or_none g l

abbrev pub decreases-far_factor_or_none : goal.decreases-far_factor_or_none
decreases-far_factor_or_none g l = 2 * goal.size-far_factor_or_none g l

abbrev pub decreases-greatest_or_none : goal.decreases-greatest_or_none
decreases-greatest_or_none g l = 2 * goal.size-greatest_or_none g l

abbrev pub decreases-least_or_none : goal.decreases-least_or_none
decreases-least_or_none g l = 2 * goal.size-least_or_none g l

abbrev pub decreases-sum_or_none : goal.decreases-sum_or_none
decreases-sum_or_none g l = 2 * goal.size-sum_or_none g l + 1

abbrev pub decreases-long_sum_or_none : goal.decreases-long_sum_or_none
decreases-long_sum_or_none g l = 2 * goal.size-long_sum_or_none g l

abbrev pub decreases-term_or_none : goal.decreases-term_or_none
decreases-term_or_none g l = 2 * goal.size-term_or_none g l

-- the terms that are left bring the total to the value
abbrev pub invariant-long_sum_or_none-loop-further : goal.invariant-long_sum_or_none-loop-further
invariant-long_sum_or_none-loop-further g l = record {
  sound : IsSoundSums (scope_of (view_readings l.view))
      (sums_of (map signed_of (drop l.further-index l.further-items)));
  value : sums_value (view_readings l.view) l.total (sums_of (map signed_of (drop l.further-index l.further-items)))
      ≡ value_of (view_readings l.view) (expr_of l.fn.e);
}

-- the factors that are left bring the total to the value
abbrev pub invariant-term_or_none-loop-further : goal.invariant-term_or_none-loop-further
invariant-term_or_none-loop-further g l = record {
  sound : IsSoundProducts (scope_of (view_readings l.view))
      (products_of (map factor_of (drop l.further-index l.further-items)));
  value : products_value (view_readings l.view) l.total
      (products_of (map factor_of (drop l.further-index l.further-items)))
      ≡ term_value (view_readings l.view) (term_of l.fn.t);
}

-- the arguments that are left bring the greatest to the value
abbrev pub invariant-greatest_or_none-loop-further : goal.invariant-greatest_or_none-loop-further
invariant-greatest_or_none-loop-further g l = record {
  sound : AreSoundArguments (scope_of (view_readings l.view))
      (exprs_of (map expr_of (drop l.further-index l.further-items)));
  value : greatest_value (view_readings l.view) l.greatest
      (exprs_of (map expr_of (drop l.further-index l.further-items)))
      ≡ factor_value (view_readings l.view) (greatest (arguments_of l.fn.arguments).0 (arguments_of l.fn.arguments).1);
}

-- and the least
abbrev pub invariant-least_or_none-loop-further : goal.invariant-least_or_none-loop-further
invariant-least_or_none-loop-further g l = record {
  sound : AreSoundArguments (scope_of (view_readings l.view))
      (exprs_of (map expr_of (drop l.further-index l.further-items)));
  value : least_value (view_readings l.view) l.least (exprs_of (map expr_of (drop l.further-index l.further-items)))
      ≡ factor_value (view_readings l.view) (least (arguments_of l.fn.arguments).0 (arguments_of l.fn.arguments).1);
}
