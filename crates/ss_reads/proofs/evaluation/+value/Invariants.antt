use Rattle.std.proofs.Common.{◌≡◌, drop}
use Rattle.std.specs.Prelude.{map}
use Rattle.ss_program.specs.ProgramExpr.{expr_of, exprs_of, arguments_of, term_of, factor_of, signed_of, sums_of}
use Rattle.ss_program.specs.ProgramExpr.{products_of, greatest, least}
use Rattle.ss_program.specs.ProgramSound.{IsSoundSums, IsSoundProducts, AreSoundArguments}
use Rattle.ss_values.specs.Values.{value_of, sums_value, term_value, products_value, factor_value, greatest_value}
use Rattle.ss_values.specs.Values.{least_value}
use Rattle.ss_reads.specs.Scenes.{sources, scope_of}
use Rattle.ss_reads.specs.SceneView.{scene_of}
use Rattle.ss_reads.proofs.evaluation.+value.Given as goal

abbrev pub decreases-sum_value : goal.decreases-sum_value
decreases-sum_value g l = goal.size-sum_value g l

abbrev pub decreases-term_value : goal.decreases-term_value
decreases-term_value g l = goal.size-term_value g l

abbrev pub decreases-factor_value : goal.decreases-factor_value
decreases-factor_value g l = goal.size-factor_value g l

abbrev pub decreases-subscript_value : goal.decreases-subscript_value
decreases-subscript_value g l = goal.size-subscript_value g l

abbrev pub decreases-greatest_value : goal.decreases-greatest_value
decreases-greatest_value g l = goal.size-greatest_value g l

abbrev pub decreases-least_value : goal.decreases-least_value
decreases-least_value g l = goal.size-least_value g l

-- the terms that are left bring the total to the value
abbrev pub invariant-sum_value-loop-further : goal.invariant-sum_value-loop-further
invariant-sum_value-loop-further g l = record {
  sound : IsSoundSums (scope_of (scene_of l.scene)) (sums_of (map signed_of (drop l.further-index l.further-items)));
  value : sums_value (sources (scene_of l.scene)) l.total
      (sums_of (map signed_of (drop l.further-index l.further-items)))
      ≡ value_of (sources (scene_of l.scene)) (expr_of l.fn.e);
}

-- the factors that are left bring the total to the value
abbrev pub invariant-term_value-loop-further : goal.invariant-term_value-loop-further
invariant-term_value-loop-further g l = record {
  sound : IsSoundProducts (scope_of (scene_of l.scene))
      (products_of (map factor_of (drop l.further-index l.further-items)));
  value : products_value (sources (scene_of l.scene)) l.total
      (products_of (map factor_of (drop l.further-index l.further-items)))
      ≡ term_value (sources (scene_of l.scene)) (term_of l.fn.t);
}

-- the arguments that are left bring the greatest to the value
abbrev pub invariant-greatest_value-loop-further : goal.invariant-greatest_value-loop-further
invariant-greatest_value-loop-further g l = record {
  sound : AreSoundArguments (scope_of (scene_of l.scene))
      (exprs_of (map expr_of (drop l.further-index l.further-items)));
  value : greatest_value (sources (scene_of l.scene)) l.greatest
      (exprs_of (map expr_of (drop l.further-index l.further-items)))
      ≡ factor_value (sources (scene_of l.scene)) (greatest (arguments_of l.fn.arguments).0 (arguments_of l.fn.arguments).1);
}

-- and the least
abbrev pub invariant-least_value-loop-further : goal.invariant-least_value-loop-further
invariant-least_value-loop-further g l = record {
  sound : AreSoundArguments (scope_of (scene_of l.scene))
      (exprs_of (map expr_of (drop l.further-index l.further-items)));
  value : least_value (sources (scene_of l.scene)) l.least
      (exprs_of (map expr_of (drop l.further-index l.further-items)))
      ≡ factor_value (sources (scene_of l.scene)) (least (arguments_of l.fn.arguments).0 (arguments_of l.fn.arguments).1);
}
