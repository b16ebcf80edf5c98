use Rattle.std.proofs.Common.{◌≡◌, ◌++◌, ◌+◌, ◌*◌, drop}
use Rattle.std.specs.Prelude.{map}
use Rattle.ss_program.specs.ProgramExpr.{expr_of, exprs_of, arguments_of, term_of, factor_of, signed_of, sums_of}
use Rattle.ss_program.specs.ProgramExpr.{products_of}
use Rattle.ss_program.specs.ProgramSound.{IsSoundSums, IsSoundProducts, AreSoundArguments}
use Rattle.ss_reads.specs.Scenes.{scope_of}
use Rattle.ss_reads.specs.SceneView.{scene_of}
use Rattle.ss_reads.specs.Expressions.{expr_reads, sums_reads, term_reads, products_reads, exprs_reads}
use Rattle.ss_reads.proofs.expressions.+expressions.Given as goal

-- twice the size of the tree that is read, and one more if its subscript is read alone
abbrev pub decreases-see_item : goal.decreases-see_item
decreases-see_item g l = 2 * goal.size-see_item g l + 1

abbrev pub decreases-see_subscript : goal.decreases-see_subscript
decreases-see_subscript g l = 2 * goal.size-see_subscript g l

abbrev pub decreases-see_sum : goal.decreases-see_sum
decreases-see_sum g l = 2 * goal.size-see_sum g l

abbrev pub decreases-see_term : goal.decreases-see_term
decreases-see_term g l = 2 * goal.size-see_term g l

abbrev pub decreases-see_factor : goal.decreases-see_factor
decreases-see_factor g l = 2 * goal.size-see_factor g l

abbrev pub decreases-see_arguments : goal.decreases-see_arguments
decreases-see_arguments g l = 2 * goal.size-see_arguments g l

-- what the terms that are left name is missing
abbrev pub invariant-see_sum-loop-further : goal.invariant-see_sum-loop-further
invariant-see_sum-loop-further g l = record {
  sound : IsSoundSums (scope_of (scene_of l.scene)) (sums_of (map signed_of (drop l.further-index l.further-items)));
  reads : l.reads.items ++ sums_reads (scene_of l.scene) (sums_of (map signed_of (drop l.further-index l.further-items)))
      ≡ l.fn.reads.items ++ expr_reads (scene_of l.scene) (expr_of l.fn.e);
}

-- what the factors that are left name
abbrev pub invariant-see_term-loop-further : goal.invariant-see_term-loop-further
invariant-see_term-loop-further g l = record {
  sound : IsSoundProducts (scope_of (scene_of l.scene))
      (products_of (map factor_of (drop l.further-index l.further-items)));
  reads : l.reads.items
      ++ products_reads (scene_of l.scene) (products_of (map factor_of (drop l.further-index l.further-items)))
      ≡ l.fn.reads.items ++ term_reads (scene_of l.scene) (term_of l.fn.t);
}

-- what the arguments that are left name
abbrev pub invariant-see_arguments-loop-further : goal.invariant-see_arguments-loop-further
invariant-see_arguments-loop-further g l = record {
  sound : AreSoundArguments (scope_of (scene_of l.scene))
      (exprs_of (map expr_of (drop l.further-index l.further-items)));
  reads : l.reads.items
      ++ exprs_reads (scene_of l.scene) (exprs_of (map expr_of (drop l.further-index l.further-items)))
      ≡ l.fn.reads.items ++ (expr_reads (scene_of l.scene) (arguments_of l.fn.arguments).0
      ++ exprs_reads (scene_of l.scene) (arguments_of l.fn.arguments).1);
}
