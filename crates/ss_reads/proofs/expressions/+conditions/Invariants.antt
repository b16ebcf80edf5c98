use Rattle.std.proofs.Common.{◌≡◌, ◌++◌, drop}
use Rattle.std.specs.Prelude.{map}
use Rattle.ss_program.specs.ProgramCondition.{condition_of, conjunction_of, relation_of, conjunctions_of, relations_of}
use Rattle.ss_program.specs.ProgramSound.{AreSoundConjunctions, AreSoundRelations}
use Rattle.ss_reads.specs.Scenes.{scope_of}
use Rattle.ss_reads.specs.SceneView.{scene_of}
use Rattle.ss_reads.specs.Expressions.{condition_reads, conjunctions_reads, conjunction_reads, relations_reads}
use Rattle.ss_reads.proofs.expressions.+conditions.Given as goal

abbrev pub decreases-see_any : goal.decreases-see_any
decreases-see_any g l = goal.size-see_any g l

abbrev pub decreases-see_all : goal.decreases-see_all
decreases-see_all g l = goal.size-see_all g l

abbrev pub decreases-see_relation : goal.decreases-see_relation
decreases-see_relation g l = goal.size-see_relation g l

-- what the conjunctions that are left name is missing
abbrev pub invariant-see_any-loop-further : goal.invariant-see_any-loop-further
invariant-see_any-loop-further g l = record {
  sound : AreSoundConjunctions (scope_of (scene_of l.scene))
      (conjunctions_of (map conjunction_of (drop l.further-index l.further-items)));
  reads : l.reads.items
      ++ conjunctions_reads (scene_of l.scene) (conjunctions_of (map conjunction_of (drop l.further-index l.further-items)))
      ≡ l.fn.reads.items ++ condition_reads (scene_of l.scene) (condition_of l.fn.c);
}

-- what the relations that are left name
abbrev pub invariant-see_all-loop-further : goal.invariant-see_all-loop-further
invariant-see_all-loop-further g l = record {
  sound : AreSoundRelations (scope_of (scene_of l.scene))
      (relations_of (map relation_of (drop l.further-index l.further-items)));
  reads : l.reads.items
      ++ relations_reads (scene_of l.scene) (relations_of (map relation_of (drop l.further-index l.further-items)))
      ≡ l.fn.reads.items ++ conjunction_reads (scene_of l.scene) (conjunction_of l.fn.c);
}
