use Rattle.std.proofs.Common.{◌≡◌, ◌++◌, drop}
use Rattle.ss_program.specs.ProgramSound.{AreTargets}
use Rattle.ss_reads.specs.Scenes.{scope_of}
use Rattle.ss_reads.specs.SceneView.{scene_of}
use Rattle.ss_reads.specs.Places.{targets_reads}
use Rattle.ss_reads.proofs.places.see_targets.Given as goal

-- what those that are left name is missing
abbrev pub invariant-loop-target : goal.invariant-loop-target
invariant-loop-target g l = record {
  sound : AreTargets (scope_of (scene_of l.scene)) (drop l.target-index l.target-items);
  reads : l.reads.items ++ targets_reads (scene_of l.scene) (drop l.target-index l.target-items)
      ≡ l.initial.reads.items ++ targets_reads (scene_of l.scene) l.targets;
}
