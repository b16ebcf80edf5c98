use Rattle.std.proofs.Common.{◌≡◌, ◌++◌, drop}
use Rattle.ss_program.specs.ProgramSound.{AreSoundExprs}
use Rattle.ss_reads.specs.Scenes.{scope_of}
use Rattle.ss_reads.specs.SceneView.{scene_of}
use Rattle.ss_reads.specs.Places.{values_reads}
use Rattle.ss_reads.proofs.places.see_values.Given as goal

-- what those that are left name is missing
abbrev pub invariant-loop-value : goal.invariant-loop-value
invariant-loop-value g l = record {
  sound : AreSoundExprs (scope_of (scene_of l.scene)) (drop l.value-index l.value-items);
  reads : l.reads.items ++ values_reads (scene_of l.scene) (drop l.value-index l.value-items)
      ≡ l.initial.reads.items ++ values_reads (scene_of l.scene) l.values;
}
