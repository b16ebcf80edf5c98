use Rattle.std.proofs.Common.{◌≡◌, ◌++◌, drop}
use Rattle.ss_program.specs.ProgramSound.{AreSoundQualifiers}
use Rattle.ss_reads.specs.Scenes.{scope_of}
use Rattle.ss_reads.specs.SceneView.{scene_of}
use Rattle.ss_reads.specs.Places.{qualifiers_reads}
use Rattle.ss_reads.proofs.control_flow.see_qualifiers.Given as goal

-- what those that are left name is missing
abbrev pub invariant-loop-qualifier : goal.invariant-loop-qualifier
invariant-loop-qualifier g l = record {
  sound : AreSoundQualifiers (scope_of (scene_of l.scene)) (drop l.qualifier-index l.qualifier-items);
  reads : l.reads.items ++ qualifiers_reads (scene_of l.scene) (drop l.qualifier-index l.qualifier-items)
      ≡ l.initial.reads.items ++ qualifiers_reads (scene_of l.scene) l.qualifiers;
}
