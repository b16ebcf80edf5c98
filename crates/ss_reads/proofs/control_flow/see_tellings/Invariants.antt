use Rattle.std.proofs.Common.{◌≡◌, ◌++◌, drop}
use Rattle.ss_program.specs.ProgramSound.{AreSoundTellings}
use Rattle.ss_reads.specs.Scenes.{scope_of}
use Rattle.ss_reads.specs.SceneView.{scene_of}
use Rattle.ss_reads.specs.Places.{tellings_reads}
use Rattle.ss_reads.proofs.control_flow.see_tellings.Given as goal

-- what those that are left name is missing
abbrev pub invariant-loop-telling : goal.invariant-loop-telling
invariant-loop-telling g l = record {
  sound : AreSoundTellings (scope_of (scene_of l.scene)) (drop l.telling-index l.telling-items);
  reads : l.reads.items ++ tellings_reads (scene_of l.scene) (drop l.telling-index l.telling-items)
      ≡ l.initial.reads.items ++ tellings_reads (scene_of l.scene) l.tellings;
}
