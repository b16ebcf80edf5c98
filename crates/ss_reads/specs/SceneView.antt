-- What the code has of a scene, as pure data.
use Rattle.ss_reads.specs.declared.scene.Scene.{Scene as Code}
use Rattle.ss_reads.specs.Scenes.{Scene}

-- a scene
abbrev pub scene_of : {S : Type 0} → Code S → Scene
scene_of s = record {
  program = s.machine.now.input.program;
  state = s.machine.now.state;
  given = s.given;
}
