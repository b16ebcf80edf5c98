use Rattle.std.proofs.Common.{◌≡◌, ◌∷◌, []}
use Rattle.ss_changes.specs.Parts.{below_of}
use Rattle.ss_changes.specs.Snapshots.{frame_noted}
use Rattle.ss_changes.proofs.snapshot.frames_noted.Given as goal

abbrev pub invariant-loop-below : goal.invariant-loop-below
invariant-loop-below g l =
    l.frames.items ≡ below_of (λ n. frame_noted l.machine.input.program l.machine.state n ∷ []) l.below
