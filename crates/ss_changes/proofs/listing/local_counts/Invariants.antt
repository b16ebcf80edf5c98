use Rattle.std.proofs.Common.{◌≡◌, ◌∷◌, [], length}
use Rattle.ss_changes.specs.Parts.{below_of, local_names}
use Rattle.ss_changes.proofs.listing.local_counts.Given as goal

abbrev pub invariant-loop-below : goal.invariant-loop-below
invariant-loop-below g l =
    l.counts.items ≡ below_of (λ n. length (local_names l.machine.input.program l.machine.state n) ∷ []) l.below
