use Rattle.std.proofs.Common.{◌≡◌, ◌∷◌, []}
use Rattle.ss_inspect.specs.Living.{living_numbers}
use Rattle.ss_changes.specs.Parts.{below_of}
use Rattle.ss_changes.proofs.listing.living.Given as goal

abbrev pub invariant-loop-class : goal.invariant-loop-class
invariant-loop-class g l = l.living.items ≡ below_of (λ c. living_numbers l.machine.state.store c ∷ []) l.class
