use Rattle.std.proofs.Common.{◌≡◌, ◌++◌}
use Rattle.ss_changes.specs.Parts.{below_of, local_part}
use Rattle.ss_changes.proofs.listing.push_locals.Given as goal

abbrev pub invariant-loop-number : goal.invariant-loop-number
invariant-loop-number l = l.parts.items ≡ l.initial.parts.items ++ below_of (local_part l.below) l.number
