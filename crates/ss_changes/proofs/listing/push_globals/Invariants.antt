use Rattle.std.proofs.Common.{◌≡◌, ◌++◌}
use Rattle.ss_changes.specs.Parts.{below_of, global_part}
use Rattle.ss_changes.proofs.listing.push_globals.Given as goal

abbrev pub invariant-loop-number : goal.invariant-loop-number
invariant-loop-number l = l.parts.items ≡ l.initial.parts.items ++ below_of global_part l.number
