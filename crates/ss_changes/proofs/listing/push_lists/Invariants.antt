use Rattle.std.proofs.Common.{◌≡◌, ◌++◌, drop}
use Rattle.ss_changes.specs.Parts.{each_of, list_part}
use Rattle.ss_changes.proofs.listing.push_lists.Given as goal

abbrev pub invariant-loop-owner : goal.invariant-loop-owner
invariant-loop-owner l =
    l.parts.items ++ each_of (list_part l.set) (drop l.owner-index l.owners)
    ≡ l.initial.parts.items ++ each_of (list_part l.set) l.owners
