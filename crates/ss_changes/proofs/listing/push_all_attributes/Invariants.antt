use Rattle.std.proofs.Common.{◌≡◌, ◌++◌, [], slice_index_or}
use Rattle.ss_changes.specs.Parts.{below_of, each_of, attributes_of}
use Rattle.ss_changes.proofs.listing.push_all_attributes.Given as goal

abbrev pub invariant-loop-class : goal.invariant-loop-class
invariant-loop-class l =
    l.parts.items ≡ l.initial.parts.items
    ++ below_of (λ c. each_of (attributes_of l.program c) (slice_index_or l.living c [])) l.class
