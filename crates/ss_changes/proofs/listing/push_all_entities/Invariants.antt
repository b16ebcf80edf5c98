use Rattle.std.proofs.Common.{◌≡◌, ◌++◌, [], slice_index_or}
use Rattle.ss_changes.specs.Parts.{below_of, each_of, entity_part}
use Rattle.ss_changes.proofs.listing.push_all_entities.Given as goal

abbrev pub invariant-loop-class : goal.invariant-loop-class
invariant-loop-class l =
    l.parts.items ≡ l.initial.parts.items
    ++ below_of (λ c. each_of (entity_part c) (slice_index_or l.earlier c [])
    ++ each_of (entity_part c) (slice_index_or l.later c [])) l.class
