use Rattle.std.proofs.Common.{◌≡◌, ◌++◌, drop}
use Rattle.ss_changes.specs.Parts.{each_of, entity_part}
use Rattle.ss_changes.proofs.listing.push_entities.Given as goal

abbrev pub invariant-loop-entity : goal.invariant-loop-entity
invariant-loop-entity l =
    l.parts.items ++ each_of (entity_part l.class) (drop l.entity-index l.entities)
    ≡ l.initial.parts.items ++ each_of (entity_part l.class) l.entities
