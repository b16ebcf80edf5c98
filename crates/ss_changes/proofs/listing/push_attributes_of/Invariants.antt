use Rattle.std.proofs.Common.{◌≡◌, ◌++◌, drop}
use Rattle.ss_changes.specs.Parts.{each_of, attributes_of}
use Rattle.ss_changes.proofs.listing.push_attributes_of.Given as goal

abbrev pub invariant-loop-entity : goal.invariant-loop-entity
invariant-loop-entity l =
    l.parts.items ++ each_of (attributes_of l.program l.class) (drop l.entity-index l.entities)
    ≡ l.initial.parts.items ++ each_of (attributes_of l.program l.class) l.entities
