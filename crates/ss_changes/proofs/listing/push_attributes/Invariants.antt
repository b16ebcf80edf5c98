use Rattle.std.proofs.Common.{◌≡◌, ◌++◌}
use Rattle.ss_changes.specs.Parts.{below_of, attribute_part}
use Rattle.ss_changes.proofs.listing.push_attributes.Given as goal

abbrev pub invariant-loop-attribute : goal.invariant-loop-attribute
invariant-loop-attribute l =
    l.parts.items ≡ l.initial.parts.items ++ below_of (attribute_part l.class l.entity) l.attribute
