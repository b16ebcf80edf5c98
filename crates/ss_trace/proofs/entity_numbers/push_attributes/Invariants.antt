use Rattle.std.proofs.Common.{◌≡◌, ◌++◌}
use Rattle.ss_store.specs.Store.{number_of}
use Rattle.ss_trace.specs.EntityNumbers.{numbers_below, attribute_numbers}
use Rattle.ss_trace.proofs.entity_numbers.push_attributes.Given as goal

abbrev pub invariant-loop-attribute : goal.invariant-loop-attribute
invariant-loop-attribute g l = l.numbers.items ≡ l.initial.numbers.items
    ++ numbers_below (attribute_numbers l.machine.state.store l.class (number_of l.x)) l.attribute
