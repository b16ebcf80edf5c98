use Rattle.std.proofs.Common.{◌≡◌, ◌++◌}
use Rattle.ss_store.specs.Store.{number_of}
use Rattle.ss_debug.specs.Entities.{lines_below, attribute_line}
use Rattle.ss_debug.proofs.entity_text.push_attributes.Given as goal

abbrev pub invariant-loop-attribute : goal.invariant-loop-attribute
invariant-loop-attribute g l = l.text.items ≡ l.initial.text.items
    ++ lines_below (attribute_line l.machine.input.program l.machine.state.store l.class (number_of l.x)) l.attribute
