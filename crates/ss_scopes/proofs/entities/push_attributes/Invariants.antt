use Rattle.std.proofs.Common.{◌≡◌, ◌++◌}
use Rattle.ss_debug.specs.Entities.{lines_below}
use Rattle.ss_scopes.specs.Entities.{attribute_item}
use Rattle.ss_scopes.proofs.entities.push_attributes.Given as goal

abbrev pub invariant-loop-attribute : goal.invariant-loop-attribute
invariant-loop-attribute g l =
    l.out.items ≡ l.fn.out.items
    ++ lines_below (attribute_item l.machine.input.program l.machine.state.store l.class l.number) l.attribute
