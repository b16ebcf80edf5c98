use Rattle.std.proofs.Common.{◌≡◌, ◌++◌}
use Rattle.ss_debug.specs.Entities.{lines_below}
use Rattle.ss_scopes.specs.Sets.{class_item}
use Rattle.ss_scopes.proofs.sets.push_classes.Given as goal

abbrev pub invariant-loop-class : goal.invariant-loop-class
invariant-loop-class g l =
    l.out.items ≡ l.fn.out.items
    ++ lines_below (class_item l.machine.input.program l.machine.state.store) l.class
