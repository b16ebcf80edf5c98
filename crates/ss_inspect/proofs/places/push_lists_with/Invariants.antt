use Rattle.std.proofs.Common.{◌≡◌, ◌++◌}
use Rattle.ss_store.specs.Store.{number_of}
use Rattle.ss_debug.specs.Entities.{lines_below}
use Rattle.ss_inspect.specs.Lists.{class_lists_with}
use Rattle.ss_inspect.proofs.places.push_lists_with.Given as goal

abbrev pub invariant-loop-set : goal.invariant-loop-set
invariant-loop-set g l =
    l.text.items ≡ l.initial.text.items ++ lines_below (class_lists_with l.machine.input.program l.machine.state.store l.class (number_of l.x)) l.set
