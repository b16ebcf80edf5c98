use Rattle.std.proofs.Common.{◌≡◌, ◌++◌}
use Rattle.ss_store.specs.Store.{number_of}
use Rattle.ss_debug.specs.Entities.{lines_below}
use Rattle.ss_inspect.specs.Lists.{owned_list_with}
use Rattle.ss_inspect.proofs.places.push_owned_lists_with.Given as goal

abbrev pub invariant-loop-below : goal.invariant-loop-below
invariant-loop-below g l = l.text.items ≡ l.initial.text.items
    ++ lines_below (owned_list_with l.machine.input.program l.machine.state.store l.set (number_of l.x)) l.below
