use Rattle.std.proofs.Common.{◌≡◌, ◌++◌}
use Rattle.ss_store.specs.Store.{number_of}
use Rattle.ss_debug.specs.Entities.{lines_below, owned_set_lines}
use Rattle.ss_debug.proofs.entity_text.push_owned_sets.Given as goal

abbrev pub invariant-loop-set : goal.invariant-loop-set
invariant-loop-set g l = l.text.items ≡ l.initial.text.items
    ++ lines_below (owned_set_lines l.machine.input.program l.machine.state.store l.class (number_of l.x)) l.set
