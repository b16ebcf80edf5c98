use Rattle.std.proofs.Common.{◌≡◌, ◌++◌}
use Rattle.ss_store.specs.Store.{number_of}
use Rattle.ss_trace.specs.EntityNumbers.{numbers_below, set_numbers}
use Rattle.ss_trace.proofs.entity_numbers.push_sets.Given as goal

abbrev pub invariant-loop-set : goal.invariant-loop-set
invariant-loop-set g l = l.numbers.items ≡ l.initial.numbers.items
    ++ numbers_below (set_numbers l.machine.input.program l.machine.state.store l.class (number_of l.x)) l.set
