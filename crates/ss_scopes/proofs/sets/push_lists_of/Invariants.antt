use Rattle.std.proofs.Common.{◌≡◌, ◌++◌, drop}
use Rattle.ss_scopes.specs.Sets.{lists_of}
use Rattle.ss_scopes.proofs.sets.push_lists_of.Given as goal

abbrev pub invariant-loop-number : goal.invariant-loop-number
invariant-loop-number g l =
    l.out.items ++ lists_of l.machine.input.program l.machine.state.store l.set l.class (drop l.number-index l.numbers)
    ≡ l.fn.out.items ++ lists_of l.machine.input.program l.machine.state.store l.set l.class l.numbers
