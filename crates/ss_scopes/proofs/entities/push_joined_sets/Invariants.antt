use Rattle.std.proofs.Common.{◌≡◌, ◌++◌}
use Rattle.ss_debug.specs.Entities.{lines_below}
use Rattle.ss_scopes.specs.Entities.{joined_item}
use Rattle.ss_scopes.proofs.entities.push_joined_sets.Given as goal

abbrev pub invariant-loop-set : goal.invariant-loop-set
invariant-loop-set g l =
    l.out.items ≡ l.fn.out.items
    ++ lines_below (joined_item l.machine.input.program l.machine.state.store l.class l.number) l.set
