use Rattle.std.proofs.Common.{◌≡◌, true}
use Rattle.ss_store.specs.Store.{number_of}
use Rattle.ss_trace.specs.Told.{tells_sets}
use Rattle.ss_trace.proofs.told.tells_sets.Given as goal

abbrev pub invariant-loop-set : goal.invariant-loop-set
invariant-loop-set g l =
    tells_sets l.machine.input.program l.machine.state.store l.class (number_of l.x) l.numbers l.set ≡ true
