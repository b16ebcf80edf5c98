use Rattle.std.proofs.Common.{◌≡◌, true}
use Rattle.ss_store.specs.Store.{number_of}
use Rattle.ss_trace.specs.Told.{tells_attributes}
use Rattle.ss_trace.proofs.told.tells_attributes.Given as goal

abbrev pub invariant-loop-attribute : goal.invariant-loop-attribute
invariant-loop-attribute g l =
    tells_attributes l.machine.state.store l.class (number_of l.x) l.numbers l.attribute ≡ true
