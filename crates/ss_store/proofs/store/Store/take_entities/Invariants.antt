use Rattle.std.proofs.Common.{◌-◌}
use Rattle.ss_store.specs.Value.{StoreValue}
use Rattle.ss_store.specs.Making.{TakesOff}
use Rattle.ss_store.proofs.store.Store.take_entities.Given as goal

-- the store left at the end is the same if only the entities still to be taken off are taken off
abbrev pub invariant-loop : goal.invariant-loop
invariant-loop g l = (rest : StoreValue) → TakesOff l.class l.count l.fn.self rest
    → TakesOff l.class (l.count - l.counter) l.self rest
