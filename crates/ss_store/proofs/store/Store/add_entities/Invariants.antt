use Rattle.ss_store.specs.Making.{MakesAll}
use Rattle.ss_store.proofs.store.Store.add_entities.Given as goal

abbrev pub invariant-loop-made : goal.invariant-loop-made
invariant-loop-made g l = MakesAll l.class l.made l.fn.self l.self
