use Rattle.std.proofs.Common.{arith}
use Rattle.ss_store.proofs.MakingChains.{makes_none, makes_next, room_for, same_class}
use Rattle.ss_store.proofs.store.Store.add_entities.Goals as goal

pub loop-made-init : goal.loop-made-init
loop-made-init g c = makes_none c.args.class _

pub add_entity-requires-clause-class : goal.add_entity-requires-clause-class
add_entity-requires-clause-class g c = same_class c.args.class c.loop-made.made _ _ c.loop-made.invariant
    c.requires.class

pub add_entity-requires-clause-few : goal.add_entity-requires-clause-few
add_entity-requires-clause-few g c = room_for c.args.class c.loop-made.made _ _ c.requires.kind c.requires.none
    c.loop-made.invariant (let a = c.requires.few in let b = c.loop-made-test.true in omega (arith, a, b))

pub loop-made-preserved : goal.loop-made-preserved
loop-made-preserved g c = makes_next c.args.class c.loop-made.made _ _ _ c.requires.kind c.loop-made.invariant
    c.in_default.ensures.ok
