use Rattle.std.proofs.Common.{◌+◌, ◌-◌, subst, sym}
use Rattle.ss_store.specs.Making.{TakesOff}
use Rattle.ss_store.proofs.TakingOffAnswers.{less_first, less_class, less_next, less_last}
use Rattle.ss_store.proofs.store.Store.take_entities.Goals as goal

pub loop-init : goal.loop-init
loop-init g c = λ rest l. less_first c.args.class c.args.count _ rest l

pub take_entity-requires-clause-class : goal.take_entity-requires-clause-class
take_entity-requires-clause-class g c = let e = c.loop.invariant c.requires.0 c.requires.1 in
    less_class c.args.class c.args.count c.loop.counter _ c.requires.0 c.loop-test.true e

pub take_entity-requires-clause-fits : goal.take_entity-requires-clause-fits
take_entity-requires-clause-fits g c =
    let e = c.loop.invariant c.requires.0 c.requires.1 in
    let d = less_next c.args.class c.args.count c.loop.counter _ c.requires.0 c.loop-test.true e in (d.0, d.1, d.2, d.3)

pub loop-preserved : goal.loop-preserved
loop-preserved g c = λ rest l.
    let d = less_next c.args.class c.args.count c.loop.counter _ rest c.loop-test.true (c.loop.invariant rest l) in
    subst (λ z. TakesOff c.args.class (c.args.count - (c.loop.counter + 1)) z rest)
    (sym (c.take_entity.ensures d.0 d.1 d.2 d.3)) d.4

pub returns : goal.returns
returns g c = λ rest l. less_last c.args.class c.args.count c.loop.counter _ rest c.loop-test.false
    (c.loop.invariant rest l)
