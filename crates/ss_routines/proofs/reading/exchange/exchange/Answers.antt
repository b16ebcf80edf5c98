use Rattle.ss_routines.specs.SimpleReading.{exchange_at}
use Rattle.ss_routines.proofs.AbsentParts.{no_mark, no_either, no_made}
use Rattle.ss_routines.proofs.reading.exchange.exchange.Goals as goal

pub returns-clause-exact : goal.returns-clause-exact
unfolding exchange_at
returns-clause-exact c =
    no_made _ _ _ _ (no_either _ _ _ _ _ (no_mark _ _ c.eat.result _ _ c.eat.ensures.exact c.if-eat.false)
    (no_either _ _ _ _ _ (no_mark _ _ c.eat-2.result _ _ c.eat-2.ensures.exact c.if-eat-2.false)
    (no_mark _ _ c.eat-3.result _ _ c.eat-3.ensures.exact c.if-eat-3.false)))
