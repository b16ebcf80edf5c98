use Rattle.ss_routines.specs.SimpleReading.{making_at}
use Rattle.ss_routines.proofs.AbsentParts.{no_mark, no_either, no_made}
use Rattle.ss_routines.proofs.reading.assignment.making.Goals as goal

pub returns-clause-exact : goal.returns-clause-exact
unfolding making_at
returns-clause-exact c =
    no_made _ _ _ _ (no_either _ _ _ _ _ (no_mark _ _ c.eat.result _ _ c.eat.ensures.exact c.if-eat.false)
    (no_mark _ _ c.eat-2.result _ _ c.eat-2.ensures.exact c.if-eat-3.false))
