use Rattle.ss_routines.specs.SimpleReading.{assign_at}
use Rattle.ss_routines.proofs.AbsentParts.{no_mark, no_either, no_made}
use Rattle.ss_routines.proofs.reading.assignment.assignment.Goals as goal

pub returns-in_default-clause-exact : goal.returns-in_default-clause-exact
unfolding assign_at
returns-in_default-clause-exact c =
    no_made _ _ _ _ (no_either _ _ _ _ _ (no_mark _ _ c.eat.result _ _ c.eat.ensures.exact c.if-eat.false)
    (no_either _ _ _ _ _ (no_mark _ _ c.eat-2.result _ _ c.eat-2.ensures.exact c.if-eat-2.false)
    (no_either _ _ _ _ _ (no_mark _ _ c.eat-3.result _ _ c.eat-3.ensures.exact c.if-eat-3.false)
    (rw c.in_default.is at c.in_ok-target-2.ensures.exact))))
