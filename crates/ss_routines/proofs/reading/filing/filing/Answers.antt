use Rattle.ss_routines.specs.SimpleReading.{filing_at}
use Rattle.ss_routines.proofs.AbsentParts.{no_mark, no_either, no_made}
use Rattle.ss_routines.proofs.reading.filing.filing.Goals as goal

pub returns-clause-exact : goal.returns-clause-exact
unfolding filing_at
returns-clause-exact c =
    no_made _ _ _ _ (no_either _ _ _ _ _ (no_mark _ _ c.eat.result _ _ c.eat.ensures.exact c.if-eat.false)
    (no_mark _ _ c.eat-2.result _ _ c.eat-2.ensures.exact c.if-eat-2.false))
