use Rattle.ss_routines.proofs.AbsentParts.{no_either, no_made}
use Rattle.ss_routines.proofs.reading.statement.other.Goals as goal

pub returns-clause-exact : goal.returns-clause-exact
returns-clause-exact c =
    no_made _ _ _ _ (no_either _ _ _ _ _ (rw c.in_default.is at c.in_ok-timing.ensures.exact)
    (no_either _ _ _ _ _ (rw c.in_default-2.is at c.in_ok-exchange.ensures.exact)
    (rw c.in_default-3.is at c.in_ok-assignment.ensures.exact)))
