use Rattle.ss_routines.specs.SimpleReading.{file_place_at}
use Rattle.ss_routines.proofs.AbsentParts.{no_mark}
use Rattle.ss_routines.proofs.AlternativeParts.{made_reads, either_reads}
use Rattle.ss_routines.proofs.reading.filing.file_place.Goals as goal

pub returns-clause-exact : goal.returns-clause-exact
unfolding file_place_at
returns-clause-exact c =
    made_reads _ _ _ _ _ (either_reads _ _ _ _ _ _ (rw c.in_default.is at c.set_end.ensures.exact)
    (either_reads _ _ _ _ _ _ (no_mark _ _ c.eat.result _ _ c.eat.ensures.exact c.if-eat.false)
    (no_mark _ _ c.eat-2.result _ _ c.eat-2.ensures.exact c.if-eat-2.false)))
