use Rattle.ss_program.proofs.CountMaps.{counts_none}
use Rattle.ss_program.proofs.name_counts.NameCounts.new.Goals as goal

pub invariant_of-result : goal.invariant_of-result
invariant_of-result c = rw c.new.ensures.items (counts_none c.new-2.result c.new-2.ensures.empty)
