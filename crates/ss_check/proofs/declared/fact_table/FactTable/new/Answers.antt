use Rattle.std.proofs.Common.{refl}
use Rattle.ss_program.proofs.NameIndex.{index_none}
use Rattle.ss_check.proofs.declared.fact_table.FactTable.new.Goals as goal

pub invariant_of-result : goal.invariant_of-result
invariant_of-result g c = rw c.new.ensures.items (index_none c.new-2.result c.new-2.ensures.empty, refl)
