use Rattle.ss_program.proofs.NameIndex.{index_none}
use Rattle.ss_program.proofs.name_table.NameTable.new.Goals as goal

pub invariant_of-result : goal.invariant_of-result
invariant_of-result c = rw c.new.ensures.items (index_none c.new-2.result c.new-2.ensures.empty)
