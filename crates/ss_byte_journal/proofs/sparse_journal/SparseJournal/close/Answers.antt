use Rattle.std.proofs.Common.{◌+◌, reverse, arith}
use Rattle.ss_byte_journal.proofs.Numbers.{none_later, all_before, ordered_later, newest_step}
use Rattle.ss_byte_journal.proofs.sparse_journal.SparseJournal.close.Goals as goal

pub invariant_of-self : goal.invariant_of-self
invariant_of-self g c =
    let k = c.self.inside.open_step in
    let cs = reverse c.self.inside.changes.items in
    (omega (arith, c.self.invariant.0), ordered_later k (k + 1) cs c.self.invariant.1 (omega arith))

pub returns-clause-steps : goal.returns-clause-steps
returns-clause-steps g c =
    let k = c.self.inside.open_step in
    let cs = reverse c.self.inside.changes.items in
    rw (← c.self.view_is, all_before (k + 1) k cs c.self.invariant.1 (omega arith))
    (newest_step c.self.inside.forgotten k cs c.self.invariant.0)

pub returns-clause-current : goal.returns-clause-current
returns-clause-current g c =
    let k = c.self.inside.open_step in
    none_later (k + 1) k (reverse c.self.inside.changes.items) c.self.invariant.1 (omega arith)
