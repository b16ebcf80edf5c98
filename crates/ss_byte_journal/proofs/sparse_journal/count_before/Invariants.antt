use Rattle.std.proofs.Common.{◌<◌, take, All}
use Rattle.ss_byte_journal.proofs.sparse_journal.count_before.Given as goal

-- those looked at are of steps before
abbrev pub invariant-loop-k : goal.invariant-loop-k
invariant-loop-k g l = All (λ c. c.step < l.first) (take l.k l.changes.items)
