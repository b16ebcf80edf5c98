use Rattle.std.proofs.Common.{◌≡◌, ◌++◌, drop}
use Rattle.ss_check.proofs.rules.heads.add_yielded.Given as goal

-- the names that are left bring the list to all
abbrev pub invariant-loop-name : goal.invariant-loop-name
invariant-loop-name l = l.list ++ drop l.name-index l.names ≡ l.fn.list ++ l.names
