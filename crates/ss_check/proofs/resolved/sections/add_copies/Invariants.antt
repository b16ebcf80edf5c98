use Rattle.std.proofs.Common.{◌≡◌, ◌++◌, drop}
use Rattle.ss_check.proofs.resolved.sections.add_copies.Given as goal

-- the names that are left bring the list to all
abbrev pub invariant-loop-name : goal.invariant-loop-name
invariant-loop-name l =
    l.list.items ++ drop l.name-index l.names ≡ l.fn.list.items ++ l.names
