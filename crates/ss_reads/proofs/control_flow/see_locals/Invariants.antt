use Rattle.std.proofs.Common.{◌≡◌, ◌++◌, ◌-◌}
use Rattle.ss_reads.specs.Places.{locals_reads}
use Rattle.ss_reads.proofs.control_flow.see_locals.Given as goal

-- the locals that are left are missing
abbrev pub invariant-loop-local : goal.invariant-loop-local
invariant-loop-local l =
    l.reads.items ++ locals_reads l.local (l.end - l.local)
    ≡ l.initial.reads.items ++ locals_reads l.first (l.end - l.first)
