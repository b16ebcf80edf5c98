use Rattle.std.proofs.Common.{◌≡◌, ◌++◌, drop}
use Rattle.std.specs.Prelude.{map}
use Rattle.ss_check.specs.Resolved.{set_table}
use Rattle.ss_check.proofs.resolved.set_tables.add_sets.Given as goal

-- the names that are left bring the sets to all
abbrev pub invariant-loop-name : goal.invariant-loop-name
invariant-loop-name l =
    l.sets.items ++ map (set_table l.tables l.names l.rankings) (drop l.name-index l.name-items)
    ≡ l.fn.sets.items ++ map (set_table l.tables l.names l.rankings) l.names.sets
