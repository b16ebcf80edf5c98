use Rattle.std.proofs.Common.{◌≡◌, ◌++◌, drop}
use Rattle.std.specs.Prelude.{map}
use Rattle.ss_check.specs.Resolved.{class_table}
use Rattle.ss_check.proofs.resolved.class_tables.add_classes.Given as goal

-- the names that are left bring the classes to all
abbrev pub invariant-loop-name : goal.invariant-loop-name
invariant-loop-name l =
    l.classes.items ++ map (class_table l.tables l.names l.rankings) (drop l.name-index l.name-items)
    ≡ l.fn.classes.items ++ map (class_table l.tables l.names l.rankings) l.names.classes
