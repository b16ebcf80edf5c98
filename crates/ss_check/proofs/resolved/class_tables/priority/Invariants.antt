use Rattle.std.proofs.Common.{◌≡◌, ◌++◌, drop}
use Rattle.std.specs.Prelude.{map}
use Rattle.ss_check.specs.ResolvedNames.{number}
use Rattle.ss_check.specs.Facts.{names_of}
use Rattle.ss_check.proofs.resolved.class_tables.priority.Given as goal

-- the classes that are left bring the numbers to all
abbrev pub invariant-loop-class : goal.invariant-loop-class
invariant-loop-class l =
    l.numbers.items ++ map (λ c. number c l.names.classes) (names_of (drop l.class-index l.classes))
    ≡ map (λ c. number c l.names.classes) l.tables.priority
