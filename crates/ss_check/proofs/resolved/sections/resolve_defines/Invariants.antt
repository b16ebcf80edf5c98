use Rattle.std.proofs.Common.{◌≡◌, ◌++◌, drop}
use Rattle.std.specs.Prelude.{map}
use Rattle.ss_routines.specs.View.{local_view}
use Rattle.ss_check.specs.Resolved.{define_table}
use Rattle.ss_check.proofs.resolved.sections.resolve_defines.Given as goal

-- the local DEFINEs that are left bring the list to all
abbrev pub invariant-loop-define : goal.invariant-loop-define
invariant-loop-define l =
    l.list.items ++ map define_table (map local_view (drop l.define-index l.defines))
    ≡ map define_table (map local_view l.defines)
