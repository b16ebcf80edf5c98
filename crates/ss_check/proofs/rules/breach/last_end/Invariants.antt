use Rattle.std.proofs.Common.{◌≡◌, drop}
use Rattle.std.specs.Prelude.{map}
use Rattle.ss_routines.specs.View.{section_view}
use Rattle.ss_check.specs.Breach as rules
use Rattle.ss_check.proofs.rules.breach.last_end.Given as goal

-- the sections that are left have the last END
abbrev pub invariant-loop-section : goal.invariant-loop-section
invariant-loop-section l =
    rules.last_end l.last (map section_view (drop l.section-index l.sections))
    ≡ rules.last_end l.line (map section_view l.sections)
