use Rattle.std.proofs.Common.{◌≡◌, drop}
use Rattle.std.specs.Prelude.{map}
use Rattle.ss_routines.specs.View.{section_view}
use Rattle.ss_check.specs.Increments.{IsOnce, sections_refusal}
use Rattle.ss_check.proofs.rules.breach.check_sections.Given as goal

-- the sections so far break no rule
abbrev pub invariant-loop-section : goal.invariant-loop-section
invariant-loop-section l = record {
  once : IsOnce l.before;
  sound : sections_refusal l.whole l.before (map section_view (drop l.section-index l.sections))
      ≡ sections_refusal l.whole l.fn.before (map section_view l.sections);
}
