use Rattle.std.proofs.Common.{◌≡◌, drop, fold, flat_map, None}
use Rattle.ss_prompt.specs.Places.{nearer_line, section_lines}
use Rattle.ss_prompt.proofs.places.next_line.Given as goal

-- the sections that are left bring the nearest so far to that of all
abbrev pub invariant-loop-section : goal.invariant-loop-section
invariant-loop-section l =
    fold (nearer_line l.from) l.best (flat_map section_lines (drop l.section-index l.program.sections))
    ≡ fold (nearer_line l.from) None (flat_map section_lines l.program.sections)
