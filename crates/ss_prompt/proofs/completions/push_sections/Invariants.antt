use Rattle.std.proofs.Common.{◌≡◌, ◌++◌, length}
use Rattle.ss_prompt.specs.Completions.{section_lines}
use Rattle.ss_prompt.proofs.completions.push_sections.Given as goal

abbrev pub invariant-loop-sections : goal.invariant-loop-sections
invariant-loop-sections l =
    l.text.items ++ section_lines l.sections ≡ l.initial.text.items ++ section_lines l.initial.sections

abbrev pub decreases-loop-sections : goal.decreases-loop-sections
decreases-loop-sections l = length l.sections
