use Rattle.std.proofs.Common.{◌≡◌, ◌++◌}
use Rattle.ss_debug.specs.Entities.{lines_below}
use Rattle.ss_inspect.specs.Frames.{local_line}
use Rattle.ss_inspect.proofs.frames.push_section_locals.Given as goal

abbrev pub invariant-loop-number : goal.invariant-loop-number
invariant-loop-number g l = l.text.items ≡ l.initial.text.items ++ lines_below (local_line l.machine.input.program l.machine.state l.section) l.number
