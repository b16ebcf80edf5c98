use Rattle.std.proofs.Common.{◌≡◌, ◌++◌}
use Rattle.ss_debug.specs.Entities.{lines_below}
use Rattle.ss_inspect.specs.Frames.{global_line}
use Rattle.ss_inspect.proofs.frames.push_all_globals.Given as goal

abbrev pub invariant-loop-number : goal.invariant-loop-number
invariant-loop-number g l = l.text.items ≡ l.initial.text.items ++ lines_below (global_line l.machine.input.program l.machine.state) l.number
