use Rattle.std.proofs.Common.{◌≡◌, ◌++◌}
use Rattle.ss_debug.specs.Entities.{lines_below}
use Rattle.ss_inspect.specs.Frames.{frame_line}
use Rattle.ss_inspect.proofs.frames.push_frames.Given as goal

abbrev pub invariant-loop-depth : goal.invariant-loop-depth
invariant-loop-depth g l =
    l.text.items ≡ l.initial.text.items ++ lines_below (frame_line l.machine.input.program l.machine.state) l.depth
