use Rattle.std.proofs.Common.{◌≡◌, ◌++◌, length}
use Rattle.ss_prompt.specs.Resume.{break_commands}
use Rattle.ss_prompt.proofs.desk.resume.push_breaks.Given as goal

abbrev pub invariant-loop-breaks : goal.invariant-loop-breaks
invariant-loop-breaks l =
    l.text.items ++ break_commands l.breaks ≡ l.initial.text.items ++ break_commands l.initial.breaks

abbrev pub decreases-loop-breaks : goal.decreases-loop-breaks
decreases-loop-breaks l = length l.breaks
