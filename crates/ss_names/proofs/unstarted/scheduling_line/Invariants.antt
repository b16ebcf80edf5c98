use Rattle.std.proofs.Common.{◌≡◌, length}
use Rattle.ss_names.specs.Unstarted.{scheduling_line}
use Rattle.ss_names.proofs.unstarted.scheduling_line.Given as goal

abbrev pub invariant-loop-sections : goal.invariant-loop-sections
invariant-loop-sections l = scheduling_line l.sections ≡ scheduling_line l.initial.sections

abbrev pub decreases-loop-sections : goal.decreases-loop-sections
decreases-loop-sections l = length l.sections
