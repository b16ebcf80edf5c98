use Rattle.std.proofs.Common.{◌<◌, length}
use Rattle.std.specs.Vec.{vec_capacity}
use Rattle.ss_console.specs.declared.lines.TheConstants.{LONGEST_LINE}
use Rattle.ssdb.proofs.scripts.scripted_line.Given as goal

abbrev pub invariant-loop-script : goal.invariant-loop-script
invariant-loop-script l = LONGEST_LINE < vec_capacity l.line

abbrev pub decreases-loop-script : goal.decreases-loop-script
decreases-loop-script l = length l.scripts.items
