use Rattle.std.proofs.Common.{◌≡◌, ◌++◌, length}
use Rattle.ss_debug.specs.Entities.{further_members}
use Rattle.ss_readings.proofs.value.push_further.Given as goal

abbrev pub invariant-loop-member : goal.invariant-loop-member
invariant-loop-member l = l.text.items ++ further_members l.left ≡ l.initial.text.items ++ further_members l.members

abbrev pub decreases-loop-member : goal.decreases-loop-member
decreases-loop-member l = length l.left
