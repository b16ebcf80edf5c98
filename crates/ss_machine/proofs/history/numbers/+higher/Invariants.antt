use Rattle.std.proofs.Common.{length}
use Rattle.ss_machine.proofs.history.numbers.+higher.Given as goal

-- each call takes a byte off
abbrev pub decreases-higher : goal.decreases-higher
decreases-higher l = length l.bytes.now.current
