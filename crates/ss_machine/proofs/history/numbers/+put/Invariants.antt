use Rattle.std.proofs.Common.{◌+◌, ◌*◌}
use Rattle.ss_machine.proofs.history.numbers.+put.Given as goal

-- each call writes a smaller number, or the rest of this one
abbrev pub decreases-write : goal.decreases-write
decreases-write l = 2 * l.number + 1

abbrev pub decreases-put : goal.decreases-put
decreases-put l = 2 * l.number
