use Rattle.std.proofs.Common.{◌≡◌, length}
use Rattle.ss_debug.specs.CommandLines.{command_words}
use Rattle.ss_debug.proofs.pieces.next_word.Given as goal

abbrev pub invariant-loop-rest : goal.invariant-loop-rest
invariant-loop-rest l = command_words l.line ≡ command_words l.rest

abbrev pub decreases-loop-rest : goal.decreases-loop-rest
decreases-loop-rest l = length l.rest
