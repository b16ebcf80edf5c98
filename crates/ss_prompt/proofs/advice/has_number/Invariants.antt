use Rattle.std.proofs.Common.{◌≡◌, length}
use Rattle.ss_debug.specs.CommandLines.{command_words}
use Rattle.ss_prompt.specs.Advice.{has_number}
use Rattle.ss_prompt.proofs.advice.has_number.Given as goal

abbrev pub invariant-loop-word : goal.invariant-loop-word
invariant-loop-word l = has_number (command_words l.rest) ≡ has_number (command_words l.line)

abbrev pub decreases-loop-word : goal.decreases-loop-word
decreases-loop-word l = length l.rest
