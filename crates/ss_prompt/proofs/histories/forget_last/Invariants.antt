use Rattle.std.proofs.Common.{◌≡◌, ◌∷◌, length}
use Rattle.ss_debug.specs.CommandLines.{command_words}
use Rattle.ss_prompt.specs.Histories.{only_last}
use Rattle.ss_prompt.proofs.histories.forget_last.Given as goal

abbrev pub invariant-loop-next : goal.invariant-loop-next
invariant-loop-next l = only_last (l.word ∷ command_words l.rest) ≡ only_last (command_words l.line)

abbrev pub decreases-loop-next : goal.decreases-loop-next
decreases-loop-next l = length l.rest
