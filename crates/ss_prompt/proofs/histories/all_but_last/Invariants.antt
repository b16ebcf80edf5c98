use Rattle.std.proofs.Common.{◌≡◌, ◌∷◌, [], length, fold, Some}
use Rattle.ss_debug.specs.CommandLines.{command_words}
use Rattle.ss_prompt.specs.Words.{with_word, line_behind}
use Rattle.ss_prompt.specs.Histories.{all_but_last}
use Rattle.ss_prompt.proofs.histories.all_but_last.Given as goal

abbrev pub invariant-loop-next : goal.invariant-loop-next
invariant-loop-next l =
    fold with_word (Some l.made) (all_but_last (l.word ∷ command_words l.rest))
    ≡ line_behind [] (all_but_last (command_words l.line))

abbrev pub decreases-loop-next : goal.decreases-loop-next
decreases-loop-next l = length l.rest
