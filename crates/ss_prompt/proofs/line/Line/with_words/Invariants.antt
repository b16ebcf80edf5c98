use Rattle.std.proofs.Common.{◌≡◌, length, fold, Some}
use Rattle.ss_debug.specs.CommandLines.{command_words}
use Rattle.ss_prompt.specs.Words.{with_word}
use Rattle.ss_prompt.proofs.line.Line.with_words.Given as goal

abbrev pub invariant-loop-word : goal.invariant-loop-word
invariant-loop-word l =
    fold with_word (Some l.line) (command_words l.left) ≡ fold with_word (Some l.fn.self) (command_words l.rest)

abbrev pub decreases-loop-word : goal.decreases-loop-word
decreases-loop-word l = length l.left
