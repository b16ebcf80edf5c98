use Rattle.std.proofs.Common.{◌≡◌, length, fold, Some}
use Rattle.ss_debug.specs.CommandLines.{command_words}
use Rattle.ss_prompt.specs.Cuts.{with_whole, whole_line}
use Rattle.ss_prompt.proofs.cuts.whole_line.Given as goal

abbrev pub invariant-loop-word : goal.invariant-loop-word
invariant-loop-word l =
    fold (with_whole l.program) (Some l.made) (command_words l.rest) ≡ whole_line l.program l.line

abbrev pub decreases-loop-word : goal.decreases-loop-word
decreases-loop-word l = length l.rest
