use Rattle.std.proofs.Common.{◌≡◌, length}
use Rattle.ss_debug.specs.CommandLines.{command_words}
use Rattle.ss_prompt.specs.RowsAsked.{unknown_of}
use Rattle.ss_prompt.proofs.rows_asked.unknown_of.Given as goal

abbrev pub invariant-loop-word : goal.invariant-loop-word
invariant-loop-word l =
    unknown_of l.program l.class (command_words l.rest) ≡ unknown_of l.program l.class (command_words l.words)

abbrev pub decreases-loop-word : goal.decreases-loop-word
decreases-loop-word l = length l.rest
