use Rattle.std.proofs.Common.{◌≡◌, length}
use Rattle.ss_debug.specs.CommandLines.{command_words}
use Rattle.ss_prompt.specs.RowsAsked.{are_names}
use Rattle.ss_prompt.proofs.rows_asked.are_names.Given as goal

abbrev pub invariant-loop-word : goal.invariant-loop-word
invariant-loop-word l = are_names (command_words l.rest) ≡ are_names (command_words l.words)

abbrev pub decreases-loop-word : goal.decreases-loop-word
decreases-loop-word l = length l.rest
