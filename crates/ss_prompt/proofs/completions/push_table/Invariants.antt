use Rattle.std.proofs.Common.{◌≡◌, ◌++◌, length}
use Rattle.ss_debug.specs.CommandLines.{command_words}
use Rattle.ss_prompt.specs.Completions.{word_lines}
use Rattle.ss_prompt.proofs.completions.push_table.Given as goal

abbrev pub invariant-loop-word : goal.invariant-loop-word
invariant-loop-word l =
    l.text.items ++ word_lines (command_words l.rest) ≡ l.initial.text.items ++ word_lines (command_words l.table)

abbrev pub decreases-loop-word : goal.decreases-loop-word
decreases-loop-word l = length l.rest
