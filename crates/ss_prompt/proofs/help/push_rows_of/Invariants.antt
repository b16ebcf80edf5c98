use Rattle.std.proofs.Common.{◌≡◌, ◌++◌, length}
use Rattle.ss_prompt.specs.Help.{rows_of}
use Rattle.ss_prompt.specs.Table.{forms_of}
use Rattle.ss_prompt.proofs.help.push_rows_of.Given as goal

abbrev pub invariant-loop-rows : goal.invariant-loop-rows
invariant-loop-rows l =
    l.text.items ++ rows_of l.word (forms_of l.rows)
    ≡ l.initial.text.items ++ rows_of l.word (forms_of l.initial.rows)

abbrev pub decreases-loop-rows : goal.decreases-loop-rows
decreases-loop-rows l = length l.rows
