use Rattle.std.proofs.Common.{◌≡◌, ◌++◌, length}
use Rattle.ss_prompt.specs.Help.{all_rows}
use Rattle.ss_prompt.specs.Table.{forms_of}
use Rattle.ss_prompt.proofs.help.push_all.Given as goal

abbrev pub invariant-loop-rows : goal.invariant-loop-rows
invariant-loop-rows l =
    l.text.items ++ all_rows (forms_of l.rows)
    ≡ l.initial.text.items ++ all_rows (forms_of l.initial.rows)

abbrev pub decreases-loop-rows : goal.decreases-loop-rows
decreases-loop-rows l = length l.rows
