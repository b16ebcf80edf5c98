use Rattle.std.proofs.Common.{◌≡◌, ◌++◌, length}
use Rattle.ss_prompt.specs.Completions.{row_lines}
use Rattle.ss_prompt.specs.Table.{forms_of}
use Rattle.ss_prompt.proofs.completions.push_rows.Given as goal

abbrev pub invariant-loop-rows : goal.invariant-loop-rows
invariant-loop-rows l =
    l.text.items ++ row_lines (forms_of l.rows) ≡ l.initial.text.items ++ row_lines (forms_of l.initial.rows)

abbrev pub decreases-loop-rows : goal.decreases-loop-rows
decreases-loop-rows l = length l.rows
