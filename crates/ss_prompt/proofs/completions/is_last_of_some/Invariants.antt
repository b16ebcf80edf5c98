use Rattle.std.proofs.Common.{◌≡◌, length}
use Rattle.ss_prompt.specs.Completions.{is_last_of_some}
use Rattle.ss_prompt.specs.Table.{forms_of}
use Rattle.ss_prompt.proofs.completions.is_last_of_some.Given as goal

abbrev pub invariant-loop-rows : goal.invariant-loop-rows
invariant-loop-rows l = is_last_of_some l.word (forms_of l.rows) ≡ is_last_of_some l.word (forms_of l.initial.rows)

abbrev pub decreases-loop-rows : goal.decreases-loop-rows
decreases-loop-rows l = length l.rows
