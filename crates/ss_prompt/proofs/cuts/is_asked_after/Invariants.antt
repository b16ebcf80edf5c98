use Rattle.std.proofs.Common.{◌≡◌, length}
use Rattle.ss_prompt.specs.Table.{forms_of, is_asked_after}
use Rattle.ss_prompt.proofs.cuts.is_asked_after.Given as goal

abbrev pub invariant-loop-rows : goal.invariant-loop-rows
invariant-loop-rows l = is_asked_after l.before (forms_of l.rows) ≡ is_asked_after l.before (forms_of l.initial.rows)

abbrev pub decreases-loop-rows : goal.decreases-loop-rows
decreases-loop-rows l = length l.rows
