use Rattle.std.proofs.Common.{◌≡◌, length}
use Rattle.ss_prompt.specs.ConsoleWords.{is_in_some}
use Rattle.ss_prompt.specs.Table.{forms_of}
use Rattle.ss_prompt.proofs.console_words.is_in_some.Given as goal

abbrev pub invariant-loop-rows : goal.invariant-loop-rows
invariant-loop-rows l = is_in_some l.is_first l.word (forms_of l.rows) ≡ is_in_some l.is_first l.word (forms_of l.initial.rows)

abbrev pub decreases-loop-rows : goal.decreases-loop-rows
decreases-loop-rows l = length l.rows
