use Rattle.std.proofs.Common.{◌≡◌, length, None}
use Rattle.ss_debug.specs.CommandLines.{command_words}
use Rattle.ss_prompt.specs.Reading.{own_by}
use Rattle.ss_prompt.specs.Table.{forms_of}
use Rattle.ss_prompt.proofs.made.own_by.Given as goal

abbrev pub invariant-loop-rows : goal.invariant-loop-rows
invariant-loop-rows l =
    own_by l.program (command_words l.line) (forms_of l.rows) l.made
    ≡ own_by l.program (command_words l.line) (forms_of l.initial.rows) None

abbrev pub decreases-loop-rows : goal.decreases-loop-rows
decreases-loop-rows l = length l.rows
