use Rattle.std.proofs.Common.{◌≡◌, length}
use Rattle.ss_prompt.specs.Cuts.{word_of_letter}
use Rattle.ss_prompt.specs.Table.{letters_of}
use Rattle.ss_prompt.proofs.cuts.word_of_letter.Given as goal

abbrev pub invariant-loop-rows : goal.invariant-loop-rows
invariant-loop-rows l = word_of_letter l.word (letters_of l.rows) ≡ word_of_letter l.word (letters_of l.initial.rows)

abbrev pub decreases-loop-rows : goal.decreases-loop-rows
decreases-loop-rows l = length l.rows
