use Rattle.std.proofs.Common.{◌≡◌, ◌++◌, [], false, length}
use Rattle.std.specs.List.{filter}
use Rattle.ss_prompt.specs.Cuts.{begins}
use Rattle.ss_prompt.specs.Table.{forms_of, words_at}
use Rattle.ss_prompt.specs.Advice.{blank_words}
use Rattle.ss_prompt.proofs.advice.push_begun.Given as goal

abbrev pub invariant-loop-rows : goal.invariant-loop-rows
invariant-loop-rows l =
    l.text.items ++ blank_words (filter (begins l.head) (words_at false [] (forms_of l.rows)))
    ≡ l.initial.text.items ++ blank_words (filter (begins l.head) (words_at false [] (forms_of l.initial.rows)))

abbrev pub decreases-loop-rows : goal.decreases-loop-rows
decreases-loop-rows l = length l.rows
