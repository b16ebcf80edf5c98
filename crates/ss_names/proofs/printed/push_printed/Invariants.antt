use Rattle.std.proofs.Common.{◌≡◌, ◌++◌, map, length}
use Rattle.ss_words.specs.Words.{word_at}
use Rattle.ss_names.specs.Printed.{printed_text}
use Rattle.ss_names.proofs.printed.push_printed.Given as goal

abbrev pub invariant-loop-rest : goal.invariant-loop-rest
invariant-loop-rest l =
    l.text.items ++ printed_text (map word_at l.rest) ≡ l.fn.text.items ++ printed_text (map word_at l.words)

abbrev pub decreases-loop-rest : goal.decreases-loop-rest
decreases-loop-rest l = length l.rest
