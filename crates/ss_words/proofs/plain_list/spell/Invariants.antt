use Rattle.std.proofs.Common.{◌≡◌, ◌++◌, map, drop}
use Rattle.std.specs.List.{enumerate_from}
use Rattle.ss_words.specs.Words.{word_at}
use Rattle.ss_words.specs.Plain.{plain_at}
use Rattle.ss_words.specs.PlainRules.{plain_from, unruled_words}
use Rattle.ss_words.proofs.plain_list.spell.Given as goal

abbrev pub invariant-loop-index : goal.invariant-loop-index
invariant-loop-index l =
    map plain_at l.plain.items ++ map (λ e. plain_from e.0 e.1)
    (enumerate_from l.index (map word_at (drop l.index l.word-items))) ≡ unruled_words (map word_at l.word-items)
