use Rattle.std.proofs.Common.{◌≡◌, ◌++◌, None, map, length}
use Rattle.ss_words.specs.Words.{word_at}
use Rattle.ss_names.specs.Warnings.{dropped_text, kind_seen}
use Rattle.ss_names.proofs.dropped.push_dropped.Given as goal

abbrev pub invariant-loop-rest : goal.invariant-loop-rest
invariant-loop-rest l =
    l.text.items ++ dropped_text (kind_seen l.before) (map word_at l.rest)
    ≡ l.fn.text.items ++ dropped_text None (map word_at l.words)

abbrev pub decreases-loop-rest : goal.decreases-loop-rest
decreases-loop-rest l = length l.rest
