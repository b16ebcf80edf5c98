use Rattle.std.proofs.Common.{◌≡◌, [], map, length}
use Rattle.ss_words.specs.Words.{word_at}
use Rattle.ss_sentences.specs.Hints.{open_lines}
use Rattle.ss_sentences.proofs.hints.open_lines.Given as goal

abbrev pub invariant-loop-words : goal.invariant-loop-words
invariant-loop-words l =
    let names = map (λ row. row.now) in
    open_lines (names l.opening) (names l.closing) l.lines.items (map word_at l.words)
    ≡ open_lines (names l.opening) (names l.closing) [] (map word_at l.initial.words)

abbrev pub decreases-loop-words : goal.decreases-loop-words
decreases-loop-words l = length l.words
