use Rattle.std.proofs.Common.{◌≡◌, None, map, length}
use Rattle.ss_words.specs.Words.{word_at}
use Rattle.ss_sentences.specs.Pieces.{kind_seen, last_kind}
use Rattle.ss_sentences.proofs.pieces.last_kind.Given as goal

abbrev pub invariant-loop-rest : goal.invariant-loop-rest
invariant-loop-rest l =
    last_kind (kind_seen l.last) (map word_at l.rest) ≡ last_kind None (map word_at l.words)

abbrev pub decreases-loop-rest : goal.decreases-loop-rest
decreases-loop-rest l = length l.rest
