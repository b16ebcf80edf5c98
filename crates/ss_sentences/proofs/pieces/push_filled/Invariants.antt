use Rattle.std.proofs.Common.{◌≡◌, ◌++◌, length}
use Rattle.ss_sentences.specs.Pieces.{gaps_filled}
use Rattle.ss_sentences.proofs.pieces.push_filled.Given as goal

abbrev pub invariant-loop-word : goal.invariant-loop-word
invariant-loop-word l =
    l.text.items ++ gaps_filled l.rest l.word l.others ≡ l.fn.text.items ++ gaps_filled l.sentence l.first l.others

abbrev pub decreases-loop-word : goal.decreases-loop-word
decreases-loop-word l = length l.rest
