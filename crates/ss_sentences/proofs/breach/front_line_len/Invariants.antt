use Rattle.std.proofs.Common.{◌≡◌, ◌+◌, length}
use Rattle.ss_sentences.specs.Breach.{front_line_len}
use Rattle.ss_sentences.proofs.breach.front_line_len.Given as goal

abbrev pub invariant-loop-rest : goal.invariant-loop-rest
invariant-loop-rest l =
    (l.len + length l.rest ≡ length l.text) × (l.len + front_line_len l.rest ≡ front_line_len l.text)

abbrev pub decreases-loop-rest : goal.decreases-loop-rest
decreases-loop-rest l = length l.rest
