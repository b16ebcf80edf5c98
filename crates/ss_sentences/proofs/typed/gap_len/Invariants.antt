use Rattle.std.proofs.Common.{◌≡◌, ◌+◌, length}
use Rattle.ss_sentences.specs.Typed.{gap_len}
use Rattle.ss_sentences.proofs.typed.gap_len.Given as goal

abbrev pub invariant-loop-rest : goal.invariant-loop-rest
invariant-loop-rest l = (l.len + length l.rest ≡ length l.line) × (l.len + gap_len l.rest ≡ gap_len l.line)

abbrev pub decreases-loop-rest : goal.decreases-loop-rest
decreases-loop-rest l = length l.rest
