use Rattle.std.proofs.Common.{◌≡◌, ◌+◌, ◌≤◌, length}
use Rattle.ss_sentences.specs.Unread.{line_count}
use Rattle.ss_sentences.proofs.unread.line_count.Given as goal

abbrev pub invariant-loop-rest : goal.invariant-loop-rest
invariant-loop-rest l =
    (l.count + length l.rest ≤ length l.text) × (l.count + line_count l.rest ≡ line_count l.text)

abbrev pub decreases-loop-rest : goal.decreases-loop-rest
decreases-loop-rest l = length l.rest
