use Rattle.std.proofs.Common.{◌≡◌, length}
use Rattle.ss_sentences.specs.Near.{behind_same}
use Rattle.ss_sentences.proofs.near.behind_same.Given as goal

abbrev pub invariant-loop-a : goal.invariant-loop-a
invariant-loop-a l = behind_same l.a l.b ≡ behind_same l.initial.a l.initial.b

abbrev pub decreases-loop-a : goal.decreases-loop-a
decreases-loop-a l = length l.a
