use Rattle.std.proofs.Common.{◌≡◌, length}
use Rattle.ss_sentences.specs.Expected.{fits}
use Rattle.ss_sentences.proofs.expected.fits.Given as goal

abbrev pub invariant-loop-judged : goal.invariant-loop-judged
invariant-loop-judged l = fits l.judged l.told ≡ fits l.initial.judged l.told

abbrev pub decreases-loop-judged : goal.decreases-loop-judged
decreases-loop-judged l = length l.judged
