use Rattle.std.proofs.Common.{◌≡◌, ◌++◌, length, map}
use Rattle.ss_words.specs.declared.characters.TheConstants.{BLANK}
use Rattle.ss_sentences.proofs.breach.plain_line.Given as goal

abbrev pub invariant-loop-rest : goal.invariant-loop-rest
invariant-loop-rest l = l.plain.items ++ map (λ b. BLANK) l.rest ≡ map (λ b. BLANK) l.line

abbrev pub decreases-loop-rest : goal.decreases-loop-rest
decreases-loop-rest l = length l.rest
