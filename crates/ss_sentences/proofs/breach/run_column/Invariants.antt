use Rattle.std.proofs.Common.{◌≡◌, ◌+◌, length}
use Rattle.ss_words.specs.declared.characters.TheConstants.{BLANK}
use Rattle.ss_sentences.specs.Breach.{run_column}
use Rattle.ss_sentences.proofs.breach.run_column.Given as goal

abbrev pub invariant-loop-rest : goal.invariant-loop-rest
invariant-loop-rest l =
    (l.column + length l.rest ≡ 1 + length l.plain)
    × (run_column l.rule l.column l.last l.rest ≡ run_column l.rule 1 BLANK l.plain)

abbrev pub decreases-loop-rest : goal.decreases-loop-rest
decreases-loop-rest l = length l.rest
