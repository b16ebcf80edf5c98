use Rattle.std.proofs.Common.{◌≡◌, ◌++◌, map, length}
use Rattle.std.specs.Prelude.{All}
use Rattle.ss_sentences.specs.Candidates.{IsFitting, candidate_of, candidates}
use Rattle.ss_sentences.proofs.candidate.judge_all.Given as goal

abbrev pub invariant-loop-rows : goal.invariant-loop-rows
invariant-loop-rows l = record {
  same : l.words ≡ l.initial.words;
  judged : All (λ j. IsFitting l.initial.words j.told.now j.tried j.fits) l.all.items;
  complete : map candidate_of l.all.items ++ map (λ row. (row.0.now, row.1)) l.rows ≡ candidates;
}

abbrev pub decreases-loop-rows : goal.decreases-loop-rows
decreases-loop-rows l = length l.rows
