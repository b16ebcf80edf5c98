use Rattle.std.proofs.Common.{◌≡◌, ◌++◌, map, length}
use Rattle.ss_sentences.specs.Fitting.{all_judged, judged_after, judged_view}
use Rattle.ss_sentences.proofs.fitting.all_judged.Given as goal

abbrev pub invariant-loop-rows : goal.invariant-loop-rows
invariant-loop-rows l = record {
  same : l.words ≡ l.initial.words;
  judged : map judged_view l.all.items ++ map (judged_after l.initial.words) (map (λ row. (row.0.now, row.1)) l.rows)
      ≡ all_judged l.initial.words;
}

abbrev pub decreases-loop-rows : goal.decreases-loop-rows
decreases-loop-rows l = length l.rows
