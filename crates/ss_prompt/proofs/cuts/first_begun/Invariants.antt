use Rattle.std.proofs.Common.{◌≡◌, ◌≤◌, length}
use Rattle.std.specs.List.{filter}
use Rattle.ss_prompt.specs.Cuts.{begins}
use Rattle.ss_prompt.specs.Table.{forms_of, words_at}
use Rattle.ss_prompt.proofs.cuts.first_begun.Given as goal

abbrev pub invariant-loop-rows : goal.invariant-loop-rows
invariant-loop-rows l = record {
  same : filter (begins l.word) (words_at l.is_asked l.before (forms_of l.initial.rows))
      ≡ filter (begins l.word) (words_at l.is_asked l.before (forms_of l.rows));
  less : length l.rows ≤ length l.initial.rows;
}

abbrev pub decreases-loop-rows : goal.decreases-loop-rows
decreases-loop-rows l = length l.rows
