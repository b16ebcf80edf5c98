use Rattle.std.proofs.Common.{[], ◌∷◌, length, map, ◌≤◌}
use Rattle.ss_words.proofs.Loop.{Going}
use Rattle.ss_preamble.specs.ItemReading.{next_clause, other_clauses}
use Rattle.ss_preamble.specs.View.{clause_view}
use Rattle.ss_preamble.proofs.clause.other_clauses.Given as goal

abbrev pub invariant-loop-clauses : goal.invariant-loop-clauses
invariant-loop-clauses l = record {
  shorter : length l.cursor ≤ length l.fn.cursor;
  going : Going next_clause [] (λ x xs. x ∷ xs) (other_clauses l.fn.cursor) (map clause_view l.clauses.items) l.cursor;
}

abbrev pub decreases-loop-clauses : goal.decreases-loop-clauses
decreases-loop-clauses l = length l.cursor
