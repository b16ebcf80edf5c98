-- The rows of one thing that is traced are its history, the oldest step first.
use Rattle.std.proofs.Common.{◌≡◌, ℕ, zero, suc, Bool, true, false, nat_lt, List, [], ◌∷◌, ◌++◌, refl, sym, append-nil, arith}
use Rattle.std.proofs.Common.{Some}
use Rattle.std.proofs.lemmas.Grind.{flat_map-append}
use Rattle.std.proofs.lemmas.Bool.Decides.{nat_tests}
use Rattle.ss_state.specs.Run.{Input}
use Rattle.ss_trace.specs.History.{before_others, positions_where}
use Rattle.ss_run.specs.Rows.{csv_row}
use Rattle.ss_run.specs.Trace.{step_fields, change_row, step_rows, rows_before}
use Rattle.ss_run.specs.Watched.{Watched, question, formula, watched_changes}
use Rattle.ss_run.specs.Laws.{RowsAreTheHistory, oldest_first, rows_at}

-- the row of a step in the history, if it is there, is after the others
one_step : (input : Input) (x : Watched) (q : ℕ) (qs : List ℕ) (b : Bool) → watched_changes input x q ≡ b →
    rows_at input x (oldest_first qs) ++ step_rows input (x ∷ []) q
    ≡ rows_at input x (oldest_first (before_others b q qs))
unfolding change_row
one_step input x q qs true e =
    rw e (sym (flat_map-append (λ r. csv_row (step_fields input x r)) (oldest_first qs) (q ∷ [])))
one_step input x q qs false e = rw e (append-nil _)

rows_of_one : (input : Input) (x : Watched) (p : ℕ) →
    rows_before input (x ∷ []) p ≡ rows_at input x (oldest_first (positions_where (watched_changes input x) 0 p))
unfolding rows_before positions_where
rows_of_one input x zero = refl
rows_of_one input x (suc q) =
    let kept : nat_lt q 0 ≡ false = grind (arith, nat_tests) in
    rw (kept, rows_of_one input x q)
    (one_step input x q (positions_where (watched_changes input x) 0 q) (watched_changes input x q) refl)

pub rows_told : RowsAreTheHistory
rows_told = record {
  asked = λ input x p. rows_of_one input (question x) p;
  meant = λ input text meaning p. rows_of_one input (formula text (Some meaning)) p;
}
