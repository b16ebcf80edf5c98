-- The states at which a movement stops or a question changes, seen from the debugger at that position.
use Rattle.std.proofs.Common.{◌≡◌, ℕ, ◌+◌, ◌-◌, ◌<◌, ◌≤◌, zero, suc, List, Bool, true, false, refl, sym, ◌∙◌, arith}
use Rattle.std.specs.Prelude.{nat_lt, not, bytes_eq, ◌&&◌}
use Rattle.std.specs.Bool.{one_answer}
use Rattle.std.proofs.lemmas.Bool.{lt-ltb}
use borrow.Author.Tests.{ltb-true}
use Rattle.std.proofs.lemmas.Slice.Eq.{bytes_eq-Decides}
use Rattle.ss_state.specs.Run.{Input}
use Rattle.ss_debug.specs.BreakLines.{BreakPoint}
use Rattle.ss_debug.specs.Move.{is_ready_at, is_stop, stops, stops_back}
use Rattle.ss_debug.proofs.Moves.{or_false_left}
use Rattle.ss_trace.specs.declared.question.Question.{Question}
use Rattle.ss_trace.specs.Question.{answer_at, changes_at}
use Rattle.ss_trace.specs.Movements.{has_changed, ahead_condition, is_met, is_met_back}

-- whether two texts are the same does not depend on their order
pub same_turned : (xs ys : List ℕ) → bytes_eq xs ys ≡ bytes_eq ys xs
same_turned xs ys =
    let d = bytes_eq-Decides ys xs in
    one_answer {P = xs ≡ ys} (bytes_eq xs ys) (bytes_eq ys xs) (bytes_eq-Decides xs ys)
    (λ h. sym (d.0 h), λ e. d.1 (sym e))

-- ---- forward

-- whether a movement forward stops at q, k positions on, is seen there
pub stops_here : (t u : Input) (bs cs : List BreakPoint) (test : ℕ → Bool) (p q k from : ℕ) (seen : Bool) → u ≡ t → cs ≡ bs →
    q ≡ p + k → from ≡ p → seen ≡ is_stop u (ahead_condition u cs test) from q →
    stops t (ahead_condition t bs test) p k ≡ seen
stops_here t u bs cs test p q k from seen e f h i s = rw (s, e, f, h, i) refl

-- if it does not stop there, the status is ready
pub ready_here : (t : Input) (bs : List BreakPoint) (test : ℕ → Bool) (p q : ℕ) →
    false ≡ is_stop t (ahead_condition t bs test) p q → is_ready_at t q ≡ true
ready_here t bs test p q e = or_false_left (is_ready_at t q) _ _ (sym e)

-- nothing is met at the position at which a movement begins
pub met_nowhere : (test : ℕ → Bool) (p : ℕ) → is_met test p p ≡ false
met_nowhere test p = first (nat_lt p p) refl
  where
    first : (b : Bool) → nat_lt p p ≡ b → (b && test p) ≡ false
    first true e = absurd (omega (arith, ltb-true p p e))
    first false e = refl

-- further on it is met if its test holds
pub met_later : (test : ℕ → Bool) (p q : ℕ) → p < q → is_met test p q ≡ test q
met_later test p q h = let later : nat_lt p q ≡ true = lt-ltb p q h in rw later refl

-- after a step it is met if the step changes the question
pub met_behind : (t : Input) (x : Question) (p q r : ℕ) → p ≤ q → r ≡ q + 1 →
    is_met (has_changed t x) p r ≡ changes_at t x q
met_behind t x p q r h e =
    let later : nat_lt p r ≡ true = lt-ltb p r (omega (arith, e)) in
    let some : nat_lt 0 r ≡ true = lt-ltb 0 r (omega (arith, e)) in
    let before : r - 1 ≡ q = omega (arith, e) in
    rw (later, some, before) refl

-- ---- back

-- whether a movement back stops at q, k positions back
pub stops_back_where : (test : ℕ → Bool) (p q k : ℕ) → p ≡ q + k → 0 < k → stops_back test p k ≡ test q
stops_back_where test p q k e h =
    let some : nat_lt 0 k ≡ true = lt-ltb 0 k h in let here : p - k ≡ q = omega (arith, e) in rw (some, here) refl

-- a movement back met the state that it looks for if its test holds
pub met_back_at : (test : ℕ → Bool) (p q : ℕ) → q < p → is_met_back test p q ≡ test q
met_back_at test p q h = let later : nat_lt q p ≡ true = lt-ltb q p h in rw later refl

-- it met nothing if it did not stop
pub unmet_back : (test : ℕ → Bool) (p q k : ℕ) → p ≡ q + k →
    ((j : ℕ) → j < k + 1 → stops_back test p j ≡ false) → false ≡ is_met_back test p q
unmet_back test p q zero e none = let same : q ≡ p = omega (arith, e) in rw same (sym (met_nowhere test p))
unmet_back test p q (suc k) e none =
    sym (met_back_at test p q (omega (arith, e)) ∙ sym (stops_back_where test p q (suc k) e (omega arith))
    ∙ none (suc k) (omega arith))

-- a text is the same as itself
pub same_as_itself : (xs : List ℕ) → bytes_eq xs xs ≡ true
same_as_itself xs = (bytes_eq-Decides xs xs).1 refl

-- a question changes at the step between two answers
pub changes_between : (t : Input) (x : Question) (q : ℕ) (before after : List ℕ) → before ≡ answer_at t x q →
    after ≡ answer_at t x (q + 1) → changes_at t x q ≡ not (bytes_eq before after)
changes_between t x q before after e f = rw (e, f) refl
