-- Histories: the newest step, and the other steps after it.
use Rattle.std.proofs.Common.{◌≡◌, ℕ, zero, suc, ◌+◌, ◌≤◌, Bool, true, false, cond, List, [], ◌∷◌, ◌++◌}
use Rattle.std.proofs.Common.{refl, sym, ap, ◌∙◌, ◌≢◌, arith, nat_lt, take, length, append_assoc, Some, None}
use Rattle.std.specs.Prelude.{decimal}
use Rattle.std.specs.Fmt.{signed_decimal}
use Rattle.std.proofs.lemmas.Bool.{lt-ltb}
use borrow.Author.Tests.{ltb-true}
use Rattle.ss_state.specs.Run.{Input}
use Rattle.ss_trace.specs.declared.question.Question.{Question}
use Rattle.ss_state.specs.Run.{run}
use Rattle.ss_machine.specs.Moment.{Moment, position}
use Rattle.ss_debug.specs.Move.{line_at}
use Rattle.ss_debug.specs.Answer.{section_at}
use Rattle.ss_trace.specs.Value.{value_at}
use Rattle.ss_trace.specs.History.{before_others, positions_where, step_row, step_rows, history, history_text, row}
use Rattle.ss_trace.specs.History.{head_row, no_change_text, table_or_none, newest_change, newest}

-- there is no step before the earliest position
pub none_before : (test : ℕ → Bool) (a p : ℕ) → p ≤ a → positions_where test a p ≡ []
unfolding positions_where
none_before test a zero h = refl
none_before test a (suc q) h = let early : nat_lt q a ≡ true = lt-ltb q a (omega (arith, h)) in rw early refl

next_by : (b : Bool) (q a : ℕ) (qs : List ℕ) (c : Bool) → nat_lt q a ≡ b → a ≤ q →
    cond b [] (before_others c q qs) ≡ before_others c q qs
next_by true q a qs c e h = absurd (omega (arith, h, ltb-true q a e))
next_by false q a qs c e h = refl

one_back : (test : ℕ → Bool) (a q : ℕ) → a ≤ q →
    positions_where test a (suc q) ≡ before_others (test q) q (positions_where test a q)
unfolding positions_where
one_back test a q h = next_by (nat_lt q a) q a (positions_where test a q) (test q) refl h

-- a step at which the test fails is passed
pub passed : (test : ℕ → Bool) (a p q : ℕ) → p ≡ q + 1 → a ≤ q → test q ≡ false →
    positions_where test a p ≡ positions_where test a q
passed test a zero q e h f = absurd (omega (arith, e))
passed test a (suc r) q e h f =
    let same : r ≡ q = omega (arith, e) in
    rw same (one_back test a q h ∙ ap (λ (b : Bool). before_others b q (positions_where test a q)) f)

-- one at which it holds is the newest
pub found : (test : ℕ → Bool) (a p q : ℕ) → p ≡ q + 1 → a ≤ q → test q ≡ true →
    positions_where test a p ≡ q ∷ positions_where test a q
found test a zero q e h f = absurd (omega (arith, e))
found test a (suc r) q e h f =
    let same : r ≡ q = omega (arith, e) in
    rw same (one_back test a q h ∙ ap (λ (b : Bool). before_others b q (positions_where test a q)) f)

-- ---- rows

-- the rows of some steps left of a list, of which n are still to be shown
pub row_more : (t : Input) (x : Question) (n m : ℕ) (q : ℕ) (qs : List ℕ) → n ≡ m + 1 →
    step_rows t x (take n (q ∷ qs)) ≡ step_row t x q ++ step_rows t x (take m qs)
row_more t x zero m q qs e = absurd (omega (arith, e))
row_more t x (suc n) m q qs e = let same : n ≡ m = omega (arith, e) in rw same refl

-- and the number of these rows
pub count_more : (n m : ℕ) (q : ℕ) (qs : List ℕ) → n ≡ m + 1 →
    length (take n (q ∷ qs)) ≡ suc (length (take m qs))
count_more zero m q qs e = absurd (omega (arith, e))
count_more (suc n) m q qs e = let same : n ≡ m = omega (arith, e) in rw same refl

-- a row, from the state in which it is written
pub row_told : (t : Input) (x : Question) (u : Moment) (value : List ℕ) → u.input ≡ t →
    u.state ≡ run u.input (position u) → value ≡ value_at t x (position u + 1) →
    row (decimal (position u)) (signed_decimal u.state.clock) (section_at u.input (position u))
    (decimal (line_at u.input (position u))) value
    ≡ step_row t x (position u)
row_told t x u value e s a = rw (s, e, a) refl

-- one row more
pub rows_on : (old one more rest all new : List ℕ) → new ≡ old ++ one → rest ≡ one ++ more → old ++ rest ≡ all →
    new ++ more ≡ all
rows_on old one more rest all new e f h =
    ap (λ (xs : List ℕ). xs ++ more) e ∙ append_assoc old one more ∙ ap (λ (xs : List ℕ). old ++ xs) (sym f) ∙ h

table_some : (t : Input) (x : Question) (e : ℕ) (qs : List ℕ) → length qs ≢ 0 →
    table_or_none t x e qs ≡ head_row x ++ step_rows t x qs
table_some t x e [] h = absurd (h refl)
table_some t x e (q ∷ qs) h = refl

table_none : (t : Input) (x : Question) (e : ℕ) (qs : List ℕ) → length qs ≡ 0 →
    table_or_none t x e qs ≡ no_change_text e
table_none t x e [] h = refl
table_none t x e (q ∷ qs) h = absurd (omega (arith, h))

-- a history with steps
pub told_some : (t : Input) (x : Question) (n e p : ℕ) → length (take n (history t x e p)) ≢ 0 →
    history_text t x n e p ≡ head_row x ++ step_rows t x (take n (history t x e p))
unfolding history_text
told_some t x n e p h = table_some t x e (take n (history t x e p)) h

-- and one without
pub told_none : (t : Input) (x : Question) (n e p : ℕ) → length (take n (history t x e p)) ≡ 0 →
    history_text t x n e p ≡ no_change_text e
unfolding history_text
told_none t x n e p h = table_none t x e (take n (history t x e p)) h

-- the newest of a history
pub newest_is : (t : Input) (x : Question) (e p q : ℕ) (qs : List ℕ) → history t x e p ≡ q ∷ qs →
    newest_change t x e p ≡ Some q
newest_is t x e p q qs h = ap newest h

-- none
pub newest_none : (t : Input) (x : Question) (e p : ℕ) → history t x e p ≡ [] → newest_change t x e p ≡ None
newest_none t x e p h = ap newest h

-- the history of the same run with the same forgotten steps
pub history_moved : (t u : Input) (x : Question) (e f p q : ℕ) → u ≡ t → f ≡ e →
    history u x f p ≡ q ∷ history u x f q → history t x e p ≡ q ∷ history t x e q
history_moved t u x e f p q i j h = rw (sym i, sym j) h
