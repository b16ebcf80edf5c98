-- Histories of a question: their rows, and the newest step.
use Rattle.std.proofs.Common.{◌≡◌, ℕ, zero, suc, ◌+◌, List, [], ◌∷◌, ◌++◌, refl, ap, ◌≢◌, arith, take, length, Option, Some, None}
use Rattle.std.specs.Prelude.{decimal}
use Rattle.std.specs.Fmt.{signed_decimal}
use Rattle.ss_machine.specs.Moment.{Moment, position}
use Rattle.ss_state.specs.Run.{Input, run}
use Rattle.ss_debug.specs.Move.{line_at}
use Rattle.ss_debug.specs.Answer.{section_at}
use Rattle.ss_trace.specs.History.{row, head_of, no_change_text, newest}
use Rattle.ss_readings.specs.Value.{Value, value_text}
use Rattle.ss_readings.specs.Subject.{Subject}
use Rattle.ss_readings.specs.Seen.{seen, changes_until, changes_before, last_change}
use Rattle.ss_readings.specs.History.{step_row, step_rows, table_or_none, history_text}

-- the rows of some steps left of a list, of which n are still to be shown
pub row_more : (t : Input) (s : Subject) (p n m q : ℕ) (qs : List ℕ) → n ≡ m + 1 →
    step_rows t s p (take n (q ∷ qs)) ≡ step_row t s p q ++ step_rows t s p (take m qs)
row_more t s p zero m q qs e = absurd (omega (arith, e))
row_more t s p (suc n) m q qs e = let same : n ≡ m = omega (arith, e) in rw same refl

-- a row, from the state in which it is written
pub row_told : (t : Input) (s : Subject) (p : ℕ) (u : Moment) (after : Option Value) → u.input ≡ t →
    u.state ≡ run u.input (position u) → after ≡ seen t s p (position u + 1) →
    row (decimal (position u)) (signed_decimal u.state.clock) (section_at u.input (position u))
    (decimal (line_at u.input (position u))) (value_text after)
    ≡ step_row t s p (position u)
row_told t s p u after e f a = rw (f, e, a) refl

table_some : (t : Input) (s : Subject) (name : List ℕ) (e p : ℕ) (qs : List ℕ) → length qs ≢ 0 →
    table_or_none t s name e p qs ≡ head_of name ++ step_rows t s p qs
table_some t s name e p [] h = absurd (h refl)
table_some t s name e p (q ∷ qs) h = refl

table_none : (t : Input) (s : Subject) (name : List ℕ) (e p : ℕ) (qs : List ℕ) → length qs ≡ 0 →
    table_or_none t s name e p qs ≡ no_change_text e
table_none t s name e p [] h = refl
table_none t s name e p (q ∷ qs) h = absurd (omega (arith, h))

-- a history with steps
pub told_some : (t : Input) (s : Subject) (name : List ℕ) (n e p : ℕ) →
    length (take n (changes_before t s e p)) ≢ 0 →
    history_text t s name n e p ≡ head_of name ++ step_rows t s p (take n (changes_before t s e p))
unfolding history_text
told_some t s name n e p h = table_some t s name e p (take n (changes_before t s e p)) h

-- and one without
pub told_none : (t : Input) (s : Subject) (name : List ℕ) (n e p : ℕ) →
    length (take n (changes_before t s e p)) ≡ 0 → history_text t s name n e p ≡ no_change_text e
unfolding history_text
told_none t s name n e p h = table_none t s name e p (take n (changes_before t s e p)) h

-- the newest step
pub newest_is : (t : Input) (s : Subject) (e p q : ℕ) (qs : List ℕ) → changes_until t s p e p ≡ q ∷ qs →
    last_change t s e p ≡ Some q
newest_is t s e p q qs h = ap newest h

-- none
pub newest_none : (t : Input) (s : Subject) (e p : ℕ) → changes_until t s p e p ≡ [] → last_change t s e p ≡ None
newest_none t s e p h = ap newest h

-- the history of the same run with the same forgotten steps
pub history_moved : (t u : Input) (s v : Subject) (a b e f p q : ℕ) → u ≡ t → v ≡ s → b ≡ a → f ≡ e →
    changes_until u v b f p ≡ q ∷ changes_until u v b f q → changes_until t s a e p ≡ q ∷ changes_until t s a e q
history_moved t u s v a b e f p q i k l j h = rw (← i, ← k, ← l, ← j) h
