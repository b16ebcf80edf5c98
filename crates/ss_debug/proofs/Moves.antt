use Rattle.std.proofs.Common.{◌≡◌, ℕ, ◌+◌, ◌<◌, ◌≤◌, Bool, true, false, zero, suc, refl, sym, ap, arith, cond, nat_lt}
use Rattle.std.proofs.Common.{nat_le, min, not, ◌||◌, ◌&&◌, ◌-◌, List, subst, ◌⊎◌, inl, inr, rules}
use borrow.Author.Count.{below_more}
use borrow.Author.Tests.{ltb-true, ltb-false, leb-true, leb-false}
use Rattle.ss_state.specs.declared.limits.TheConstants.{LAST_POSITION}
use Rattle.ss_state.specs.Run.{Input}
use Rattle.ss_debug.specs.declared.stop_condition.StopCondition.{StopCondition as StopChoice}
use Rattle.ss_debug.specs.BreakLines.{BreakPoint}
use Rattle.ss_debug.specs.View.{condition_of}
use Rattle.ss_debug.specs.Move.{StopCondition, step_condition, least, is_stop, stops, forward_end, is_ready_at, has_come}
use Rattle.ss_debug.specs.Move.{is_on_break, EndsAt, stops_back, search_back_end, EndsBackAt}

least_step : (b c : Bool) (m n : ℕ) → nat_lt m n ≡ b → m ≤ n → cond b m (cond c n (suc n)) ≤ suc n
least_step true c m n e h = omega arith
least_step false true m n e h = omega arith
least_step false false m n e h = omega arith

-- it is at most the bound
pub least_within : (test : ℕ → Bool) (n : ℕ) → least test n ≤ n
unfolding least
least_within test zero = omega arith
least_within test (suc n) = least_step _ _ _ n refl (least_within test n)

least_found_at : (test : ℕ → Bool) (b c : Bool) (m n : ℕ) → nat_lt m n ≡ b → test n ≡ c → (m < n → test m ≡ true) →
    cond b m (cond c n (suc n)) < suc n →
    test (cond b m (cond c n (suc n))) ≡ true
least_found_at test true c m n e f k h = k (omega (arith, ltb-true _ _ e))
least_found_at test false true m n e f k h = f
least_found_at test false false m n e f k h = absurd (omega arith)

-- below the bound it passes
pub least_passes : (test : ℕ → Bool) (n : ℕ) → least test n < n → test (least test n) ≡ true
unfolding least
least_passes test zero h = absurd (omega arith)
least_passes test (suc n) h = least_found_at test _ _ (least test n) n refl refl (least_passes test n) h

least_below_at : (test : ℕ → Bool) (b c : Bool) (m n k : ℕ) → nat_lt m n ≡ b → test n ≡ c →
    ((j : ℕ) → j < m → test j ≡ false) → m ≤ n →
    k < cond b m (cond c n (suc n)) → test k ≡ false
least_below_at test true c m n k e f none w h = none k h
least_below_at test false true m n k e f none w h = none k (omega (arith, ltb-false _ _ e))
least_below_at test false false m n k e f none w h =
    below_more (λ j. test j ≡ false) n (λ j g. none j (omega (arith, ltb-false _ _ e))) f k (omega arith)

-- none below it passes
pub least_below : (test : ℕ → Bool) (n k : ℕ) → k < least test n → test k ≡ false
unfolding least
least_below test zero k h = absurd (omega arith)
least_below test (suc n) k h =
    least_below_at test _ _ (least test n) n k refl refl (λ j g. least_below test n j g) (least_within test n) h

least_or : (b : Bool) (test : ℕ → Bool) (m k n : ℕ) → nat_lt m k ≡ b → k ≤ n → m ≤ n →
    ((j : ℕ) → j < k → test j ≡ false) →
    (m < n → test m ≡ true) → k ≤ m
least_or true test m k n e h w none found =
    let lt : m < k = omega (arith, ltb-true _ _ e) in
    let yes = found (omega arith) in
    let no = none m lt in
    absurd (cc)
least_or false test m k n e h w none found = omega (arith, ltb-false _ _ e)

-- if none of the first k passes, it is at least k
pub least_at_least : (test : ℕ → Bool) (n k : ℕ) → k ≤ n → ((j : ℕ) → j < k → test j ≡ false) → k ≤ least test n
least_at_least test n k h none =
    least_or _ test (least test n) k n refl h (least_within test n) none (least_passes test n)

least_not_above : (b : Bool) (test : ℕ → Bool) (m k n : ℕ) → nat_lt k m ≡ b → k ≤ n → m ≤ n →
    ((j : ℕ) → j < m → test j ≡ false) →
    (k < n → test k ≡ true) → m ≤ k
least_not_above true test m k n e h w none found =
    let lt : k < m = omega (arith, ltb-true _ _ e) in
    let yes = found (omega arith) in
    let no = none k lt in
    absurd (cc)
least_not_above false test m k n e h w none found = omega (arith, ltb-false _ _ e)

-- it is the first that passes, or the bound
pub least_is : (test : ℕ → Bool) (n k : ℕ) → k ≤ n → ((j : ℕ) → j < k → test j ≡ false) → (k < n → test k ≡ true) →
    least test n ≡ k
least_is test n k h none found =
    let low = least_at_least test n k h none in
    let high =
    least_not_above _ test (least test n) k n refl h (least_within test n) (λ j g. least_below test n j g) found in
    omega arith

pub or_false_left : (a b c : Bool) → (not a || b || c) ≡ false → a ≡ true
or_false_left true b c e = refl
or_false_left false b c e = absurd (cc)

or_false_time : (a b c : Bool) → (not a || b || c) ≡ false → b ≡ false
or_false_time true false c e = refl
or_false_time true true c e = absurd (cc)
or_false_time false b c e = absurd (cc)

or_false_break : (a b c d : Bool) → (not a || b || (c && d)) ≡ false → c ≡ true → d ≡ false
or_false_break true false true d e f = e
or_false_break true true c d e f = absurd (cc)
or_false_break true false false d e f = absurd (cc)
or_false_break false b c d e f = absurd (cc)

or_true : (a b c d : Bool) → (not a || b || (c && d)) ≡ true →
    (a ≡ false) ⊎ ((b ≡ true) ⊎ ((c ≡ true) × (d ≡ true)))
or_true false b c d e = inl refl
or_true true true c d e = inr (inl refl)
or_true true false true true e = inr (inr (refl, refl))
or_true true false true false e = absurd (cc)
or_true true false false d e = absurd (cc)

lt_is_true : (i j : ℕ) → i < j → nat_lt i j ≡ true
lt_is_true i j h = search rules

-- why a movement that ended at q, less than n positions on, ended there
abbrev HasStopped : Input → StopCondition → ℕ → ℕ → Type 0
HasStopped t condition p q =
    (is_ready_at t q ≡ false) ⊎ ((has_come t condition.time q ≡ true) ⊎ ((p < q)
    × (condition.test q ≡ true)))

reason_is : (t : Input) (condition : StopCondition) (p k : ℕ) →
    (is_ready_at t (p + k) ≡ false) ⊎ ((has_come t condition.time (p + k) ≡ true) ⊎ ((nat_lt p (p + k) ≡ true)
    × (condition.test (p + k) ≡ true))) →
    HasStopped t condition p (p + k)
reason_is t condition p k (inl r) = inl r
reason_is t condition p k (inr (inl r)) = inr (inl r)
reason_is t condition p k (inr (inr r)) =
    let lt : p < p + k = omega (arith, ltb-true _ _ r.0) in inr (inr (lt, r.1))

reason_at : (b : Bool) (t : Input) (condition : StopCondition) (p n k : ℕ) → nat_lt k n ≡ b →
    k ≤ n → (k < n → stops t condition p k ≡ true) →
    (p + k ≡ p + n) ⊎ HasStopped t condition p (p + k)
reason_at true t condition p n k e h found =
    let stopped = found (omega (arith, ltb-true _ _ e)) in
    inr (reason_is t condition p k
    (or_true (is_ready_at t (p + k)) (has_come t condition.time (p + k)) (nat_lt p (p + k))
    (condition.test (p + k)) stopped))
reason_at false t condition p n k e h found = inl (omega (arith, ltb-false _ _ e))

-- if a movement has made as many steps as it may, it has made n, or it is at the last position
bound_at : (b : Bool) (p n q : ℕ) → nat_le n (LAST_POSITION - p) ≡ b → p ≤ LAST_POSITION →
    q ≡ p + min n (LAST_POSITION - p) → (q ≡ p + n) ⊎ (q ≡ LAST_POSITION)
bound_at true p n q e h f = inl (omega (arith, leb-true _ _ e, f))
bound_at false p n q e h f = inr (omega (arith, leb-false _ _ e, f, h))

reason_of : (t : Input) (condition : StopCondition) (p n q : ℕ) → p ≤ LAST_POSITION →
    (q ≡ p + min n (LAST_POSITION - p)) ⊎ HasStopped t condition p q →
    (q ≡ p + n) ⊎ ((q ≡ LAST_POSITION) ⊎ HasStopped t condition p q)
reason_of t condition p n q h (inl e) = at_bound (bound_at _ p n q refl h e)
  where
    at_bound : (q ≡ p + n) ⊎ (q ≡ LAST_POSITION) →
        (q ≡ p + n) ⊎ ((q ≡ LAST_POSITION) ⊎ HasStopped t condition p q)
    at_bound (inl f) = inl f
    at_bound (inr f) = inr (inl f)
reason_of t condition p n q h (inr s) = inr (inr s)

-- the computed end of a movement is an end in the sense of the one fact
pub forward_ends : (t : Input) (condition : StopCondition) (p n : ℕ) → p ≤ LAST_POSITION →
    EndsAt t condition p n (forward_end t condition p n)
forward_ends t condition p m before =
    let n : ℕ = min m (LAST_POSITION - p) in
    let test : ℕ → Bool = stops t condition p in
    let w = least_within test n in
    record {
      no_earlier = omega arith;
      within = omega arith;
      not_past_the_last = omega arith;
      not_past_an_end = λ k h g.
          let e : p + (k - p) ≡ k = omega arith in
          let P : ℕ → Type 0 = λ q. is_ready_at t q ≡ true in
          subst P e (or_false_left _ _ _ (least_below test n (k - p) (omega arith)));
      not_past_the_time = λ k h g.
          let e : p + (k - p) ≡ k = omega arith in
          let P : ℕ → Type 0 = λ q. has_come t condition.time q ≡ false in
          subst P e (or_false_time (is_ready_at t (p + (k - p))) _ _ (least_below test n (k - p) (omega arith)));
      not_past_a_met = λ k h g.
          let e : p + (k - p) ≡ k = omega arith in
          let P : ℕ → Type 0 = λ q. condition.test q ≡ false in
          subst P e
          (or_false_break (is_ready_at t (p + (k - p))) (has_come t condition.time (p + (k - p))) _ _
          (least_below test n (k - p) (omega arith)) (lt_is_true p (p + (k - p)) (omega arith)));
      for_a_reason =
          reason_of t condition p m (p + least test n) before
          (reason_at _ t condition p n (least test n) refl w (least_passes test n));
    }

no_end_before : (t : Input) (condition : StopCondition) (p n q r : ℕ) →
    EndsAt t condition p n q → EndsAt t condition p n r → q < r →
    (q ≡ p + n) ⊎ ((q ≡ LAST_POSITION) ⊎ HasStopped t condition p q) → q ≡ r
no_end_before t condition p n q r a b h (inl e) = let w = b.within in absurd (omega arith)
no_end_before t condition p n q r a b h (inr (inl e)) = let w = b.not_past_the_last in absurd (omega arith)
no_end_before t condition p n q r a b h (inr (inr (inl e))) =
    let ready = b.not_past_an_end q a.no_earlier h in absurd (cc)
no_end_before t condition p n q r a b h (inr (inr (inr (inl e)))) =
    let early = b.not_past_the_time q a.no_earlier h in absurd (cc)
no_end_before t condition p n q r a b h (inr (inr (inr (inr e)))) =
    let unmet = b.not_past_a_met q e.0 h in let met = e.1 in absurd (cc)

end_by_order : (t : Input) (condition : StopCondition) (p n q r : ℕ) (x y : Bool) →
    nat_lt q r ≡ x → nat_lt r q ≡ y →
    EndsAt t condition p n q → EndsAt t condition p n r → q ≡ r
end_by_order t condition p n q r true y e f a b =
    no_end_before t condition p n q r a b (omega (arith, ltb-true _ _ e)) a.for_a_reason
end_by_order t condition p n q r false true e f a b =
    sym (no_end_before t condition p n r q b a (omega (arith, ltb-true _ _ f)) b.for_a_reason)
end_by_order t condition p n q r false false e f a b = omega (arith, ltb-false _ _ e, ltb-false _ _ f)

-- and there is no other end
pub one_end : (t : Input) (condition : StopCondition) (p n q r : ℕ) →
    EndsAt t condition p n q → EndsAt t condition p n r → q ≡ r
one_end t condition p n q r a b = end_by_order t condition p n q r _ _ refl refl a b

-- whether a forward movement stops at q, k positions on
pub stops_here : (t u : Input) (breaks : List BreakPoint) (choice : StopChoice) (p q k from : ℕ) → u ≡ t → q ≡ p + k →
    from ≡ p → stops t (condition_of t breaks choice) p k ≡ is_stop u (condition_of u breaks choice) from q
stops_here t u breaks choice p q k from e f g = rw (e, f, g) refl

-- ---- forward, when only the status stops

-- tests that agree on each number have the same least number
least_same : (f g : ℕ → Bool) (n : ℕ) → ((k : ℕ) → f k ≡ g k) → least f n ≡ least g n
unfolding least
least_same f g zero same = refl
least_same f g (suc n) same = rw (least_same f g n same, same n) refl

-- a movement ends at the end of STEP, if it stops at the states at which STEP stops
pub end_of_step : (t : Input) (condition : StopCondition) (p n : ℕ)
    → ((q : ℕ) → is_stop t condition p q ≡ is_stop t step_condition p q)
    → forward_end t condition p n ≡ forward_end t step_condition p n
end_of_step t condition p n same =
    ap (λ k. p + k) (least_same (stops t condition p) (stops t step_condition p) (min n (LAST_POSITION - p))
    (λ k. same (p + k)))

not_or_never : (a b : Bool) → (not a || false || (b && false)) ≡ not a
not_or_never true true = refl
not_or_never true false = refl
not_or_never false b = refl

-- STEP stops if the status isn't ready
step_stops : (t : Input) (p k : ℕ) → stops t step_condition p k ≡ not (is_ready_at t (p + k))
step_stops t p k = not_or_never (is_ready_at t (p + k)) (nat_lt p (p + k))

-- a stop of STEP, seen from the machine at that position
pub stops_as_seen : (t u : Input) (p q k : ℕ) (ready : Bool) → u ≡ t → q ≡ p + k → ready ≡ is_ready_at u q
    → stops t step_condition p k ≡ not ready
stops_as_seen t u p q k ready e f seen = rw (seen, e, f) (step_stops t p k)

-- ---- back to a state at which a test holds

and_false : (a b : Bool) → (a && b) ≡ false → a ≡ true → b ≡ false
and_false true b e f = e
and_false false b e f = absurd (cc)

and_true : (a b : Bool) → (a && b) ≡ true → (a ≡ true) × (b ≡ true)
and_true true true e = (refl, refl)
and_true true false e = absurd (cc)
and_true false b e = absurd (cc)

back_at_bound : (b : Bool) (test : ℕ → Bool) (a p n k : ℕ) → a ≤ p → nat_le n (p - a) ≡ b → min n (p - a) ≤ k →
    k ≤ min n (p - a) →
    (p - k ≡ a) ⊎ ((p ≡ (p - k) + n) ⊎ ((p - k < p) × (test (p - k) ≡ true)))
back_at_bound true test a p n k o e h g = inr (inl (omega (arith, leb-true _ _ e)))
back_at_bound false test a p n k o e h g = inl (omega (arith, leb-false _ _ e))

back_reason : (b : Bool) (test : ℕ → Bool) (a p n k : ℕ) → a ≤ p → nat_lt k (min n (p - a)) ≡ b →
    k ≤ min n (p - a) → (k < min n (p - a) → stops_back test p k ≡ true) →
    (p - k ≡ a) ⊎ ((p ≡ (p - k) + n) ⊎ ((p - k < p) × (test (p - k) ≡ true)))
back_reason true test a p n k o e h found =
    let low : k < min n (p - a) = omega (arith, ltb-true _ _ e) in
    let stopped = and_true (nat_lt 0 k) _ (found low) in
    let more : 0 < k = omega (arith, ltb-true _ _ stopped.0) in
    inr (inr (omega arith, stopped.1))
back_reason false test a p n k o e h found =
    back_at_bound _ test a p n k o refl (omega (arith, ltb-false _ _ e)) h

-- the computed end of a search back is an end in the sense of the one fact
pub search_back_ends : (test : ℕ → Bool) (a p n : ℕ) → a ≤ p → EndsBackAt test a p n (search_back_end test a p n)
search_back_ends test a p n o =
    let stop : ℕ → Bool = stops_back test p in
    let w = least_within stop (min n (p - a)) in
    record {
      no_later = omega arith;
      not_before_the_kept = omega arith;
      within = omega arith;
      not_past_a_met = λ k h g.
          let e : p - (p - k) ≡ k = omega arith in
          let P : ℕ → Type 0 = λ q. test q ≡ false in
          subst P e
          (and_false _ _ (least_below stop (min n (p - a)) (p - k) (omega arith)) (lt_is_true 0 (p - k) (omega arith)));
      for_a_reason =
          back_reason _ test a p n (least stop (min n (p - a))) o refl w (least_passes stop (min n (p - a)));
    }

-- whether BACK BREAK stops at q, k positions back
pub stops_back_here : (t u : Input) (breaks : List BreakPoint) (p q k : ℕ) → u ≡ t → p ≡ q + k →
    stops_back (is_on_break t breaks) p k ≡ (nat_lt 0 k && is_on_break u breaks q)
stops_back_here t u breaks p q k e f = let g : p - k ≡ q = omega arith in rw (e, g) refl

-- a search back that has come from p to q, k positions back, ends there, if two things hold: it
-- went on from all positions between; and it is at its bound, or the test holds, or it is at the
-- earliest kept position
pub search_back_is : (test : ℕ → Bool) (a p n k q : ℕ) → p ≡ q + k → k ≤ n → a ≤ q →
    ((j : ℕ) → j < k → stops_back test p j ≡ false) →
    (k < n → a < q → stops_back test p k ≡ true) → search_back_end test a p n ≡ q
search_back_is test a p n k q e h o none found =
    let found_at : k < min n (p - a) → stops_back test p k ≡ true = λ g. found (omega arith) (omega arith) in
    let f = least_is (stops_back test p) (min n (p - a)) k (omega arith) none found_at in omega arith

no_back_end_before : (test : ℕ → Bool) (o p n q r : ℕ) →
    EndsBackAt test o p n q → EndsBackAt test o p n r → q < r →
    (r ≡ o) ⊎ ((p ≡ r + n) ⊎ ((r < p) × (test r ≡ true))) → q ≡ r
no_back_end_before test o p n q r a b h (inl e) = let w = a.not_before_the_kept in absurd (omega arith)
no_back_end_before test o p n q r a b h (inr (inl e)) = let w = a.within in absurd (omega arith)
no_back_end_before test o p n q r a b h (inr (inr e)) =
    let unmet = a.not_past_a_met r h e.0 in let met = e.1 in absurd (cc)

back_end_by_order : (test : ℕ → Bool) (o p n q r : ℕ) (x y : Bool) → nat_lt q r ≡ x → nat_lt r q ≡ y →
    EndsBackAt test o p n q → EndsBackAt test o p n r → q ≡ r
back_end_by_order test o p n q r true y e f a b =
    no_back_end_before test o p n q r a b (omega (arith, ltb-true _ _ e)) b.for_a_reason
back_end_by_order test o p n q r false true e f a b =
    sym (no_back_end_before test o p n r q b a (omega (arith, ltb-true _ _ f)) a.for_a_reason)
back_end_by_order test o p n q r false false e f a b = omega (arith, ltb-false _ _ e, ltb-false _ _ f)

-- and there is no other end
pub one_search_back_end : (test : ℕ → Bool) (o p n q r : ℕ) →
    EndsBackAt test o p n q → EndsBackAt test o p n r → q ≡ r
one_search_back_end test o p n q r a b = back_end_by_order test o p n q r _ _ refl refl a b

-- the steps to the least number that passes a test
pub ruleset least_steps = (least_is, least_at_least, or_false_left)
