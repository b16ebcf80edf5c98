-- OVER and BACK OVER, one part at a time.
use Rattle.std.proofs.Common.{◌≡◌, ℕ, zero, suc, ◌+◌, ◌-◌, ◌<◌, ◌≤◌, List, Bool, true, false, not, refl, sym, arith}
use Rattle.std.proofs.Common.{min}
use Rattle.std.proofs.Common.{cond, ◌∙◌}
use Rattle.ss_state.specs.declared.limits.TheConstants.{LAST_POSITION}
use Rattle.ss_state.specs.Run.{Input}
use Rattle.ss_debug.specs.BreakLines.{BreakPoint}
use Rattle.ss_debug.specs.Move.{is_on_break, stops, stops_back, search_back_end}
use Rattle.ss_debug.proofs.Moves.{least_within}
use Rattle.ss_trace.specs.Movements.{counted_end, is_level, frames_at, ahead_condition, ahead_end, is_met, is_met_back}
use Rattle.ss_trace.specs.Movements.{over, back_over}

-- ---- within the bound

-- a movement forward ends within its bound
pub ahead_within : (t : Input) (bs : List BreakPoint) (test : ℕ → Bool) (p n q : ℕ) → q ≡ ahead_end t bs test p n →
    (p ≤ q) × (q ≤ p + n)
ahead_within t bs test p n q e =
    let w = least_within (stops t (ahead_condition t bs test) p) (min n (LAST_POSITION - p)) in
    (omega (arith, e), omega (arith, e, w))

-- so does a movement back
pub back_within : (test : ℕ → Bool) (a p n q : ℕ) → q ≡ search_back_end test a p n → (q ≤ p) × (p ≤ q + n)
back_within test a p n q e =
    let w = least_within (stops_back test p) (min n (p - a)) in
    (omega (arith, e), omega (arith, e, w))

-- ---- OVER

unmade : (t : Input) (bs : List BreakPoint) (k p n q : ℕ) → 0 < k → q ≡ ahead_end t bs (is_level t (frames_at t p)) p n →
    is_met (is_level t (frames_at t p)) p q ≡ false → over t bs k p n ≡ counted_end q k
unfolding over
unmade t bs zero p n q h e f = absurd (omega arith)
unmade t bs (suc k) p n q h e f = rw (sym e, f) refl

broken : (t : Input) (bs : List BreakPoint) (k r p n q : ℕ) → r ≡ k + 1 →
    q ≡ ahead_end t bs (is_level t (frames_at t p)) p n → is_met (is_level t (frames_at t p)) p q ≡ true →
    is_on_break t bs q ≡ true → over t bs r p n ≡ counted_end q k
unfolding over
broken t bs k zero p n q h e f b = absurd (omega (arith, h))
broken t bs k (suc r) p n q h e f b = let same : k ≡ r = omega (arith, h) in rw (same, sym e, f, b) refl

goes_on : (t : Input) (bs : List BreakPoint) (k r p n q : ℕ) → r ≡ k + 1 →
    q ≡ ahead_end t bs (is_level t (frames_at t p)) p n → is_met (is_level t (frames_at t p)) p q ≡ true →
    is_on_break t bs q ≡ false → over t bs r p n ≡ over t bs k q (n - (q - p))
unfolding over
goes_on t bs k zero p n q h e f b = absurd (omega (arith, h))
goes_on t bs k (suc r) p n q h e f b = let same : k ≡ r = omega (arith, h) in rw (same, sym e, f, b) refl

-- if no part is left it ends at its start
pub over_none : (t : Input) (bs : List BreakPoint) (k p n : ℕ) → k ≡ 0 → over t bs k p n ≡ counted_end p 0
unfolding over
over_none t bs k p n e = rw e refl

-- one part more from p, as the debugger at hand sees it: its end, and whether it was made
pub record IsOver (u : Input) (cs : List BreakPoint) (p n q : ℕ) (b : Bool) : Type 0 where
  -- its end
  pub ended : q ≡ ahead_end u cs (is_level u (frames_at u p)) p n
  -- whether it was made
  pub made : b ≡ is_met (is_level u (frames_at u p)) p q

-- if one more is not made it ends there
pub over_unmade : (t u : Input) (bs cs : List BreakPoint) (k p n q : ℕ) (made : Bool) → u ≡ t → cs ≡ bs → 0 < k →
    IsOver u cs p n q made → made ≡ false → over t bs k p n ≡ counted_end q k
over_unmade t u bs cs k p n q made e f h w m = rw (sym e, sym f) (unmade u cs k p n q h w.ended (sym w.made ∙ m))

-- at a break line it ends, if one more is made
pub over_at_break : (t u : Input) (bs cs : List BreakPoint) (k r p n q : ℕ) (made : Bool) → u ≡ t → cs ≡ bs → r ≡ k + 1 →
    IsOver u cs p n q made → made ≡ true → is_on_break u cs q ≡ true → over t bs r p n ≡ counted_end q k
over_at_break t u bs cs k r p n q made e f h w m b =
    rw (sym e, sym f) (broken u cs k r p n q h w.ended (sym w.made ∙ m) b)

-- else the others follow
pub over_on : (t u : Input) (bs cs : List BreakPoint) (k r p n q : ℕ) (made : Bool) → u ≡ t → cs ≡ bs → r ≡ k + 1 →
    IsOver u cs p n q made → made ≡ true → is_on_break u cs q ≡ false →
    over t bs r p n ≡ over t bs k q (n - (q - p))
over_on t u bs cs k r p n q made e f h w m b =
    rw (sym e, sym f) (goes_on u cs k r p n q h w.ended (sym w.made ∙ m) b)

first_of_over : (u b : Bool) (t : Input) (bs : List BreakPoint) (k p n q r : ℕ) → q ≤ (over t bs k q r).position →
    q ≤ (cond (not u) (counted_end q (suc k)) (cond b (counted_end q k) (over t bs k q r))).position
first_of_over false b t bs k p n q r h = omega arith
first_of_over true true t bs k p n q r h = omega arith
first_of_over true false t bs k p n q r h = h

-- it goes no further back than its start
pub over_not_before : (t : Input) (bs : List BreakPoint) (k p n : ℕ) → p ≤ (over t bs k p n).position
unfolding over
over_not_before t bs zero p n = omega arith
over_not_before t bs (suc k) p n =
    let q : ℕ = ahead_end t bs (is_level t (frames_at t p)) p n in
    let w = ahead_within t bs (is_level t (frames_at t p)) p n q refl in
    let h = first_of_over (is_met (is_level t (frames_at t p)) p q) (is_on_break t bs q) t bs k p n q (n - (q - p))
    (over_not_before t bs k q (n - (q - p))) in
    omega (arith, w.0, h)

first_at : (t : Input) (bs : List BreakPoint) (k p n : ℕ) → 0 < k →
    ahead_end t bs (is_level t (frames_at t p)) p n ≤ (over t bs k p n).position
unfolding over
first_at t bs zero p n h = absurd (omega arith)
first_at t bs (suc k) p n h =
    let q : ℕ = ahead_end t bs (is_level t (frames_at t p)) p n in
    first_of_over (is_met (is_level t (frames_at t p)) p q) (is_on_break t bs q) t bs k p n q (n - (q - p))
    (over_not_before t bs k q (n - (q - p)))

-- its first part ends no further on than all of it
pub over_first : (t u : Input) (bs cs : List BreakPoint) (k p n q : ℕ) → u ≡ t → cs ≡ bs → 0 < k →
    q ≤ ahead_end u cs (is_level u (frames_at u p)) p n → q ≤ (over t bs k p n).position
over_first t u bs cs k p n q e f h o =
    rw (sym e, sym f) (let first = first_at u cs k p n h in omega (arith, o, first))

-- ---- BACK OVER

back_unmade : (t : Input) (a k p n q : ℕ) → 0 < k → q ≡ search_back_end (is_level t (frames_at t p)) a p n →
    is_met_back (is_level t (frames_at t p)) p q ≡ false → back_over t a k p n ≡ counted_end q k
unfolding back_over
back_unmade t a zero p n q h e f = absurd (omega arith)
back_unmade t a (suc k) p n q h e f = rw (sym e, f) refl

goes_back_on : (t : Input) (a k r p n q : ℕ) → r ≡ k + 1 →
    q ≡ search_back_end (is_level t (frames_at t p)) a p n → is_met_back (is_level t (frames_at t p)) p q ≡ true →
    back_over t a r p n ≡ back_over t a k q (n - (p - q))
unfolding back_over
goes_back_on t a k zero p n q h e f = absurd (omega (arith, h))
goes_back_on t a k (suc r) p n q h e f = let same : k ≡ r = omega (arith, h) in rw (same, sym e, f) refl

-- if no part is left it ends at its start
pub back_over_none : (t : Input) (a k p n : ℕ) → k ≡ 0 → back_over t a k p n ≡ counted_end p 0
unfolding back_over
back_over_none t a k p n e = rw e refl

-- one part more back from p, as the debugger at hand sees it: its end, and whether it was made
pub record IsBackOver (u : Input) (a p n q : ℕ) (b : Bool) : Type 0 where
  -- its end
  pub ended : q ≡ search_back_end (is_level u (frames_at u p)) a p n
  -- whether it was made
  pub made : b ≡ is_met_back (is_level u (frames_at u p)) p q

-- if one more is not made it ends there
pub back_over_unmade : (t u : Input) (a b k p n q : ℕ) (made : Bool) → u ≡ t → b ≡ a → 0 < k →
    IsBackOver u b p n q made → made ≡ false → back_over t a k p n ≡ counted_end q k
back_over_unmade t u a b k p n q made e f h w m =
    rw (sym e, sym f) (back_unmade u b k p n q h w.ended (sym w.made ∙ m))

-- else the others follow
pub back_over_on : (t u : Input) (a b k r p n q : ℕ) (made : Bool) → u ≡ t → b ≡ a → r ≡ k + 1 →
    IsBackOver u b p n q made → made ≡ true → back_over t a r p n ≡ back_over t a k q (n - (p - q))
back_over_on t u a b k r p n q made e f h w m =
    rw (sym e, sym f) (goes_back_on u b k r p n q h w.ended (sym w.made ∙ m))
