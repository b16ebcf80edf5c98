-- Laws on the movements to a state at which a test holds.
use Rattle.std.proofs.Common.{◌≡◌, ℕ, ◌+◌, ◌-◌, ◌<◌, ◌≤◌, Bool, true, false, ◌⊎◌, inl, inr, not, ◌||◌, refl, arith}
use Rattle.std.proofs.Common.{subst, nat_lt}
use borrow.Author.Tests.{ltb-true, ltb-false}
use Rattle.ss_state.specs.declared.limits.TheConstants.{LAST_POSITION}
use Rattle.ss_state.specs.Run.{Input}
use Rattle.ss_debug.specs.declared.limits.TheConstants.{GREATEST_BOUND}
use Rattle.ss_debug.specs.Move.{is_ready_at, least, search_back_end}
use Rattle.ss_debug.specs.Turn.{DebuggerState, debugger_state_at}
use Rattle.ss_debug.proofs.Moves.{least_within, least_below, least_passes, search_back_ends, one_search_back_end}
use Rattle.ss_trace.specs.Laws.{FirstEnds, StandsBehindReady, UntilsPassNoEnd}
use Rattle.ss_trace.specs.Laws.{BackUntilReturns}
use Rattle.ss_trace.specs.Turn.{end_of}
use Rattle.ss_trace.specs.Until.{is_first_stop, first_end, run_until, back_until}
use Rattle.ss_trace.proofs.Ends.{stands_on, stands_shaped}

unmet_ready : (a b : Bool) → (not a || b) ≡ false → (a ≡ true) × (b ≡ false)
unmet_ready true b e = (refl, e)
unmet_ready false b e = absurd (cc)

met_or_ended : (a b : Bool) → (not a || b) ≡ true → (a ≡ false) ⊎ (b ≡ true)
met_or_ended true b e = inr e
met_or_ended false b e = inl refl

-- no position before its end stops it
passed : (t : Input) (test : ℕ → Bool) (p k : ℕ) → p ≤ k → k < first_end t test p → is_first_stop t test k ≡ false
passed t test p k h g =
    let e : p + (k - p) ≡ k = omega (arith, h) in
    let P : ℕ → Type 0 = λ q. is_first_stop t test q ≡ false in
    subst P e (least_below (λ j. is_first_stop t test (p + j)) (LAST_POSITION - p) (k - p) (omega (arith, h, g)))

reason : (b : Bool) (t : Input) (test : ℕ → Bool) (p k : ℕ) → nat_lt k (LAST_POSITION - p) ≡ b → p ≤ LAST_POSITION →
    k ≤ LAST_POSITION - p → (k < LAST_POSITION - p → is_first_stop t test (p + k) ≡ true) →
    (p + k ≡ LAST_POSITION) ⊎ ((is_ready_at t (p + k) ≡ false) ⊎ (test (p + k) ≡ true))
reason true t test p k e h w found =
    inr (met_or_ended (is_ready_at t (p + k)) (test (p + k)) (found (omega (arith, ltb-true _ _ e))))
reason false t test p k e h w found = inl (omega (arith, ltb-false _ _ e, h, w))

pub ends_at_first : FirstEnds
ends_at_first t test p h =
    let stop : ℕ → Bool = λ j. is_first_stop t test (p + j) in
    let n : ℕ = LAST_POSITION - p in
    let w = least_within stop n in
    record {
      no_earlier = omega arith;
      not_past_the_last = omega (arith, h, w);
      not_past_an_end = λ k f g. (unmet_ready (is_ready_at t k) (test k) (passed t test p k f g)).0;
      not_past_a_met = λ k f g. (unmet_ready (is_ready_at t k) (test k) (passed t test p k f g)).1;
      for_a_reason = reason _ t test p (least stop n) refl h w (least_passes stop n);
    }

-- the earliest kept position is one before which all states are ready
stands_at_earliest : (t : Input) (d : DebuggerState) → StandsBehindReady t d →
    StandsBehindReady t (debugger_state_at d d.earliest)
stands_at_earliest t d s = record {
  kept = omega arith;
  not_past_the_last = omega (arith, s.kept, s.not_past_the_last);
  ready = λ k h. s.ready k (omega (arith, h, s.kept));
}

pub aims_pass_none : UntilsPassNoEnd
aims_pass_none t d test s =
    let start = stands_at_earliest t d s in
    let f = ends_at_first t test d.earliest start.not_past_the_last in
    record {
      run = stands_shaped t d (run_until test) s;
      back = stands_shaped t d (back_until test) s;
      first = stands_on t (debugger_state_at d d.earliest) (first_end t test d.earliest) start f.no_earlier
          f.not_past_the_last f.not_past_an_end;
    }

pub returns_back : BackUntilReturns
returns_back t d test p h =
    let q : ℕ = end_of t d (run_until test) in
    λ met later within none.
    one_search_back_end test d.earliest p GREATEST_BOUND (search_back_end test d.earliest p GREATEST_BOUND) q
    (search_back_ends test d.earliest p GREATEST_BOUND (omega (arith, h, later)))
    (record {
      no_later = omega (arith, later);
      not_before_the_kept = omega (arith, h);
      within = within;
      not_past_a_met = none;
      for_a_reason = inr (inr (later, met));
    })
