-- OVER and BACK OVER stay within their bounds, and no movement passes an end.
use Rattle.std.proofs.Common.{◌≡◌, ℕ, zero, suc, ◌<◌, ◌≤◌, Bool, true, false, cond, refl, arith, nat_lt, not, ◌-◌, List}
use borrow.Author.Tests.{ltb-true, ltb-false}
use Rattle.ss_state.specs.declared.limits.TheConstants.{LAST_POSITION}
use Rattle.ss_state.specs.Run.{Input}
use Rattle.ss_debug.specs.BreakLines.{BreakPoint}
use Rattle.ss_debug.specs.declared.commands.Command.TheVariants.{Blank, Bad, Move, Break, Clear, Forget, Show, Quit}
use Rattle.ss_debug.specs.declared.limits.TheConstants.{GREATEST_BOUND}
use Rattle.ss_debug.specs.Move as debugger
use Rattle.ss_debug.specs.Move.{is_ready_at, is_on_break, back_end, search_back_end, forward_end, EndsAt, StopCondition}
use Rattle.ss_debug.specs.Move.{MovementShape, forward, back, search_back}
use Rattle.ss_debug.specs.Turn.{DebuggerState, debugger_state_at, debugger_state_after, debugger_state_after_movement}
use Rattle.ss_debug.proofs.Moves.{forward_ends, search_back_ends}
use Rattle.ss_trace.specs.Movements.{CountedEnd, counted_end, ahead_condition, ahead_end, is_level, frames_at, is_met}
use Rattle.ss_trace.specs.Movements.{is_met_back}
use Rattle.ss_trace.specs.Movements.{over, back_over}
use Rattle.ss_trace.specs.Movements.{Shape, debugger_shape, ahead, seek_back, over_by, back_over_by, shape_of}
use Rattle.ss_trace.specs.Turn.{over_from, back_over_from, state_after_shape}
use Rattle.ss_trace.specs.Laws.{IsAheadWithin, IsBackWithin, AreReadyBefore, StandsBehindReady, StartIsBehindReady}
use Rattle.ss_trace.specs.Laws.{CommandsPassNoEnd, MovementsPassNoEnd}

ready_by : (b : Bool) (t : Input) (p q r : ℕ) → ((j : ℕ) → p ≤ j → j < q → is_ready_at t j ≡ true) →
    ((j : ℕ) → q ≤ j → j < r → is_ready_at t j ≡ true) → (j : ℕ) → nat_lt j q ≡ b → p ≤ j → j < r →
    is_ready_at t j ≡ true
ready_by true t p q r f g j e h k = f j h (omega (arith, ltb-true _ _ e))
ready_by false t p q r f g j e h k = g j (omega (arith, ltb-false _ _ e)) k

joined : (t : Input) (p n q r : ℕ) → IsAheadWithin t p n q → IsAheadWithin t q (n - (q - p)) r → IsAheadWithin t p n r
joined t p n q r first rest = record {
  no_earlier = omega (arith, first.no_earlier, rest.no_earlier);
  within = omega (arith, first.no_earlier, first.within, rest.within);
  not_past_the_last = rest.not_past_the_last;
  not_past_an_end = λ j. ready_by _ t p q r first.not_past_an_end rest.not_past_an_end j refl;
}

over_step : (a b : Bool) (t : Input) (p n q k : ℕ) (c : CountedEnd) → IsAheadWithin t p n q →
    IsAheadWithin t q (n - (q - p)) c.position →
    IsAheadWithin t p n (cond (not a) (counted_end q (suc k)) (cond b (counted_end q k) c)).position
over_step false b t p n q k c first rest = first
over_step true true t p n q k c first rest = first
over_step true false t p n q k c first rest = joined t p n q c.position first rest

ahead_of : (t : Input) (breaks : List BreakPoint) (test : ℕ → Bool) (p n q : ℕ) →
    EndsAt t (ahead_condition t breaks test) p n q → IsAheadWithin t p n q
ahead_of t breaks test p n q e = record {
  no_earlier = e.no_earlier;
  within = e.within;
  not_past_the_last = e.not_past_the_last;
  not_past_an_end = e.not_past_an_end;
}

-- the end of OVER, k times
pub over_ends : (t : Input) (breaks : List BreakPoint) (k p n : ℕ) → p ≤ LAST_POSITION →
    IsAheadWithin t p n (over t breaks k p n).position
unfolding over
over_ends t breaks zero p n o = record {
  no_earlier = omega arith;
  within = omega arith;
  not_past_the_last = o;
  not_past_an_end = λ j h g. absurd (omega arith);
}
over_ends t breaks (suc k) p n o =
    let level : ℕ → Bool = is_level t (frames_at t p) in
    let q : ℕ = ahead_end t breaks level p n in
    let first = ahead_of t breaks level p n q (forward_ends t (ahead_condition t breaks level) p n o) in
    over_step (is_met level p q) (is_on_break t breaks q) t p n q k (over t breaks k q (n - (q - p))) first
    (over_ends t breaks k q (n - (q - p)) first.not_past_the_last)

back_step : (a : Bool) (e p n q k : ℕ) (c : CountedEnd) → IsBackWithin e p n q →
    IsBackWithin e q (n - (p - q)) c.position → IsBackWithin e p n (cond (not a) (counted_end q (suc k)) c).position
back_step false e p n q k c first rest = first
back_step true e p n q k c first rest = record {
  no_later = omega (arith, first.no_later, rest.no_later);
  not_before_the_kept = rest.not_before_the_kept;
  within = omega (arith, first.no_later, first.within, rest.within);
}

-- the end of BACK OVER, k times
pub back_over_ends : (t : Input) (e k p n : ℕ) → e ≤ p → IsBackWithin e p n (back_over t e k p n).position
unfolding back_over
back_over_ends t e zero p n o = record { no_later = omega arith; not_before_the_kept = o; within = omega arith }
back_over_ends t e (suc k) p n o =
    let level : ℕ → Bool = is_level t (frames_at t p) in
    let q : ℕ = search_back_end level e p n in
    let f = search_back_ends level e p n o in
    let first : IsBackWithin e p n q = record {
      no_later = f.no_later;
      not_before_the_kept = f.not_before_the_kept;
      within = f.within;
    } in
    back_step (is_met_back level p q) e p n q k (back_over t e k q (n - (p - q))) first
    (back_over_ends t e k q (n - (p - q)) first.not_before_the_kept)

-- ---- ends

ready_on : (b : Bool) (t : Input) (p q j : ℕ) → nat_lt j p ≡ b → AreReadyBefore t p →
    ((k : ℕ) → p ≤ k → k < q → is_ready_at t k ≡ true) → j < q → is_ready_at t j ≡ true
ready_on true t p q j e f g h = f j (omega (arith, ltb-true _ _ e))
ready_on false t p q j e f g h = g j (omega (arith, ltb-false _ _ e)) h

-- a position further on, before which no state has ended
pub stands_on : (t : Input) (d : DebuggerState) (q : ℕ) → StandsBehindReady t d → d.position ≤ q → q ≤ LAST_POSITION →
    ((k : ℕ) → d.position ≤ k → k < q → is_ready_at t k ≡ true) → StandsBehindReady t (debugger_state_at d q)
stands_on t d q s h l f = record {
  kept = omega (arith, s.kept, h);
  not_past_the_last = l;
  ready = λ j g. ready_on (nat_lt j d.position) t d.position q j refl s.ready f g;
}

-- a kept position further back
stands_back : (t : Input) (d : DebuggerState) (q : ℕ) → StandsBehindReady t d → d.earliest ≤ q → q ≤ d.position →
    StandsBehindReady t (debugger_state_at d q)
stands_back t d q s h l = record {
  kept = h;
  not_past_the_last = omega (arith, s.not_past_the_last, l);
  ready = λ j g. s.ready j (omega (arith, g, l));
}

-- the position at which the condition of a movement forward is met
stands_ahead : (t : Input) (d : DebuggerState) (c : StopCondition) (n : ℕ) → StandsBehindReady t d →
    StandsBehindReady t (debugger_state_at d (forward_end t c d.position n))
stands_ahead t d c n s =
    let e = forward_ends t c d.position n s.not_past_the_last in
    stands_on t d (forward_end t c d.position n) s e.no_earlier e.not_past_the_last e.not_past_an_end

stands_searched : (t : Input) (d : DebuggerState) (test : ℕ → Bool) (n : ℕ) → StandsBehindReady t d →
    StandsBehindReady t (debugger_state_at d (search_back_end test d.earliest d.position n))
stands_searched t d test n s =
    let e = search_back_ends test d.earliest d.position n s.kept in
    stands_back t d (search_back_end test d.earliest d.position n) s e.not_before_the_kept e.no_later

-- the debugger's own movements
stands_moved : (t : Input) (d : DebuggerState) (shape : MovementShape) → StandsBehindReady t d →
    StandsBehindReady t (debugger_state_after_movement t d shape)
stands_moved t d (forward c n) s = stands_ahead t d c n s
stands_moved t d (back n) s = stands_back t d (back_end d.earliest d.position n) s (omega arith) (omega (arith, s.kept))
stands_moved t d (search_back test word) s = stands_searched t d test GREATEST_BOUND s

-- each movement
pub stands_shaped : (t : Input) (d : DebuggerState) (shape : Shape) → StandsBehindReady t d →
    StandsBehindReady t (state_after_shape t d shape)
stands_shaped t d (debugger_shape shape) s = stands_moved t d shape s
stands_shaped t d (ahead test word) s = stands_ahead t d (ahead_condition t d.breaks test) GREATEST_BOUND s
stands_shaped t d (seek_back test word) s = stands_searched t d test GREATEST_BOUND s
stands_shaped t d (over_by k) s =
    let e = over_ends t d.breaks k d.position GREATEST_BOUND s.not_past_the_last in
    stands_on t d (over_from t d k).position s e.no_earlier e.not_past_the_last e.not_past_an_end
stands_shaped t d (back_over_by k) s =
    let e = back_over_ends t d.earliest k d.position GREATEST_BOUND s.kept in
    stands_back t d (back_over_from t d k).position s e.not_before_the_kept e.no_later

pub starts_ready : StartIsBehindReady
starts_ready t = record {
  kept = omega arith;
  not_past_the_last = omega arith;
  ready = λ k h. absurd (omega (arith, h));
}

pub movements_pass_none : MovementsPassNoEnd
movements_pass_none t d m s = stands_shaped t d (shape_of t d.position m) s

pub commands_pass_none : CommandsPassNoEnd
unfolding debugger_state_after
commands_pass_none t d (Move m) s = stands_moved t d (debugger.shape_of t d.breaks m) s
commands_pass_none t d (Break line) s =
    record { kept = s.kept; not_past_the_last = s.not_past_the_last; ready = s.ready }
commands_pass_none t d (Clear line) s =
    record { kept = s.kept; not_past_the_last = s.not_past_the_last; ready = s.ready }
commands_pass_none t d (Forget n) s =
    record { kept = omega (arith, s.kept); not_past_the_last = s.not_past_the_last; ready = s.ready }
commands_pass_none t d Blank s = s
commands_pass_none t d Bad s = s
commands_pass_none t d (Show q) s = s
commands_pass_none t d Quit s = s
