-- Each movement ends within its bound, and FORGET leaves the newest steps.
use Rattle.std.proofs.Common.{ℕ, ◌≤◌, refl, arith}
use Rattle.ss_state.specs.declared.limits.TheConstants.{LAST_POSITION}
use Rattle.ss_state.specs.Run.{Input}
use Rattle.ss_debug.specs.declared.limits.TheConstants.{GREATEST_BOUND}
use Rattle.ss_debug.specs.Move.{MovementShape, forward, back, search_back}
use Rattle.ss_debug.specs.Turn.{DebuggerState, end_of}
use Rattle.ss_debug.specs.Laws.{bound_of_shape, IsWithinBound, MovementEndsWithinBound, ForgetLeavesTheNewestSteps}
use Rattle.ss_debug.proofs.Moves.{forward_ends, search_back_ends}

-- a movement ends within its bound
pub movement_within : MovementEndsWithinBound
movement_within t d (forward condition n) kept last =
    let e = forward_ends t condition d.position n last in
    record {
      no_further_on = e.within;
      no_further_back = let h = e.no_earlier in omega (arith, h);
      not_before_the_kept = let h = e.no_earlier in omega (arith, h, kept);
      not_past_the_last = e.not_past_the_last;
    }
movement_within t d (back n) kept last = record {
  no_further_on = omega arith;
  no_further_back = omega arith;
  not_before_the_kept = omega arith;
  not_past_the_last = omega arith;
}
movement_within t d (search_back test word) kept last =
    let e = search_back_ends test d.earliest d.position GREATEST_BOUND kept in
    record {
      no_further_on = let h = e.no_later in omega (arith, h);
      no_further_back = e.within;
      not_before_the_kept = e.not_before_the_kept;
      not_past_the_last = let h = e.no_later in omega (arith, h, last);
    }

-- the state that FORGET leaves
pub forget_leaves : ForgetLeavesTheNewestSteps
forget_leaves d n kept = record {
  position = refl;
  breaks = refl;
  kept = omega arith;
  back = λ k h. omega arith;
  no_further = λ k h. omega arith;
}
