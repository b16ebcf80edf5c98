-- Movements over a run: their positions after some steps, and their ends.
use Rattle.std.proofs.Common.{◌≡◌, ℕ, ◌+◌, ◌-◌, ◌<◌, ◌≤◌, min, Bool, true, false, not, ◌&&◌, nat_lt, refl, sym, ap}
use Rattle.std.proofs.Common.{◌∙◌, List, arith, subst}
use borrow.Author.Count.{below_more}
use borrow.Author.Tests.{ltb-true, ltb-false}
use Rattle.ss_state.specs.declared.limits.TheConstants.{LAST_POSITION}
use Rattle.ss_state.specs.declared.status.Status.{Status}
use Rattle.ss_state.specs.declared.status.Status.TheVariants.{Ready, Stopped, Finished, Faulted}
use Rattle.ss_state.specs.declared.stepped.Stepped.TheVariants.{Moved}
use Rattle.ss_state.specs.State.{State, is_ready}
use Rattle.ss_state.specs.Run.{Input, run}
use Rattle.ss_timeline.specs.Moment.{Moment, position, with_kept, HasMoved}
use Rattle.ss_machine.specs.Moment as machines
use Rattle.ss_machine.proofs.Timelines.{steps_on}
use Rattle.ss_debug.specs.declared.stop_condition.StopCondition.{StopCondition as StopChoice}
use Rattle.ss_debug.specs.BreakLines.{BreakPoint, AreSoundBreaks}
use Rattle.ss_debug.specs.View.{condition_of, search_end}
use Rattle.ss_debug.specs.Position.{IsAt, IsBetween}
use Rattle.ss_debug.specs.Move.{StopCondition, step_condition, is_stop, is_ready_at, stops, forward_end, back_end}
use Rattle.ss_debug.specs.Move.{is_on_break, stops_back}
use Rattle.ss_debug.proofs.Moves.{least_is, least_at_least, stops_as_seen, stops_here, search_back_is}

-- ---- the position after n steps

input_of : (start here : Moment) (n : ℕ) → here ≡ with_kept start n → here.input ≡ start.input
input_of start here n e = ap (λ (m : Moment). m.input) e

low_of : (start here : Moment) (n : ℕ) → here ≡ with_kept start n → here.low ≡ start.low
low_of start here n e = ap (λ (m : Moment). m.low) e

kept_of : (start here : Moment) (n : ℕ) → here ≡ with_kept start n → here.kept ≡ n
kept_of start here n e = ap (λ (m : Moment). m.kept) e

position_on : (start here : Moment) (k : ℕ) → here ≡ with_kept start (start.kept + k) →
    position here ≡ position start + k
position_on start here k same =
    let low = low_of start here (start.kept + k) same in
    let kept = kept_of start here (start.kept + k) same in omega (arith, low, kept)

pub position_back : (start here : Moment) (k : ℕ) → here ≡ with_kept start (start.kept - k) → k ≤ start.kept →
    position start ≡ position here + k
position_back start here k same some =
    let low = low_of start here (start.kept - k) same in
    let kept = kept_of start here (start.kept - k) same in omega (arith, low, kept, some)

-- one step more
pub on_again : (start here new : Moment) (k : ℕ) → here ≡ with_kept start (start.kept + k) →
    new ≡ with_kept here (here.kept + 1) → new ≡ with_kept start (start.kept + (k + 1))
on_again start here new k same moved =
    let kept : here.kept + 1 ≡ start.kept + (k + 1) = let e = kept_of start here (start.kept + k) same in omega (arith, e) in
    moved ∙ ap (λ (m : Moment). with_kept m (here.kept + 1)) same ∙ ap (λ (n : ℕ). with_kept start n) kept

pub back_again : (start here new : Moment) (k : ℕ) → here ≡ with_kept start (start.kept - k) →
    new ≡ with_kept here (here.kept - 1) → new ≡ with_kept start (start.kept - (k + 1))
back_again start here new k same moved =
    let kept : here.kept - 1 ≡ start.kept - (k + 1) = let e = kept_of start here (start.kept - k) same in omega (arith, e) in
    moved ∙ ap (λ (m : Moment). with_kept m (here.kept - 1)) same ∙ ap (λ (n : ℕ). with_kept start n) kept

-- ---- the conditions of break lines

-- they are sound for the run at each position
pub sound_on : (start here : Moment) (n : ℕ) (breaks : List BreakPoint) → here ≡ with_kept start n →
    AreSoundBreaks start.input.program breaks → AreSoundBreaks here.input.program breaks
sound_on start here n breaks e h =
    subst (λ (x : Input). AreSoundBreaks x.program breaks) (sym (input_of start here n e)) h

-- in the same run
pub sound_in : (t u : Input) (breaks : List BreakPoint) → u ≡ t → AreSoundBreaks t.program breaks →
    AreSoundBreaks u.program breaks
sound_in t u breaks e h = subst (λ (x : Input). AreSoundBreaks x.program breaks) (sym e) h

-- ---- forward

-- whether STEP stops, as seen from its present position
pub step_stops_here : (start here : Moment) (k : ℕ) (ready : Bool) → here ≡ with_kept start (start.kept + k) →
    ready ≡ is_ready_at here.input (position here) → stops start.input step_condition (position start) k ≡ not ready
step_stops_here start here k ready same seen =
    stops_as_seen start.input here.input (position start) (position here) k ready
    (input_of start here (start.kept + k) same) (position_on start here k same) seen

-- whether a movement stops, as seen from its present position
pub stops_seen : (start here : Moment) (breaks : List BreakPoint) (choice : StopChoice) (k from : ℕ) (b : Bool) →
    here ≡ with_kept start (start.kept + k) → from ≡ position start →
    b ≡ is_stop here.input (condition_of here.input breaks choice) from (position here) →
    stops start.input (condition_of start.input breaks choice) (position start) k ≡ b
stops_seen start here breaks choice k from b same begun seen =
    stops_here start.input here.input breaks choice (position start) (position here) k from
    (input_of start here (start.kept + k) same) (position_on start here k same) begun ∙ sym seen

-- k steps forward, past states in which the condition does not stop them
pub record HasPassed (start : Moment) (condition : StopCondition) (k : ℕ) (here : Moment) : Type 0 where
  -- it is there
  pub same : here ≡ with_kept start (start.kept + k)
  -- not past the last position
  pub within : k ≤ LAST_POSITION - position start
  -- none of the states before it stops
  pub went_on : (j : ℕ) → j < k → stops start.input condition (position start) j ≡ false

-- after one step more
pub one_passed : (start here new : Moment) (condition : StopCondition) (k : ℕ) → HasPassed start condition k here →
    stops start.input condition (position start) k ≡ false → k < LAST_POSITION - position start →
    new ≡ with_kept here (here.kept + 1) → HasPassed start condition (k + 1) new
one_passed start here new condition k held unmet h moved = record {
  same = on_again start here new k held.same moved;
  within = omega (arith, h);
  went_on = λ j g.
      below_more (λ i. stops start.input condition (position start) i ≡ false) k held.went_on unmet j (omega arith);
}

-- a movement that goes no further ends there
pub ends_here : (start here : Moment) (condition : StopCondition) (n k : ℕ) → HasPassed start condition k here → k ≤ n →
    (k < n → k < LAST_POSITION - position start → stops start.input condition (position start) k ≡ true) →
    IsAt start (forward_end start.input condition (position start) n) here
ends_here start here condition n k held h found =
    let within = held.within in
    let same = held.same in
    let end =
    least_is (stops start.input condition (position start)) (min n (LAST_POSITION - position start)) k
    (omega (arith, within)) held.went_on (λ g. found (omega arith) (omega arith)) in
    let place = position_on start here k same in
    record {
      input = input_of start here (start.kept + k) same;
      low = low_of start here (start.kept + k) same;
      position = omega (arith, place, end);
    }

-- one that is refused memory may have gone further
pub refused_here : (start here : Moment) (condition : StopCondition) (n k : ℕ) → HasPassed start condition k here → k ≤ n →
    IsBetween start (forward_end start.input condition (position start) n) here
refused_here start here condition n k held h =
    let within = held.within in
    let same = held.same in
    let further =
    least_at_least (stops start.input condition (position start)) (min n (LAST_POSITION - position start)) k
    (omega (arith, within)) held.went_on in
    let place = position_on start here k same in
    record {
      input = input_of start here (start.kept + k) same;
      low = low_of start here (start.kept + k) same;
      no_earlier = omega (arith, place);
      no_later = omega (arith, place, further);
    }

-- ---- back

-- k steps back, past states at which the test does not hold
pub record HasSearched (test : ℕ → Bool) (start : Moment) (k : ℕ) (here : Moment) : Type 0 where
  -- it is there
  pub same : here ≡ with_kept start (start.kept - k)
  -- at least k steps were kept
  pub some : k ≤ start.kept
  -- the test holds in none of the states before it
  pub went_on : (j : ℕ) → j < k → stops_back test (position start) j ≡ false

-- after one step more
pub one_searched : (test : ℕ → Bool) (start here new : Moment) (k : ℕ) → HasSearched test start k here →
    0 < here.kept → new ≡ with_kept here (here.kept - 1) → stops_back test (position start) k ≡ false →
    HasSearched test start (k + 1) new
one_searched test start here new k held some moved unmet =
    let kept = kept_of start here (start.kept - k) held.same in
    record {
      same = back_again start here new k held.same moved;
      some = omega (arith, kept, some);
      went_on = λ j h.
          below_more (λ i. stops_back test (position start) i ≡ false) k held.went_on unmet j (omega arith);
    }

-- a search that goes no further ends there
pub search_ends_here : (test : ℕ → Bool) (start here : Moment) (n k : ℕ) → HasSearched test start k here → k ≤ n →
    (k < n → 0 < here.kept → stops_back test (position start) k ≡ true) → IsAt start (search_end test start n) here
search_ends_here test start here n k held h found =
    let same = held.same in
    let some = held.some in
    let kept = kept_of start here (start.kept - k) same in
    let low = low_of start here (start.kept - k) same in
    let gone = position_back start here k same some in
    let end =
    search_back_is test start.low (position start) n k (position here) gone h (omega (arith, low)) held.went_on
    (λ g m. found g (omega (arith, low, m))) in
    record {
      input = input_of start here (start.kept - k) same;
      low = low;
      position = sym end;
    }

-- whether a search to a break line stops, as seen from its present position
pub break_here : (start here : Moment) (breaks : List BreakPoint) (k : ℕ) (b : Bool) →
    HasSearched (is_on_break start.input breaks) start k here →
    b ≡ (nat_lt 0 k && is_on_break here.input breaks (position here)) →
    stops_back (is_on_break start.input breaks) (position start) k ≡ b
break_here start here breaks k b held seen =
    let gone = position_back start here k held.same held.some in
    let input : start.input ≡ here.input = sym (input_of start here (start.kept - k) held.same) in
    let place : position start - k ≡ position here = omega (arith, gone) in
    rw (seen, input, place) refl

-- the end of BACK
pub back_ends_here : (start here : Moment) (n k : ℕ) → here ≡ with_kept start (start.kept - k) → k ≤ start.kept → k ≤ n →
    (k < n → here.kept ≡ 0) → IsAt start (back_end start.low (position start) n) here
back_ends_here start here n k same some h none =
    let kept = kept_of start here (start.kept - k) same in
    let low = low_of start here (start.kept - k) same in
    record {
      input = input_of start here (start.kept - k) same;
      low = low;
      position = by_bound (nat_lt k n) refl;
    }
  where
    by_bound : (b : Bool) → nat_lt k n ≡ b → position here ≡ back_end start.low (position start) n
    by_bound true e =
        let zero = none (omega (arith, ltb-true _ _ e)) in
        let kept = kept_of start here (start.kept - k) same in
        let low = low_of start here (start.kept - k) same in omega (arith, zero, kept, low, some, h)
    by_bound false e =
        let kept = kept_of start here (start.kept - k) same in
        let low = low_of start here (start.kept - k) same in omega (arith, ltb-false _ _ e, kept, low, some, h)

-- ---- at a machine

is_ready_by : (s : Status) → is_ready s ≡ true → s ≡ Ready
is_ready_by Ready e = refl
is_ready_by Stopped e = absurd (cc)
is_ready_by Finished e = absurd (cc)
is_ready_by (Faulted f) e = absurd (cc)

-- a state of the run that is ready is the machine's
pub ready_by : (old : machines.Moment) → old.state ≡ run old.input (machines.position old) →
    is_ready_at old.input (machines.position old) ≡ true → old.state.status ≡ Ready
ready_by old here ready =
    is_ready_by old.state.status (ap (λ (s : State). is_ready s.status) here ∙ ready)

-- a step of a machine is one of its run
pub machine_moved : (old new : machines.Moment) → old.state ≡ run old.input (machines.position old) →
    machines.HasMoved old new → HasMoved (machines.moment_of old) (machines.moment_of new)
machine_moved old new here moved = steps_on Moved old new here moved
