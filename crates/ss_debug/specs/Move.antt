-- The effect of each movement, and the position at which it ends.
use Rattle.std.specs.Prelude.{ℕ, zero, suc, ◌+◌, ◌-◌, min, max, pos, int_le, ◌≡◌, ◌<◌, ◌≤◌}
use Rattle.std.specs.Prelude.{Bool, true, false, not, ◌&&◌, ◌||◌, ◌⊎◌, if◌then◌else◌, nat_lt}
use Rattle.std.specs.Prelude.{List, length, codes, Option, Some, None}
use Rattle.std.specs.List.{list_any}
use Rattle.ss_program.specs.Program.{spot_at, section_of, is_event_section}
use Rattle.ss_program.specs.declared.place.Spot.{Spot}
use Rattle.ss_state.specs.declared.limits.TheConstants.{LAST_POSITION}
use Rattle.ss_state.specs.State.{State, is_ready}
use Rattle.ss_state.specs.Run.{Input, run}
use Rattle.ss_debug.specs.declared.commands.Movement.{Movement}
use Rattle.ss_debug.specs.declared.commands.Movement.TheVariants.{Step, Run, RunTo, Next, Back, BackEvent, BackBreak}
use Rattle.ss_debug.specs.declared.limits.TheConstants.{GREATEST_BOUND}
use Rattle.ss_debug.specs.BreakLines.{BreakPoint, stops_on}

-- the least number below n at which the test holds, or n
unfoldable pub least : (ℕ → Bool) → ℕ → ℕ
least test zero = 0
least test (suc n) = if nat_lt (least test n) n then least test n else (if test n then n else suc n)

-- whether the status of state p is ready
abbrev pub is_ready_at : Input → ℕ → Bool
is_ready_at input p = is_ready (run input p).status

-- the line of a place; if there is no place, 0, which is never met
abbrev pub spot_line : Option Spot → ℕ
spot_line None = 0
spot_line (Some spot) = spot.line

-- the line of a state's present place
abbrev pub line_of_state : Input → State → ℕ
line_of_state input state = spot_line (spot_at input.program state.frame.section state.frame.place)

-- the line of the place of state p
abbrev pub line_at : Input → ℕ → ℕ
line_at input p = line_of_state input (run input p)

-- whether a break line stops at state p: its place is on the line, and the line's condition, if it has one, holds
abbrev pub is_on_break : Input → List BreakPoint → ℕ → Bool
is_on_break input breaks p = list_any (stops_on input.program (run input p) (line_at input p)) breaks

-- whether the clock of state p is at or past a time, if one is named
abbrev pub has_come : Input → Option ℕ → ℕ → Bool
has_come input None p = false
has_come input (Some time) p = int_le (pos time) (run input p).clock

-- whether the frame of an event is the last one
abbrev pub runs_event : Input → State → Bool
runs_event input state = is_event_section (section_of input.program state.frame.section)

-- whether the step from state p is an event start: it opens the frame of an event
abbrev pub starts_event : Input → ℕ → Bool
starts_event input p =
    runs_event input (run input (p + 1)) && nat_lt (length (run input p).below) (length (run input (p + 1)).below)

-- whether an event start led to state p
abbrev pub is_behind_start : Input → ℕ → Bool
is_behind_start input p = nat_lt 0 p && starts_event input (p - 1)

-- the states at which a forward movement may stop before its bound, and its words
pub record StopCondition : Type 0 where
  -- a state whose clock is at or past this time, if one is named, the first state included
  pub time : Option ℕ
  -- a state at which this test holds, later than the first one
  pub test : ℕ → Bool
  -- the word for a state at which the test holds
  pub word : List ℕ
  -- the word if all steps were made and there is nothing else to say
  pub bound_word : List ℕ

-- STEP stops nowhere: its command says how many steps to make
abbrev pub step_condition : StopCondition
step_condition = record { time = None; test = λ p. false; word = codes "DONE"; bound_word = codes "DONE" }

-- RUN stops at a state at which a break line stops
abbrev pub run_condition : Input → List BreakPoint → StopCondition
run_condition input breaks =
    record { time = None; test = is_on_break input breaks; word = codes "BREAK"; bound_word = codes "BOUND" }

-- RUN TO stops at the states of RUN, and at a state whose clock is at or past a time
abbrev pub run_to_condition : Input → List BreakPoint → ℕ → StopCondition
run_to_condition input breaks time = record (run_condition input breaks) { time = Some time }

-- NEXT stops at a state to which an event start led
abbrev pub next_condition : Input → StopCondition
next_condition input =
    record { time = None; test = is_behind_start input; word = codes "EVENT"; bound_word = codes "BOUND" }

-- the effect of a movement: it goes forward to a stop, by at most a number of steps; or back by a
-- number of steps; or back to a state at which a test holds, for which it has a word
pub data MovementShape : Type 0 where
  forward : StopCondition → ℕ → MovementShape
  back : ℕ → MovementShape
  search_back : (ℕ → Bool) → List ℕ → MovementShape

-- the effect of each movement
abbrev pub shape_of : Input → List BreakPoint → Movement → MovementShape
shape_of input breaks (Step n) = forward step_condition n
shape_of input breaks (Run n) = forward (run_condition input breaks) n
shape_of input breaks (RunTo time) = forward (run_to_condition input breaks time) GREATEST_BOUND
shape_of input breaks Next = forward (next_condition input) GREATEST_BOUND
shape_of input breaks (Back n) = back n
shape_of input breaks BackEvent = search_back (starts_event input) (codes "EVENT")
shape_of input breaks BackBreak = search_back (is_on_break input breaks) (codes "BREAK")

-- ---- forward

-- whether a movement from p stops at q: there the status isn't ready, or the time has come, or q is later and the test
-- holds
abbrev pub is_stop : Input → StopCondition → ℕ → ℕ → Bool
is_stop input condition p q =
    not (is_ready_at input q) || has_come input condition.time q || (nat_lt p q && condition.test q)

-- whether it stops k positions on
abbrev pub stops : Input → StopCondition → ℕ → ℕ → Bool
stops input condition p k = is_stop input condition p (p + k)

-- the end of a movement from p: the least such position, at most n on, and not past the last one
abbrev pub forward_end : Input → StopCondition → ℕ → ℕ → ℕ
forward_end input condition p n = p + least (stops input condition p) (min n (LAST_POSITION - p))

-- that end as one fact: q is the least later position that meets the condition, within the bound,
-- never past a state that isn't ready nor past the last position
pub record EndsAt (input : Input) (condition : StopCondition) (p n q : ℕ) : Type 0 where
  -- it is not before the start
  pub no_earlier : p ≤ q
  -- it is within the bound
  pub within : q ≤ p + n
  -- it is not past the last position
  pub not_past_the_last : q ≤ LAST_POSITION
  -- no state before it has ended
  pub not_past_an_end : (k : ℕ) → p ≤ k → k < q → is_ready_at input k ≡ true
  -- before it the time has not come
  pub not_past_the_time : (k : ℕ) → p ≤ k → k < q → has_come input condition.time k ≡ false
  -- the test holds at no position between the two
  pub not_past_a_met : (k : ℕ) → p < k → k < q → condition.test k ≡ false
  -- it is at one of the bounds, or meets the condition
  pub for_a_reason :
      (q ≡ p + n) ⊎ ((q ≡ LAST_POSITION) ⊎ ((is_ready_at input q ≡ false) ⊎ ((has_come input condition.time q ≡ true)
      ⊎ ((p < q) × (condition.test q ≡ true)))))

-- ---- back

-- n positions before p, or the earliest kept position if that is later
abbrev pub back_end : ℕ → ℕ → ℕ → ℕ
back_end earliest p n = max earliest (p - n)

-- whether a search back from p ends k positions back: earlier than p, at a state that passes
abbrev pub stops_back : (ℕ → Bool) → ℕ → ℕ → Bool
stops_back test p k = nat_lt 0 k && test (p - k)

-- the end of a search back from p to a state at which the test holds: the greatest earlier such
-- position, at most n positions back, and not before the earliest kept one
abbrev pub search_back_end : (ℕ → Bool) → ℕ → ℕ → ℕ → ℕ
search_back_end test earliest p n = p - least (stops_back test p) (min n (p - earliest))

-- that end as one fact: q is the greatest earlier position at which the test holds, within the
-- bound, not before the earliest kept one
pub record EndsBackAt (test : ℕ → Bool) (earliest p n q : ℕ) : Type 0 where
  -- it is not past the start
  pub no_later : q ≤ p
  -- it is kept
  pub not_before_the_kept : earliest ≤ q
  -- it is within the bound
  pub within : p ≤ q + n
  -- the test holds at no position between the two
  pub not_past_a_met : (k : ℕ) → q < k → k < p → test k ≡ false
  -- it is at one of the bounds, or the test holds there
  pub for_a_reason : (q ≡ earliest) ⊎ ((p ≡ q + n) ⊎ ((q < p) × (test q ≡ true)))
