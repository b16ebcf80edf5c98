-- Laws on movements, which end at exactly one position, within their bound; on the steps that FORGET leaves; and on
-- conditions of break lines.
use Rattle.std.specs.Prelude.{ℕ, ◌+◌, ◌-◌, min, Bool, true, ◌≡◌, ◌≤◌, List, Some, None}
use Rattle.ss_state.specs.declared.limits.TheConstants.{LAST_POSITION}
use Rattle.ss_state.specs.Run.{Input, run}
use Rattle.ss_debug.specs.declared.limits.TheConstants.{GREATEST_BOUND}
use Rattle.ss_debug.specs.BreakCondition.{BreakCondition, is_met}
use Rattle.ss_debug.specs.BreakLines.{BreakPoint, with_break}
use Rattle.ss_debug.specs.Move.{StopCondition, MovementShape, forward, back, search_back}
use Rattle.ss_debug.specs.Move.{is_on_break, forward_end, EndsAt, back_end, search_back_end, EndsBackAt}
use Rattle.ss_debug.specs.Turn.{DebuggerState, end_of, debugger_state_after_forget}

-- the position that the definition computes is an end in the sense of the one fact
abbrev pub MovementEnds : Type 0
MovementEnds =
    (t : Input) (condition : StopCondition) (p n : ℕ) → p ≤ LAST_POSITION →
    EndsAt t condition p n (forward_end t condition p n)

-- and there is no second end
abbrev pub EndIsUnique : Type 0
EndIsUnique =
    (t : Input) (condition : StopCondition) (p n q r : ℕ) → EndsAt t condition p n q → EndsAt t condition p n r → q ≡ r

-- the position that the definition of BACK BREAK and BACK EVENT computes is an end in the sense of its one fact
abbrev pub SearchBackEnds : Type 0
SearchBackEnds =
    (test : ℕ → Bool) (earliest p n : ℕ) → earliest ≤ p →
    EndsBackAt test earliest p n (search_back_end test earliest p n)

-- and there is no second end
abbrev pub SearchBackEndIsUnique : Type 0
SearchBackEndIsUnique =
    (test : ℕ → Bool) (earliest p n q r : ℕ) → EndsBackAt test earliest p n q → EndsBackAt test earliest p n r → q ≡ r

-- how many steps a movement of this shape makes at most
abbrev pub bound_of_shape : MovementShape → ℕ
bound_of_shape (forward condition n) = n
bound_of_shape (back n) = n
bound_of_shape (search_back test word) = GREATEST_BOUND

-- a movement ends at q, at most n steps from its start, at a kept position not past the last one
pub record IsWithinBound (debugger : DebuggerState) (n q : ℕ) : Type 0 where
  -- at most n steps on
  pub no_further_on : q ≤ debugger.position + n
  -- at most n steps back
  pub no_further_back : debugger.position ≤ q + n
  -- not before the earliest kept position
  pub not_before_the_kept : debugger.earliest ≤ q
  -- not past the last position
  pub not_past_the_last : q ≤ LAST_POSITION

-- every movement ends within its bound
abbrev pub MovementEndsWithinBound : Type 0
MovementEndsWithinBound =
    (t : Input) (d : DebuggerState) (shape : MovementShape) → d.earliest ≤ d.position → d.position ≤ LAST_POSITION →
    IsWithinBound d (bound_of_shape shape) (end_of t d shape)

-- the state that FORGET n leaves
pub record IsLeftByForget (n : ℕ) (old new : DebuggerState) : Type 0 where
  -- the position
  pub position : new.position ≡ old.position
  -- the break lines
  pub breaks : new.breaks ≡ old.breaks
  -- the newest n steps, or all if there were fewer
  pub kept : new.position - new.earliest ≡ min n (old.position - old.earliest)
  -- BACK by at most n steps leads to the same position as before
  pub back : (k : ℕ) → k ≤ n → back_end new.earliest new.position k ≡ back_end old.earliest old.position k
  -- BACK by more leads to the earliest kept position
  pub no_further : (k : ℕ) → n ≤ k → back_end new.earliest new.position k ≡ new.earliest

-- FORGET leaves that
abbrev pub ForgetLeavesTheNewestSteps : Type 0
ForgetLeavesTheNewestSteps =
    (d : DebuggerState) (n : ℕ) → d.earliest ≤ d.position → IsLeftByForget n d (debugger_state_after_forget d n)

-- a break line whose condition holds in each state of a run stops at the same states as one without a condition
abbrev pub ConditionThatHoldsStopsAsNone : Type 0
ConditionThatHoldsStopsAsNone =
    (t : Input) (breaks : List BreakPoint) (line : ℕ) (c : BreakCondition) →
    ((p : ℕ) → is_met t.program (run t p) c ≡ true) → (p : ℕ) →
    is_on_break t (with_break (record { line = line; when = Some c }) breaks) p
    ≡ is_on_break t (with_break (record { line = line; when = None }) breaks) p
