-- Laws on OVER and BACK OVER, which are no single movements: they stay within their bounds. Laws on
-- movements, none of which passes an end, on histories, and on movements to a state at which a test
-- holds.
use Rattle.std.specs.Prelude.{ℕ, ◌+◌, ◌≡◌, ◌<◌, ◌≤◌, ◌⊎◌, Bool, true, false, List, [], ◌∷◌}
use Rattle.ss_state.specs.declared.limits.TheConstants.{LAST_POSITION}
use Rattle.ss_state.specs.Run.{Input}
use Rattle.ss_debug.specs.BreakLines.{BreakPoint}
use Rattle.ss_debug.specs.declared.commands.Command.{Command}
use Rattle.ss_debug.specs.declared.limits.TheConstants.{GREATEST_BOUND}
use Rattle.ss_debug.specs.Move.{is_ready_at}
use Rattle.ss_debug.specs.Turn.{DebuggerState, initial_debugger_state, debugger_state_at, debugger_state_after}
use Rattle.ss_trace.specs.declared.movement.Movement.{Movement}
use Rattle.ss_trace.specs.Movements.{over, back_over}
use Rattle.ss_trace.specs.History.{positions_where}
use Rattle.ss_trace.specs.Turn.{state_after, state_after_shape, end_of}
use Rattle.ss_trace.specs.Until.{run_until, back_until, first_end, state_after_first}

-- q is not before p, nor over n steps on, nor past the last position or a state that isn't ready
pub record IsAheadWithin (input : Input) (p n q : ℕ) : Type 0 where
  -- it is not before the start
  pub no_earlier : p ≤ q
  -- it is within the bound
  pub within : q ≤ p + n
  -- it is not past the last position
  pub not_past_the_last : q ≤ LAST_POSITION
  -- no state before it has ended
  pub not_past_an_end : (k : ℕ) → p ≤ k → k < q → is_ready_at input k ≡ true

-- q is not after p, nor more than n steps back, nor before the earliest kept position
pub record IsBackWithin (earliest p n q : ℕ) : Type 0 where
  -- it is not after the start
  pub no_later : q ≤ p
  -- it is kept
  pub not_before_the_kept : earliest ≤ q
  -- it is within the bound
  pub within : p ≤ q + n

-- OVER, k times, ends there
abbrev pub OverEnds : Type 0
OverEnds =
    (t : Input) (breaks : List BreakPoint) (k p n : ℕ) → p ≤ LAST_POSITION →
    IsAheadWithin t p n (over t breaks k p n).position

-- and BACK OVER there
abbrev pub BackOverEnds : Type 0
BackOverEnds =
    (t : Input) (earliest k p n : ℕ) → earliest ≤ p →
    IsBackWithin earliest p n (back_over t earliest k p n).position

-- ---- ends

-- each state before p is ready
abbrev pub AreReadyBefore : Input → ℕ → Type 0
AreReadyBefore input p = (k : ℕ) → k < p → is_ready_at input k ≡ true

-- a debugger is at a kept position that is not past the last one, after states that are ready
pub record StandsBehindReady (input : Input) (debugger : DebuggerState) : Type 0 where
  -- the earliest kept position is not later
  pub kept : debugger.earliest ≤ debugger.position
  -- nor is the last one earlier
  pub not_past_the_last : debugger.position ≤ LAST_POSITION
  -- each state before is ready
  pub ready : AreReadyBefore input debugger.position

-- so it is at the start
abbrev pub StartIsBehindReady : Type 0
StartIsBehindReady = (t : Input) → StandsBehindReady t initial_debugger_state

-- and after each command from there
abbrev pub CommandsPassNoEnd : Type 0
CommandsPassNoEnd =
    (t : Input) (d : DebuggerState) (c : Command) → StandsBehindReady t d →
    StandsBehindReady t (debugger_state_after t d c)

-- and after each movement
abbrev pub MovementsPassNoEnd : Type 0
MovementsPassNoEnd =
    (t : Input) (d : DebuggerState) (m : Movement) → StandsBehindReady t d → StandsBehindReady t (state_after t d m)

-- ---- histories

-- q is among some positions
abbrev pub IsAmong : ℕ → List ℕ → Type 0
IsAmong q [] = ⊥
IsAmong q (r ∷ rs) = (q ≡ r) ⊎ IsAmong q rs

-- a history has each kept step before p at which its test holds
abbrev pub HistoriesAreWhole : Type 0
HistoriesAreWhole =
    (test : ℕ → Bool) (earliest p q : ℕ) → earliest ≤ q → q < p → test q ≡ true →
    IsAmong q (positions_where test earliest p)

-- and no others
abbrev pub HistoriesAreTrue : Type 0
HistoriesAreTrue =
    (test : ℕ → Bool) (earliest p q : ℕ) → IsAmong q (positions_where test earliest p) →
    (earliest ≤ q) × (q < p) × (test q ≡ true)

-- the steps after a step in it are the history at that step: it goes down from the newest
abbrev pub HistoriesGoDown : Type 0
HistoriesGoDown =
    (test : ℕ → Bool) (earliest p q : ℕ) (qs : List ℕ) → positions_where test earliest p ≡ q ∷ qs →
    qs ≡ positions_where test earliest q

-- ---- states at which a test holds

-- GO FIRST from p ends at q: the first position from p on at which the test holds, never past a
-- state that isn't ready nor past the last position
pub record EndsFirst (input : Input) (test : ℕ → Bool) (p q : ℕ) : Type 0 where
  -- it is not before p
  pub no_earlier : p ≤ q
  -- it is not past the last position
  pub not_past_the_last : q ≤ LAST_POSITION
  -- no state before it has ended
  pub not_past_an_end : (k : ℕ) → p ≤ k → k < q → is_ready_at input k ≡ true
  -- the test holds at no position before it
  pub not_past_a_met : (k : ℕ) → p ≤ k → k < q → test k ≡ false
  -- it is the last position, or its state isn't ready, or the test holds there
  pub for_a_reason : (q ≡ LAST_POSITION) ⊎ ((is_ready_at input q ≡ false) ⊎ (test q ≡ true))

-- GO FIRST ends there
abbrev pub FirstEnds : Type 0
FirstEnds = (t : Input) (test : ℕ → Bool) (p : ℕ) → p ≤ LAST_POSITION → EndsFirst t test p (first_end t test p)

-- RUN UNTIL, BACK UNTIL and GO FIRST pass no end
pub record IsBehindReadyUntil (input : Input) (debugger : DebuggerState) (test : ℕ → Bool) : Type 0 where
  -- after RUN UNTIL
  pub run : StandsBehindReady input (state_after_shape input debugger (run_until test))
  -- after BACK UNTIL
  pub back : StandsBehindReady input (state_after_shape input debugger (back_until test))
  -- after GO FIRST
  pub first : StandsBehindReady input (state_after_first input debugger test)

-- from a kept position after states that are ready, they pass no end
abbrev pub UntilsPassNoEnd : Type 0
UntilsPassNoEnd =
    (t : Input) (d : DebuggerState) (test : ℕ → Bool) → StandsBehindReady t d → IsBehindReadyUntil t d test

-- BACK UNTIL from p returns to the end of a RUN UNTIL at which the test holds, if p is later within
-- the bound, and the test holds nowhere between
abbrev pub BackUntilReturns : Type 0
BackUntilReturns =
    (t : Input) (d : DebuggerState) (test : ℕ → Bool) (p : ℕ) → d.earliest ≤ d.position →
    let q : ℕ = end_of t d (run_until test) in
    test q ≡ true → q < p → p ≤ q + GREATEST_BOUND → ((k : ℕ) → q < k → k < p → test k ≡ false) →
    end_of t (debugger_state_at d p) (back_until test) ≡ q
