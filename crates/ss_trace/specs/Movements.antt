-- The ends of the movements over and out of sections, to a time and to a position.
use Rattle.std.specs.Prelude.{ℕ, zero, suc, ◌+◌, ◌-◌, pos, int_lt, Bool, false, not, ◌&&◌, ◌||◌, List, length, codes}
use Rattle.std.specs.Prelude.{None, if◌then◌else◌, nat_lt, nat_le}
use Rattle.ss_state.specs.Run.{Input, run}
use Rattle.ss_debug.specs.BreakLines.{BreakPoint}
use Rattle.ss_debug.specs.Move.{StopCondition, is_on_break, forward_end, search_back_end, step_condition}
use Rattle.ss_debug.specs.Move.{MovementShape, forward, back, search_back}
use Rattle.ss_trace.specs.declared.movement.TheConstants.{GREATEST_JOURNEY}
use Rattle.ss_trace.specs.declared.movement.Movement.{Movement}
use Rattle.ss_trace.specs.declared.movement.Movement.TheVariants.{Over, Out, BackOver, BackOut, BackTo, Go, GoEnd}
use Rattle.ss_trace.specs.declared.movement.Movement.TheVariants.{RunChange, BackChange}
use Rattle.ss_trace.specs.declared.question.Question.{Question}
use Rattle.ss_trace.specs.Question.{changes_at}

-- ---- the states that are looked for

-- how many frames state p has
abbrev pub frames_at : Input → ℕ → ℕ
frames_at input p = 1 + length (run input p).below

-- OVER, BACK OVER: no more than this number of frames
abbrev pub is_level : Input → ℕ → ℕ → Bool
is_level input frames q = nat_le (frames_at input q) frames

-- OUT, BACK OUT: fewer than this number of frames
abbrev pub is_outside : Input → ℕ → ℕ → Bool
is_outside input frames q = nat_lt (frames_at input q) frames

-- BACK TO: the clock is before a time
abbrev pub is_before : Input → ℕ → ℕ → Bool
is_before input time q = int_lt (run input q).clock (pos time)

-- RUN CHANGE: the step that led to state q changed question
abbrev pub has_changed : Input → Question → ℕ → Bool
has_changed input question q = nat_lt 0 q && changes_at input question (q - 1)

-- ---- forward

-- a movement forward stops at a state at which its test holds, and at a break line
abbrev pub ahead_condition : Input → List BreakPoint → (ℕ → Bool) → StopCondition
ahead_condition input breaks test = record {
  time = None;
  test = λ q. test q || is_on_break input breaks q;
  word = codes "DONE";
  bound_word = codes "BOUND";
}

-- its end, from p within n steps
abbrev pub ahead_end : Input → List BreakPoint → (ℕ → Bool) → ℕ → ℕ → ℕ
ahead_end input breaks test p n = forward_end input (ahead_condition input breaks test) p n

-- whether a movement forward from p to q ended at a state at which its test holds
abbrev pub is_met : (ℕ → Bool) → ℕ → ℕ → Bool
is_met test p q = nat_lt p q && test q

-- whether a movement back from p to q ended at such a state
abbrev pub is_met_back : (ℕ → Bool) → ℕ → ℕ → Bool
is_met_back test p q = nat_lt q p && test q

-- ---- n times over

-- the end of such a movement, and the number of its parts that were not made
pub record CountedEnd : Type 0 where
  -- its end
  pub position : ℕ
  -- how many were not made
  pub left : ℕ

-- it ended at q, k parts before its last
abbrev pub counted_end : ℕ → ℕ → CountedEnd
counted_end q k = record { position = q; left = k }

-- OVER, k times within n steps: it ends early if a part is not made, and at a break line
unfoldable pub over : Input → List BreakPoint → ℕ → ℕ → ℕ → CountedEnd
over input breaks zero p n = counted_end p 0
over input breaks (suc k) p n =
    let level : ℕ → Bool = is_level input (frames_at input p) in
    let q : ℕ = ahead_end input breaks level p n in
    if not (is_met level p q) then counted_end q (suc k) else
    if is_on_break input breaks q then counted_end q k else over input breaks k q (n - (q - p))

-- BACK OVER, k times within n steps: it ends early if a part is not made
unfoldable pub back_over : Input → ℕ → ℕ → ℕ → ℕ → CountedEnd
back_over input earliest zero p n = counted_end p 0
back_over input earliest (suc k) p n =
    let level : ℕ → Bool = is_level input (frames_at input p) in
    let q : ℕ = search_back_end level earliest p n in
    if not (is_met_back level p q) then counted_end q (suc k) else back_over input earliest k q (n - (p - q))

-- ---- all of them

-- the effect of a movement: that of one of the debugger's; forward to a break line or a state at
-- which a test holds, for which it has a word; back to such a state, for which it has a word, with
-- answers made on the way; OVER, a number of times; BACK OVER, a number of times
pub data Shape : Type 0 where
  debugger_shape : MovementShape → Shape
  ahead : (ℕ → Bool) → List ℕ → Shape
  seek_back : (ℕ → Bool) → List ℕ → Shape
  over_by : ℕ → Shape
  back_over_by : ℕ → Shape

-- GO q from p: a number of steps back or forward
abbrev pub go_shape : ℕ → ℕ → MovementShape
go_shape p q = if nat_lt q p then back (p - q) else forward step_condition (q - p)

-- GO END stops nowhere before its bound
abbrev pub end_condition : StopCondition
end_condition = record { time = None; test = λ p. false; word = codes "DONE"; bound_word = codes "BOUND" }

-- the effect of each movement
unfoldable pub shape_of : Input → ℕ → Movement → Shape
shape_of input p (Over k) = over_by k
shape_of input p Out = ahead (is_outside input (frames_at input p)) (codes "DONE")
shape_of input p (BackOver k) = back_over_by k
shape_of input p BackOut = debugger_shape (search_back (is_outside input (frames_at input p)) (codes "DONE"))
shape_of input p (BackTo time) = debugger_shape (search_back (is_before input time) (codes "TIME"))
shape_of input p (Go q) = debugger_shape (go_shape p q)
shape_of input p GoEnd = debugger_shape (forward end_condition GREATEST_JOURNEY)
shape_of input p (RunChange x) = ahead (has_changed input x) (codes "CHANGE")
shape_of input p (BackChange x) = seek_back (changes_at input x) (codes "CHANGE")
