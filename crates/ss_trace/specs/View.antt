-- The position of a debugger after a movement, and the states that a movement looks for.
use Rattle.std.specs.Prelude.{ℕ, ◌≡◌, ◌≤◌, ◌<◌, Bool, true}
use Rattle.ss_machine.specs.Moment.{position}
use Rattle.ss_state.specs.Run.{Input}
use Rattle.ss_debug.specs.Move.{is_ready_at}
use Rattle.ss_debug.specs.View.{DebuggerView}
use Rattle.ss_trace.specs.declared.sought.Sought.{Sought}
use Rattle.ss_trace.specs.declared.sought.Sought.TheVariants.{Level, Outside, Before}
use Rattle.ss_trace.specs.Movements.{is_level, is_outside, is_before}

-- whether a state is one that a movement looks for
abbrev pub sought_test : Input → Sought → ℕ → Bool
sought_test input (Level frames) = is_level input frames
sought_test input (Outside frames) = is_outside input frames
sought_test input (Before time) = is_before input time

-- a debugger is at position q of the run, and all else is as it was
pub record IsAt (old : DebuggerView) (q : ℕ) (new : DebuggerView) : Type 0 where
  -- its run is the same one
  pub input : new.machine.input ≡ old.machine.input
  -- as many steps are forgotten
  pub forgotten : new.machine.forgotten ≡ old.machine.forgotten
  -- so are the break lines
  pub breaks : new.breaks ≡ old.breaks
  -- its position
  pub position : position new.machine ≡ q

-- it is between two positions, and all else is as it was
pub record IsBetween (old : DebuggerView) (p q : ℕ) (new : DebuggerView) : Type 0 where
  -- its run is the same one
  pub input : new.machine.input ≡ old.machine.input
  -- as many steps are forgotten
  pub forgotten : new.machine.forgotten ≡ old.machine.forgotten
  -- so are the break lines
  pub breaks : new.breaks ≡ old.breaks
  -- not before the first
  pub no_earlier : p ≤ position new.machine
  -- not past the second
  pub no_later : position new.machine ≤ q

-- it went back, perhaps, over steps that were made, and all else is as it was
pub record HasLookedBack (old new : DebuggerView) : Type 0 where
  -- its run is the same one
  pub input : new.machine.input ≡ old.machine.input
  -- as many steps are forgotten
  pub forgotten : new.machine.forgotten ≡ old.machine.forgotten
  -- so are the break lines
  pub breaks : new.breaks ≡ old.breaks
  -- it is not past the start
  pub no_later : position new.machine ≤ position old.machine
  -- the states on the way are ready
  pub ready : (j : ℕ) → position new.machine ≤ j → j < position old.machine → is_ready_at old.machine.input j ≡ true
