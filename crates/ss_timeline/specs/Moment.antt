-- A position in a run, with a way back, and the steps from there.
use Rattle.std.specs.Prelude.{◌≡◌, ℕ, ◌+◌, ◌-◌, ◌<◌, Bool, true, false, ◌&&◌, nat_lt}
use Rattle.ss_state.specs.declared.limits.TheConstants.{LAST_POSITION}
use Rattle.ss_state.specs.declared.stepped.Stepped.{Stepped}
use Rattle.ss_state.specs.declared.stepped.Stepped.TheVariants.{Moved, AtEnd}
use Rattle.ss_state.specs.State.{State, is_ready}
use Rattle.ss_state.specs.Run.{Input, run}

-- a position in a run, and how far the way back from it reaches
pub record Moment : Type 0 where
  -- the input of the run
  pub input : Input
  -- the earliest position that one can go back to: this number of the oldest steps is forgotten
  pub low : ℕ
  -- how many steps lead from there to here; all of them are kept
  pub kept : ℕ

-- the position
abbrev pub position : Moment → ℕ
position moment = moment.low + moment.kept

-- the state at the position: that of the run, and no other
abbrev pub state_of : Moment → State
state_of moment = run moment.input (position moment)

-- the state before the newest kept step
abbrev pub state_before : Moment → State
state_before moment = run moment.input (moment.low + (moment.kept - 1))

-- another position of the same run, with the same earliest one
abbrev pub with_kept : Moment → ℕ → Moment
with_kept moment kept = record { input = moment.input; low = moment.low; kept = kept }

-- whether a run goes on from a position: its state is ready, and a position is left
abbrev pub goes_on : Input → ℕ → Bool
goes_on input p = is_ready (run input p).status && nat_lt p LAST_POSITION

-- one step forward
pub record HasMoved (old new : Moment) : Type 0 where
  -- the run goes on
  pub goes : goes_on old.input (position old) ≡ true
  -- and one step more is kept
  pub moved : new ≡ with_kept old (old.kept + 1)

-- the effect of a step: none if the run does not go on
abbrev pub Steps : Stepped → Moment → Moment → Type 0
Steps Moved old new = HasMoved old new
Steps AtEnd old new = (goes_on old.input (position old) ≡ false) × (new ≡ old)

-- one step back
pub record HasGoneBack (old new : Moment) : Type 0 where
  -- a step is kept
  pub some : 0 < old.kept
  -- and is no longer
  pub moved : new ≡ with_kept old (old.kept - 1)
  -- the run goes on from there
  pub goes : goes_on new.input (position new) ≡ true

-- the effect of a step back: none if no step is kept
abbrev pub GoesBack : Bool → Moment → Moment → Type 0
GoesBack true old new = HasGoneBack old new
GoesBack false old new = (old.kept ≡ 0) × (new ≡ old)

-- how many kept steps are older than the newest n
abbrev pub older : Moment → ℕ → ℕ
older moment n = moment.kept - n

-- the same position, with the steps older than the newest n forgotten
abbrev pub with_newest : ℕ → Moment → Moment
with_newest n moment = record {
  input = moment.input;
  low = moment.low + older moment n;
  kept = moment.kept - older moment n;
}
