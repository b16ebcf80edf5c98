-- The position to which a movement leads, for the private functions that move over a run.
use Rattle.std.specs.Prelude.{ℕ, ◌≡◌, ◌+◌, ◌-◌, ◌≤◌, length}
use Rattle.ss_state.specs.Run.{run}
use Rattle.ss_timeline.specs.Moment.{Moment, position}

-- position p of the same run, with the same earliest one
pub record IsAt (old : Moment) (p : ℕ) (new : Moment) : Type 0 where
  -- its run is the same one
  pub input : new.input ≡ old.input
  -- the earliest position is the same
  pub low : new.low ≡ old.low
  -- its position
  pub position : position new ≡ p

-- a position of the same run, at most p and not before the old one, with the same earliest one
pub record IsBetween (old : Moment) (p : ℕ) (new : Moment) : Type 0 where
  -- its run is the same one
  pub input : new.input ≡ old.input
  -- the earliest position is the same
  pub low : new.low ≡ old.low
  -- not before the old one
  pub no_earlier : position old ≤ position new
  -- not past p
  pub no_later : position new ≤ p

-- how many frames there are in the state before the present one
abbrev pub frames_before : Moment → ℕ
frames_before moment = 1 + length (run moment.input (position moment - 1)).below
