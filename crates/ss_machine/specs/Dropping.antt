-- Private: the last frame was dropped.
use Rattle.std.specs.Prelude.{◌≡◌, ◌∷◌}
use Rattle.ss_state.specs.State.{State}

-- the last frame was dropped
pub record HasDropped (old new : State) : Type 0 where
  -- the nearest frame below it is the last one
  pub below : old.below ≡ new.frame ∷ new.below
  -- nothing else changes
  pub rest : new ≡ record old { frame = new.frame; below = new.below }
