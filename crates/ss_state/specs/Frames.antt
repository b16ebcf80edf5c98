-- The frames of a state, by the number of frames above each.
use Rattle.std.specs.Prelude.{ℕ, ℤ, ◌∷◌, slice_get, Option}
use Rattle.std.specs.Option.{option_map, option_and_then}
use Rattle.ss_state.specs.State.{State, FrameState}

-- the frame with `depth` others above it, if there is one; the last frame has none above it
abbrev pub frame_at : State → ℕ → Option FrameState
frame_at state depth = slice_get (state.frame ∷ state.below) depth

-- its section, and its place
abbrev pub frame_place : State → ℕ → Option (ℕ × ℕ)
frame_place state depth = option_map (λ f. (f.section, f.place)) (frame_at state depth)

-- the value of a local of it, by its number in the section's table
abbrev pub frame_local : State → ℕ → ℕ → Option ℤ
frame_local state depth number = option_and_then (λ f. slice_get f.locals number) (frame_at state depth)
