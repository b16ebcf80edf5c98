-- How many changes a step notes at most.
use Rattle.std.specs.Prelude.{ℕ, ◌+◌, List, [], ◌∷◌, length, Option, Some, None}
use Rattle.ss_program.specs.Program.{ProgramTable, spot_at}
use Rattle.ss_program.specs.declared.place.Place.{Place}
use Rattle.ss_program.specs.declared.place.Place.TheVariants as places
use Rattle.ss_program.specs.declared.looping.Looping.{Looping}
use Rattle.ss_program.specs.declared.looping.Looping.TheVariants.{For, Loop, Find, Gather, Tell}
use Rattle.ss_program.specs.declared.timing.Timing.{Timing}
use Rattle.ss_program.specs.declared.timing.Timing.TheVariants.{Schedule, Cancel, Start}
use Rattle.ss_program.specs.declared.ways.Ways.{Ways}
use Rattle.ss_program.specs.declared.place.Spot.{Spot}
use Rattle.ss_state.specs.State.{State, FrameState}
use Rattle.ss_state.specs.Statements.{ways_here}

-- how many targets a CALL has
abbrev pub call_targets : Place → ℕ
call_targets (places.Call c) = length c.targets
call_targets other = 0

-- the count above for an optional place; 0 if there is none
abbrev pub call_targets_by : Option Spot → ℕ
call_targets_by (Some spot) = call_targets spot.place
call_targets_by None = 0

-- how many targets the CALL at the place of the last frame has
abbrev pub place_targets : ProgramTable → State → ℕ
place_targets program state = call_targets_by (spot_at program state.frame.section state.frame.place)

-- how many values come back from the last frame to the one below it
abbrev pub yield_count : ProgramTable → List FrameState → ℕ
yield_count program [] = 0
yield_count program (f ∷ fs) = call_targets_by (spot_at program f.section f.place)

-- the most changes that LOOP, FIND, COMPUTE and a FOR phrase note, with these ways: FIND one for each loop that it
-- closes
abbrev pub most_looping_changes : Ways → Looping → ℕ
most_looping_changes ways (For f) = 4
most_looping_changes ways Loop = 1
most_looping_changes ways Find = 2 + ways.chain
most_looping_changes ways (Gather e) = 2
most_looping_changes ways (Tell ts) = 1 + length ts

-- the most changes that SCHEDULE, CANCEL and START SIMULATION note: SCHEDULE one for each argument, which are at most
-- 32
abbrev pub most_timing_changes : Timing → ℕ
most_timing_changes (Schedule s) = 4 + length s.arguments
most_timing_changes (Cancel c is_called e) = 2
most_timing_changes Start = 6

-- the most changes that the step of a place notes, with these ways: RETURN and END one for each value that comes back
abbrev pub most_changes : ProgramTable → State → Ways → Place → ℕ
most_changes program state ways (places.Assign a) = 2
most_changes program state ways (places.Making m) = 3
most_changes program state ways (places.Filing f) = 3
most_changes program state ways (places.Output o) = 2
most_changes program state ways (places.Control c) = 3 + yield_count program state.below
most_changes program state ways (places.Branch b) = 1
most_changes program state ways (places.Looping l) = most_looping_changes ways l
most_changes program state ways (places.Call c) = 1
most_changes program state ways (places.Timing x) = most_timing_changes x
most_changes program state ways (places.Read ts) = 2 + length ts

-- the count above for an optional place; 0 if there is none
abbrev pub most_changes_by : ProgramTable → State → Option Spot → ℕ
most_changes_by program state (Some spot) = most_changes program state (ways_here program state spot.place) spot.place
most_changes_by program state None = 0

-- the most changes that the next step notes
abbrev pub change_bound : ProgramTable → State → ℕ
change_bound program state = most_changes_by program state (spot_at program state.frame.section state.frame.place)

-- how many targets the statement at a place has; those of the CALL to which RETURN and END go back are theirs
abbrev pub targets_at : ProgramTable → State → Place → ℕ
targets_at program state (places.Assign a) = 1
targets_at program state (places.Making m) = 1
targets_at program state (places.Filing f) = 1
targets_at program state (places.Control c) = yield_count program state.below
targets_at program state (places.Looping (Tell ts)) = length ts
targets_at program state (places.Call c) = length c.targets
targets_at program state (places.Read ts) = length ts
targets_at program state other = 0

-- the count above for an optional place; 0 if there is none
abbrev pub targets_by : ProgramTable → State → Option Spot → ℕ
targets_by program state (Some spot) = targets_at program state spot.place
targets_by program state None = 0

-- how many targets the next statement has
abbrev pub target_count : ProgramTable → State → ℕ
target_count program state = targets_by program state (spot_at program state.frame.section state.frame.place)
