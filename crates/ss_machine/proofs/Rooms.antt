-- for how many changes there has to be room
use Rattle.std.proofs.Common.{◌≤◌, ◌+◌, length, arith}
use Rattle.ss_program.specs.declared.place.Place.TheVariants as places
use Rattle.ss_program.specs.declared.timing.Timing.{Timing}
use Rattle.ss_program.specs.declared.timing.Timing.TheVariants.{Schedule, Cancel, Start}
use Rattle.ss_program.specs.declared.ways.Ways.{Ways}
use Rattle.ss_program.specs.Program.{ProgramTable, section_of}
use Rattle.ss_program.specs.ProgramSound.{IsSound, IsTimed}
use Rattle.ss_state.specs.declared.limits.TheConstants.{MOST_STEP_CHANGES}
use Rattle.ss_state.specs.State.{State}
use Rattle.ss_state.specs.ChangeCounts.{most_changes, yield_count}
use Rattle.ss_state.proofs.Sounds.{few_yielded, few_arguments}

-- RETURN and END note few
pub control_room : (p : ProgramTable) (s : State) → IsSound p → 3 + yield_count p s.below ≤ MOST_STEP_CHANGES
control_room p s sound = omega (arith, few_yielded p s.below sound)

-- and statements on notices
pub timing_room : (p : ProgramTable) (s : State) (w : Ways) (x : Timing) → IsSound p →
    IsTimed p (section_of p s.frame.section) (places.Timing x) →
    most_changes p s w (places.Timing x) ≤ MOST_STEP_CHANGES
timing_room p s w (Schedule x) sound timed =
    omega (arith, few_arguments p x.class (length x.arguments) sound timed)
timing_room p s w (Cancel c is_called e) sound timed = omega arith
timing_room p s w Start sound timed = omega arith
