-- the frame to which a RETURN comes back
use Rattle.std.proofs.Common.{◌≡◌, List, length, subst, refl}
use Rattle.ss_program.specs.Program.{ProgramTable}
use Rattle.ss_state.specs.State.{State, FrameState}
use Rattle.ss_state.specs.Well.{IsInBounds, IsWellFrame, AreWellFrames}
use Rattle.ss_machine.specs.Dropping.{HasDropped}
use Rattle.ss_state.specs.ChangeCounts.{yield_count, place_targets}

-- it is well-formed
pub caller_well : (p : ProgramTable) (s t : State) → IsInBounds p s → HasDropped s t → IsWellFrame p t.frame
caller_well p s t w d = (subst (λ (fs : List FrameState). AreWellFrames p fs) d.below w.below).0

pub caller_variables : (p : ProgramTable) (s t : State) → IsInBounds p s → HasDropped s t →
    length t.variables ≡ length p.globals
caller_variables p s t w d = rw d.rest w.variables

pub caller_yield : (p : ProgramTable) (s t : State) → HasDropped s t → yield_count p s.below ≡ place_targets p t
caller_yield p s t d = rw d.below refl
