-- the laws on the definitions
use Rattle.std.proofs.Common.{◌≡◌, ◌≤◌, ◌+◌, ◌*◌, length, Option, Some, None, arith, refl}
use Rattle.ss_words.specs.declared.limits.TheConstants.{MOST_PHRASES}
use Rattle.ss_program.specs.declared.place.Place.{Place}
use Rattle.ss_program.specs.declared.place.Place.TheVariants.{Assign, Making, Filing, Output, Control, Branch, Looping}
use Rattle.ss_program.specs.declared.place.Place.TheVariants.{Call, Timing, Read}
use Rattle.ss_program.specs.declared.looping.Looping.TheVariants.{For, Loop, Find, Gather, Tell}
use Rattle.ss_program.specs.declared.place.Spot.{Spot}
use Rattle.ss_program.specs.declared.ways.Ways.{Ways}
use Rattle.ss_program.specs.declared.timing.Timing.TheVariants.{Schedule, Cancel, Start}
use Rattle.ss_program.specs.Program.{ProgramTable, section_of, spot_at}
use Rattle.ss_program.specs.ProgramSound.{IsSound, IsTimed}
use Rattle.ss_state.specs.declared.limits.TheConstants.{MOST_STEP_CHANGES}
use Rattle.ss_state.specs.State.{State}
use Rattle.ss_state.specs.Run.{input_with}
use Rattle.ss_state.specs.Statements.{ways_here}
use Rattle.ss_state.specs.ChangeCounts.{most_changes, most_changes_by, targets_at, targets_by}
use Rattle.ss_state.specs.Laws.{ProgramsKeepStatesWell, StepsNoteFew}
use Rattle.ss_state.proofs.Sounds.{spot_linked, spot_timed, few_arguments, chain_few}
use Rattle.ss_state.proofs.Items.{items_in}
use Rattle.ss_state.proofs.Wells.{well_start, well_step, well_run}

pub states_well : ProgramsKeepStatesWell
states_well p text sound =
    let i = input_with p text in
    record {
      start = well_start i sound (items_in text);
      step = λ s w. well_step p s sound w;
      run = λ k. well_run i k sound (items_in text);
    }

few_at : (p : ProgramTable) (s : State) (w : Ways) (x : Place) → IsSound p →
    IsTimed p (section_of p s.frame.section) x → w.chain ≤ MOST_PHRASES →
    most_changes p s w x ≤ MOST_STEP_CHANGES + 2 * targets_at p s x
few_at p s w (Assign a) sound timed h = omega arith
few_at p s w (Making m) sound timed h = omega arith
few_at p s w (Filing f) sound timed h = omega arith
few_at p s w (Output o) sound timed h = omega arith
few_at p s w (Control c) sound timed h = omega arith
few_at p s w (Branch b) sound timed h = omega arith
few_at p s w (Looping (For f)) sound timed h = omega arith
few_at p s w (Looping Loop) sound timed h = omega arith
few_at p s w (Looping Find) sound timed h = omega (arith, h)
few_at p s w (Looping (Gather e)) sound timed h = omega arith
few_at p s w (Looping (Tell ts)) sound timed h = omega arith
few_at p s w (Call c) sound timed h = omega arith
few_at p s w (Timing (Schedule x)) sound timed h =
    omega (arith, few_arguments p x.class (length x.arguments) sound timed)
few_at p s w (Timing (Cancel c is_called e)) sound timed h = omega arith
few_at p s w (Timing Start) sound timed h = omega arith
few_at p s w (Read ts) sound timed h = omega arith

few_by : (p : ProgramTable) (s : State) (o : Option Spot) → IsSound p → spot_at p s.frame.section s.frame.place ≡ o →
    most_changes_by p s o ≤ MOST_STEP_CHANGES + 2 * targets_by p s o
few_by p s None sound e = omega arith
few_by p s (Some spot) sound e =
    few_at p s (ways_here p s spot.place) spot.place sound (spot_timed p s.frame.section s.frame.place spot sound e)
    (chain_few p.sections _ _ s.frame.place spot.place (spot_linked p s.frame.section s.frame.place spot sound e).leads)

pub few_changes : StepsNoteFew
few_changes p s sound = few_by p s (spot_at p s.frame.section s.frame.place) sound refl
