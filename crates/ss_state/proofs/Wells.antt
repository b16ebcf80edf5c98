-- every state of the run is well-formed
pub mod Shared
pub mod Assigning
pub mod Entities
pub mod Filing
pub mod Printing
pub mod Branching
pub mod Looping
pub mod Calling
pub mod Timing
pub mod Simulating
pub mod Reading
use Rattle.std.proofs.Common.{◌≡◌, ℕ, ℤ, zero, suc, ◌+◌, List, length, Bool, true, false, Option, Some, None, arith}
use Rattle.std.proofs.Common.{refl, sym, subst}
use Rattle.std.specs.Prelude.{slice_get, [], ◌∷◌, replicate, unwrap_or, cond, not, if◌then◌else◌}
use Rattle.std.specs.List.{position_or_len}
use Rattle.std.proofs.lemmas.List.{length-replicate}
use Rattle.ss_words.specs.declared.characters.TheConstants.{LINE_FEED}
use Rattle.ss_report.specs.Pictures.{picture_text}
use Rattle.ss_program.specs.declared.place.Output.TheVariants.{Print, Skip}
use Rattle.ss_program.specs.declared.place.Control.TheVariants.{Stop, Return, End}
use Rattle.ss_program.specs.declared.place.Place.{Place}
use Rattle.ss_program.specs.declared.place.Place.TheVariants as places
use Rattle.ss_program.specs.declared.place.Spot.{Spot}
use Rattle.ss_program.specs.declared.timing.Timing.TheVariants as timings
use Rattle.ss_program.specs.declared.ways.Ways.{Ways}
use Rattle.ss_program.specs.Program.{SectionTable, ProgramTable, is_main, main_number, no_section, section_of, spot_at}
use Rattle.ss_program.specs.ProgramSound.{IsSoundPlace, IsSound, IsTimed, scope_in}
use Rattle.ss_program.proofs.Mains.{one_main}
use Rattle.ss_state.specs.declared.status.Status.TheVariants.{Stopped}
use Rattle.ss_state.specs.State.{State, is_ready}
use Rattle.ss_store.specs.Tables.{tables_of}
use Rattle.ss_values.specs.Values.{values_of}
use Rattle.ss_state.specs.Readings.{readings}
use Rattle.ss_state.specs.Statements.{ways_here}
use Rattle.ss_state.specs.Statements.Printing.{lines_asked}
use Rattle.ss_state.specs.Statements.Timing.{loads}
use Rattle.ss_state.specs.Step.{step, step_by, step_at}
use Rattle.ss_state.specs.Run.{Input, run}
use Rattle.ss_state.specs.Well.{IsInBounds, IsWell, AreItemsInRange, Starts, StartsAt}
use Rattle.ss_state.proofs.Sounds.{spot_sound, spot_linked, spot_timed}
use Rattle.ss_state.proofs.Ranges.{after_got, anything, zeros_in}
use Rattle.ss_state.proofs.Rests.{assign_rest, making_rest, filing_rest, schedule_rest, cancel_rest}
use Rattle.ss_state.proofs.Stores.{empty_in}
use Rattle.ss_state.proofs.Nesting.{nested_step}
use Rattle.ss_state.proofs.Wells.Shared.{LeadsHere, marked_well, settled_well, state_at_place_well, went_well}
use Rattle.ss_state.proofs.Wells.Assigning.{assign_well}
use Rattle.ss_state.proofs.Wells.Entities.{making_well}
use Rattle.ss_state.proofs.Wells.Filing.{filing_well}
use Rattle.ss_state.proofs.Wells.Printing.{IsShort, appended_short, report_well}
use Rattle.ss_state.proofs.Wells.Branching.{branch_well}
use Rattle.ss_state.proofs.Wells.Looping.{looping_well}
use Rattle.ss_state.proofs.Wells.Calling.{call_well, frame_well, section_well}
use Rattle.ss_state.proofs.Wells.Timing.{cancel_well, schedule_well}
use Rattle.ss_state.proofs.Wells.Simulating.{started_well}
use Rattle.ss_state.proofs.Wells.Reading.{went_read}

-- statements that schedule notices and start events, at the place of the last frame
timed_here : (p : ProgramTable) (s : State) (spot : Spot) (x : Place) → IsSound p →
    spot_at p s.frame.section s.frame.place ≡ Some spot →
    spot.place ≡ x → IsTimed p (section_of p s.frame.section) x
timed_here p s spot x sound at is =
    subst (λ (y : Place). IsTimed p (section_of p s.frame.section) y) is
    (spot_timed p s.frame.section s.frame.place spot sound at)

well_at : (p : ProgramTable) (s : State) (spot : Spot) (y : Ways) (x : Place) → IsSound p →
    spot_at p s.frame.section s.frame.place ≡ Some spot →
    spot.place ≡ x → LeadsHere p s y x → IsInBounds p s → IsInBounds p (step_at p s y x)
well_at p s spot y (places.Assign a) sound at is l w =
    went_well p s _ y.next (assign_rest (tables_of p) s a) (assign_well (tables_of p) p s a w) l.next w
well_at p s spot y (places.Making m) sound at is l w =
    went_well p s _ y.next (making_rest (tables_of p) s m) (making_well (tables_of p) p s m w) l.next w
well_at p s spot y (places.Filing f) sound at is l w =
    went_well p s _ y.next (filing_rest (tables_of p) s f) (filing_well (tables_of p) p s f w) l.next w
well_at p s spot y (places.Output (Print count values picture)) sound at is l w =
    settled_well IsShort p s _ _ w
    (after_got (λ (_ : List ℤ). Unit {0}) IsShort (values_of (readings (tables_of p) s) values) _ (anything _)
    (λ xs _. appended_short s.report (picture_text picture xs)))
    (λ report h. state_at_place_well p (record s { report = report }) y.next l.next (report_well p s report h w))
well_at p s spot y (places.Output (Skip e)) sound at is l w =
    settled_well IsShort p s _ _ w
    (after_got (λ (_ : ℕ). Unit {0}) IsShort (lines_asked (readings (tables_of p) s) e) _ (anything _)
    (λ n _. appended_short s.report (replicate n LINE_FEED)))
    (λ report h. state_at_place_well p (record s { report = report }) y.next l.next (report_well p s report h w))
well_at p s spot y (places.Control Stop) sound at is l w = marked_well p s Stopped w
well_at p s spot y (places.Control Return) sound at is l w =
    section_well p s (section_of p s.frame.section).kind sound refl w
well_at p s spot y (places.Control End) sound at is l w =
    section_well p s (section_of p s.frame.section).kind sound refl w
well_at p s spot y (places.Branch b) sound at is l w = branch_well p s y b l w
well_at p s spot y (places.Looping x) sound at is l w =
    looping_well p s y (scope_in p s.frame.section) x
    (subst (λ (z : Place). IsSoundPlace (scope_in p s.frame.section) z) is
    (spot_sound p s.frame.section s.frame.place spot sound at)) refl l w
well_at p s spot y (places.Call c) sound at is l w = call_well p s spot c sound at is l.leads w
well_at p s spot y (places.Timing (timings.Schedule x)) sound at is l w =
    let t : IsTimed p (section_of p s.frame.section) (places.Timing (timings.Schedule x)) =
    timed_here p s spot _ sound at is in
    went_well p s _ y.next (schedule_rest p s x) (schedule_well p s x t.event w) l.next w
well_at p s spot y (places.Timing (timings.Cancel c is_called e)) sound at is l w =
    went_well p s _ y.next (cancel_rest (tables_of p) s c e) (cancel_well (tables_of p) p s c e w) l.next w
well_at p s spot y (places.Timing timings.Start) sound at is l w =
    let t : is_main (section_of p s.frame.section) ≡ true = timed_here p s spot _ sound at is in
    let starts : StartsAt (spot_at p s.frame.section s.frame.place) =
    rw at (subst (λ (x : Place). Starts x) (sym is) tt) in
    started_well p s y.next (loads p s) sound t starts l.next w
well_at p s spot y (places.Read ts) sound at is l w =
    went_read p s y.next ts l.next w

well_by : (p : ProgramTable) (s : State) (o : Option Spot) → IsSound p → IsInBounds p s →
    spot_at p s.frame.section s.frame.place ≡ o → IsInBounds p (step_by p s o)
well_by p s None sound w e = w
well_by p s (Some spot) sound w e =
    well_at p s spot (ways_here p s spot.place) spot.place sound e refl
    (spot_linked p s.frame.section s.frame.place spot sound e) w

-- a step keeps a state in bounds
pub step_in_bounds : (p : ProgramTable) (s : State) → IsSound p → IsInBounds p s → IsInBounds p (step p s)
step_in_bounds p s sound w = well_by p s (spot_at p s.frame.section s.frame.place) sound w refl

-- and well-formed
pub well_step : (p : ProgramTable) (s : State) → IsSound p → IsWell p s → IsWell p (step p s)
well_step p s sound w = record { bounds = step_in_bounds p s sound w.bounds; loops = nested_step p s sound w.loops }

well_next : (p : ProgramTable) (s : State) (goes_on : Bool) → IsSound p → IsWell p s →
    IsWell p (if goes_on then step p s else s)
well_next p s true sound w = well_step p s sound w
well_next p s false sound w = w

-- the section MAIN is one
passes_by : {X : Type 0} (f : X → Bool) (x : X) (xs : List X) (t : X) (n : ℕ) (b : Bool) → f x ≡ b →
    (slice_get xs n ≡ Some t → f t ≡ true) →
    slice_get (x ∷ xs) (cond (not b) (1 + n) 0) ≡ Some t → f t ≡ true
passes_by {X = X} f x xs t n true h k g = let e : x ≡ t = cc in subst (λ (u : X). f u ≡ true) e h
passes_by f x xs t n false h k g =
    let z : 1 + n ≡ suc n = omega arith in
    k (subst (λ (i : ℕ). slice_get (x ∷ xs) i ≡ Some t) z g)

passes_at : {X : Type 0} (f : X → Bool) (xs : List X) (t : X) → slice_get xs (position_or_len f xs) ≡ Some t →
    f t ≡ true
passes_at f [] t e = cc
passes_at f (x ∷ xs) t e = passes_by f x xs t (position_or_len f xs) (f x) refl (passes_at f xs t) e

main_there : (p : ProgramTable) (o : Option SectionTable) → IsSound p → slice_get p.sections (main_number p) ≡ o →
    is_main (unwrap_or o no_section) ≡ true
main_there p None sound e = refl
main_there p (Some t) sound e = passes_at is_main p.sections t e

start_in_bounds : (i : Input) → IsSound i.program → AreItemsInRange i.items → IsInBounds i.program (run i 0)
start_in_bounds i sound items = record {
  variables = length-replicate _ _;
  values = zeros_in _;
  frame = frame_well i.program (main_number i.program) [] sound (one_main i.program sound) (omega arith) tt;
  below = tt;
  stack = main_there i.program (slice_get i.program.sections (main_number i.program)) sound refl;
  few = omega arith;
  clock = refl;
  store = empty_in (tables_of i.program);
  items = items;
  taken = omega arith;
  report = omega arith;
  due = tt;
  entry = tt;
}

pub well_start : (i : Input) → IsSound i.program → AreItemsInRange i.items → IsWell i.program (run i 0)
well_start i sound items = record { bounds = start_in_bounds i sound items; loops = (refl, tt) }

-- every state of the run is well-formed
pub well_run : (i : Input) (k : ℕ) → IsSound i.program → AreItemsInRange i.items → IsWell i.program (run i k)
well_run i zero sound items = well_start i sound items
well_run i (suc k) sound items =
    well_next i.program (run i k) (is_ready (run i k).status) sound (well_run i k sound items)
