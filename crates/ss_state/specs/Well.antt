-- A well-formed state.
use Rattle.std.specs.Prelude.{◌≡◌, ℕ, ℤ, ◌<◌, ◌≤◌, List, [], ◌∷◌, length, slice_get, true, false, int_lt, is_some}
use Rattle.std.specs.Prelude.{Option, Some, None}
use Rattle.ss_report.specs.declared.limits.TheConstants.{LONGEST_REPORT}
use Rattle.ss_program.specs.declared.kinds.SectionKind.{SectionKind}
use Rattle.ss_program.specs.declared.kinds.SectionKind.TheVariants.{Main, Routine, Event}
use Rattle.ss_program.specs.declared.place.Place.{Place}
use Rattle.ss_program.specs.declared.place.Place.TheVariants.{Call, Timing}
use Rattle.ss_program.specs.declared.timing.Timing.TheVariants.{Start}
use Rattle.ss_program.specs.declared.place.Spot.{Spot}
use Rattle.ss_program.specs.Nesting.{may_be_open}
use Rattle.ss_program.specs.Program.{ProgramTable, places_of, locals_of, class_of, event_of, section_of, is_main}
use Rattle.ss_program.specs.Program.{is_event, spot_at}
use Rattle.ss_data.specs.Items.{Item}
use Rattle.ss_store.specs.Store.{Entity, Store, exists}
use Rattle.ss_events.specs.Agenda.{Pending, pending_at}
use Rattle.ss_state.specs.declared.entry.Entry.{Entry}
use Rattle.ss_state.specs.declared.entry.Entry.TheVariants.{Absent, Waiting, Running}
use Rattle.ss_state.specs.Loops.{OpenLoop, AreSoundWalks}
use Rattle.ss_state.specs.declared.limits.TheConstants.{MOST_BELOW}
use Rattle.ss_state.specs.State.{State, FrameState, Statistics}
use Rattle.ss_words.specs.Ranges.{in_range}

-- values are in range
abbrev pub AreInRange : List ℤ → Type 0
AreInRange [] = Unit {0}
AreInRange (z ∷ zs) = (in_range z ≡ true) × AreInRange zs

-- a value that may be missing is in range
abbrev pub IsNoneOrInRange : Option ℤ → Type 0
IsNoneOrInRange None = Unit {0}
IsNoneOrInRange (Some x) = in_range x ≡ true

-- the candidates of open loops are in range
abbrev pub AreLoopsInRange : List OpenLoop → Type 0
AreLoopsInRange [] = Unit {0}
AreLoopsInRange (l ∷ ls) = IsNoneOrInRange l.candidate × AreLoopsInRange ls

-- the numbers of the data are
abbrev pub AreItemsInRange : List Item → Type 0
AreItemsInRange [] = Unit {0}
AreItemsInRange (i ∷ is) = IsNoneOrInRange i.value × AreItemsInRange is

-- statistics are
pub record AreStatisticsInRange (statistics : Statistics) : Type 0 where
  -- how many values there were
  pub number : in_range statistics.number ≡ true
  -- their sum
  pub sum : in_range statistics.sum ≡ true
  -- the greatest of them
  pub greatest : in_range statistics.greatest ≡ true
  -- the least of them
  pub least : in_range statistics.least ≡ true

-- the attributes of entities are
abbrev pub AreEntitiesInRange : List Entity → Type 0
AreEntitiesInRange [] = Unit {0}
AreEntitiesInRange (e ∷ es) = AreInRange e.attributes × AreEntitiesInRange es

-- those of the entities of each class are
abbrev pub AreClassesInRange : List (List Entity) → Type 0
AreClassesInRange [] = Unit {0}
AreClassesInRange (es ∷ rest) = AreEntitiesInRange es × AreClassesInRange rest

-- those of an entity that may have ended are
abbrev pub IsNoneOrEntityInRange : Option Entity → Type 0
IsNoneOrEntityInRange None = Unit {0}
IsNoneOrEntityInRange (Some e) = AreInRange e.attributes

-- those of the entities with references are
abbrev pub AreReferencesInRange : List (Option Entity) → Type 0
AreReferencesInRange [] = Unit {0}
AreReferencesInRange (o ∷ os) = IsNoneOrEntityInRange o × AreReferencesInRange os

-- those of all entities are
pub record IsStoreInRange (store : Store) : Type 0 where
  -- those of the permanent classes
  pub made : AreClassesInRange store.made
  -- those with references
  pub references : AreReferencesInRange store.references

-- a well-formed frame
pub record IsWellFrame (program : ProgramTable) (frame : FrameState) : Type 0 where
  -- its section is one of the program's
  pub section : frame.section < length program.sections
  -- it is at a place of that section
  pub place : frame.place < length (places_of (slice_get program.sections frame.section))
  -- it has the locals of that section
  pub locals : length frame.locals ≡ length (locals_of (slice_get program.sections frame.section))
  -- their values are in range
  pub values : AreInRange frame.locals
  -- the candidates of its open loops are in range, too
  pub loops : AreLoopsInRange frame.loops
  -- the loops over sets walk sets that exist
  pub walks : AreSoundWalks (length program.sets) frame.loops
  -- the statistics of COMPUTE are in range
  pub statistics : AreStatisticsInRange frame.statistics

-- all frames are well-formed
abbrev pub AreWellFrames : ProgramTable → List FrameState → Type 0
AreWellFrames program [] = Unit {0}
AreWellFrames program (f ∷ fs) = IsWellFrame program f × AreWellFrames program fs

-- a place is a CALL of this section
abbrev pub Calls : ℕ → Place → Type 0
Calls section (Call c) = c.section ≡ section
Calls section other = ⊥

-- an optional place exists and has the property above
abbrev pub CallsAt : ℕ → Option Spot → Type 0
CallsAt section None = ⊥
CallsAt section (Some spot) = Calls section spot.place

-- a place is START SIMULATION
abbrev pub Starts : Place → Type 0
Starts (Timing Start) = Unit {0}
Starts other = ⊥

-- an optional place exists and has the property above
abbrev pub StartsAt : Option Spot → Type 0
StartsAt None = ⊥
StartsAt (Some spot) = Starts spot.place

-- the frame below a frame of this kind of section: a routine's is at a CALL of it, an event's is
-- MAIN's at START SIMULATION; MAIN's has none
abbrev pub StandsOn : ProgramTable → SectionKind → ℕ → FrameState → Type 0
StandsOn program Main section frame = ⊥
StandsOn program Routine section frame = CallsAt section (spot_at program frame.section frame.place)
StandsOn program Event section frame =
    (is_main (section_of program frame.section) ≡ true) × StartsAt (spot_at program frame.section frame.place)

-- the first frame is MAIN's, and each other has the right one below it
abbrev pub IsStack : ProgramTable → ℕ → List FrameState → Type 0
IsStack program section [] = is_main (section_of program section) ≡ true
IsStack program section (f ∷ fs) =
    StandsOn program (section_of program section).kind section f × IsStack program f.section fs

-- a pending notice that is due at the clock or later
pub record IsDue (program : ProgramTable) (clock : ℤ) (store : Store) (notice : Pending) : Type 0 where
  -- its class is an event class
  pub event : is_event (class_of program notice.class).kind ≡ true
  -- it exists
  pub exists : exists store notice.class notice.notice ≡ true
  -- its time is in range
  pub time : in_range notice.time ≡ true
  -- and not before the clock
  pub due : int_lt notice.time clock ≡ false
  -- the keys that order it among those due at that time are in range
  pub keys : AreInRange notice.keys

-- all pending notices are due
abbrev pub AreDue : ProgramTable → ℤ → Store → List Pending → Type 0
AreDue program clock store [] = Unit {0}
AreDue program clock store (e ∷ es) = IsDue program clock store e × AreDue program clock store es

-- all pending notices with reference k are of class c
abbrev pub AreOfClass : ℕ → ℕ → List Pending → Type 0
AreOfClass k c [] = Unit {0}
AreOfClass k c (e ∷ es) = (e.notice ≡ k → e.class ≡ c) × AreOfClass k c es

-- the second frame is one of section number i; the last frame's section, and the frames below it
abbrev pub IsSecond : ℕ → ℕ → List FrameState → Type 0
IsSecond i section [] = ⊥
IsSecond i section (f ∷ []) = section ≡ i
IsSecond i section (f ∷ g ∷ fs) = IsSecond i f.section (g ∷ fs)

-- an entry is of an external class; one that waits is a pending notice of it, one that runs belongs to the second frame
abbrev pub IsWellEntry : ProgramTable → List Pending → ℕ → List FrameState → Entry → Type 0
IsWellEntry program es section below Absent = Unit {0}
IsWellEntry program es section below (Waiting c k) =
    ((event_of program c).external ≡ true) × (is_some (pending_at es k) ≡ true) × AreOfClass k c es
IsWellEntry program es section below (Running c k) =
    ((event_of program c).external ≡ true) × IsSecond (event_of program c).section section below

-- a state all of which is within its bounds
pub record IsInBounds (program : ProgramTable) (state : State) : Type 0 where
  -- each global variable has a value
  pub variables : length state.variables ≡ length program.globals
  -- which is in range
  pub values : AreInRange state.variables
  -- the last frame is well-formed
  pub frame : IsWellFrame program state.frame
  -- those below it are well-formed, too
  pub below : AreWellFrames program state.below
  -- the first is MAIN's, and each other has the right one below it
  pub stack : IsStack program state.frame.section state.below
  -- there are at most 200
  pub few : length state.below ≤ MOST_BELOW
  -- the clock is in range
  pub clock : in_range state.clock ≡ true
  -- the attributes of all entities are in range
  pub store : IsStoreInRange state.store
  -- the numbers of the data are in range
  pub items : AreItemsInRange state.feed.items
  -- no more items are taken than there are
  pub taken : state.feed.taken ≤ length state.feed.items
  -- the report is within its limit
  pub report : length state.report ≤ LONGEST_REPORT
  -- all pending notices are due
  pub due : AreDue program state.clock state.store state.agenda.pending
  -- the entry of an external event is well-formed
  pub entry : IsWellEntry program state.agenda.pending state.frame.section state.below state.entry

-- the places of the phrases of loops
abbrev pub phrases_of : List OpenLoop → List ℕ
phrases_of [] = []
phrases_of (l ∷ ls) = l.phrase ∷ phrases_of ls

-- the open loops of a frame are those of the FOR phrases around its place, with or without that of the place itself
abbrev pub HasItsLoops : ProgramTable → FrameState → Type 0
HasItsLoops program frame =
    may_be_open (places_of (slice_get program.sections frame.section)) (phrases_of frame.loops) frame.place ≡ true

-- all frames have their loops
abbrev pub HaveTheirLoops : ProgramTable → List FrameState → Type 0
HaveTheirLoops program [] = Unit {0}
HaveTheirLoops program (f ∷ fs) = HasItsLoops program f × HaveTheirLoops program fs

-- a well-formed state
pub record IsWell (program : ProgramTable) (state : State) : Type 0 where
  -- all is within its bounds
  pub bounds : IsInBounds program state
  -- the open loops of each frame are those around its place
  pub loops : HaveTheirLoops program (state.frame ∷ state.below)
