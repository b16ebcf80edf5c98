-- What is noted of a state that a movement leaves, and what it is compared with.
use Rattle.std.specs.Prelude.{ℕ, suc, ◌≡◌, ◌-◌, min, Bool, false, not, if◌then◌else◌, List, [], ◌∷◌, length, map}
use Rattle.std.specs.Prelude.{slice_index_or, Option, Some, None}
use Rattle.std.specs.List.{filter}
use Rattle.std.specs.List.Sorted.{IsNonDecreasing}
use Rattle.ss_links.specs.Seats.{has}
use Rattle.ss_program.specs.Program.{ProgramTable}
use Rattle.ss_state.specs.Run.{Input, run}
use Rattle.ss_state.specs.State.{State}
use Rattle.ss_changes.specs.declared.part.Part.{Part}
use Rattle.ss_changes.specs.declared.part.Part.TheVariants.{Entity, Notice}
use Rattle.ss_changes.specs.declared.change.Change.{Change}
use Rattle.ss_changes.specs.declared.value.PartValue.{PartValue}
use Rattle.ss_changes.specs.declared.value.PartValue.TheVariants.{Absent}
use Rattle.ss_changes.specs.Values.{value_in, life_of}
use Rattle.ss_changes.specs.Parts.{below_of, global_part, local_part, local_names, notices_in, section_below}
use Rattle.ss_changes.specs.Parts.{is_same_section}
use Rattle.ss_changes.specs.View.{living_in, attributes_among, lists_among, single_parts, told_against}

-- ---- what is noted

-- some parts, and the value of each
pub record NotedView : Type 0 where
  -- the parts
  pub parts : List Part
  -- their values, in the same order
  pub values : List PartValue

-- a frame
pub record FrameView : Type 0 where
  -- the number of the section that it runs
  pub section : Option ℕ
  -- its locals
  pub locals : NotedView

-- what is noted of a state
pub record SnapshotView : Type 0 where
  -- the position of the state
  pub position : ℕ
  -- the global variables
  pub globals : NotedView
  -- the frames, MAIN's first
  pub frames : List FrameView
  -- the attributes of the entities that live
  pub attributes : NotedView
  -- the numbers of the entities that live, class by class
  pub living : List (List ℕ)
  -- the lists
  pub lists : NotedView
  -- the pending notices, in their order
  pub notices : NotedView
  -- the parts of which there is one
  pub singles : NotedView

-- some parts with their values in a state
abbrev pub noted : ProgramTable → State → List Part → NotedView
noted program state xs = record { parts = xs; values = map (value_in program state) xs }

-- the frame with n frames below it
abbrev pub frame_noted : ProgramTable → State → ℕ → FrameView
frame_noted program state n = record {
  section = section_below state n;
  locals = noted program state (below_of (local_part n) (length (local_names program state n)));
}

-- all frames of a state
abbrev pub frames_noted : ProgramTable → State → List FrameView
frames_noted program state = below_of (λ n. frame_noted program state n ∷ []) (suc (length state.below))

-- what is noted of a state at a position
abbrev pub snapshot_of : ProgramTable → State → ℕ → SnapshotView
snapshot_of program state p = record {
  position = p;
  globals = noted program state (below_of global_part (length program.globals));
  frames = frames_noted program state;
  attributes = noted program state (attributes_among program (living_in program state));
  living = living_in program state;
  lists = noted program state (lists_among program (living_in program state));
  notices = noted program state (notices_in program state);
  singles = noted program state single_parts;
}

-- it was noted of a state of a run
abbrev pub IsTakenIn : Input → SnapshotView → Type 0
IsTakenIn input left = left ≡ snapshot_of input.program (run input left.position) left.position

-- ---- what is compared with it

-- no number of a class is less than the one before it
abbrev pub AreRising : List (List ℕ) → Type 0
AreRising living = (c : ℕ) → IsNonDecreasing (slice_index_or living c [])

-- noted parts, against their values in a state
abbrev pub noted_against : ProgramTable → State → NotedView → List Change
noted_against program u notes = told_against program u notes.parts notes.values

-- the last frame that both states have, if some frames are noted
abbrev pub shared_frame : List FrameView → State → ℕ
shared_frame frames u = min (length frames) (suc (length u.below)) - 1

-- no frame
abbrev pub no_frame : FrameView
no_frame = record { section = None; locals = record { parts = []; values = [] } }

-- the locals of the frame with n frames below it, if it runs the same section in a state
abbrev pub frame_against : ProgramTable → State → ℕ → FrameView → List Change
frame_against program u n frame =
    if is_same_section frame.section (section_below u n) then noted_against program u frame.locals else []

-- the locals of the last frame that both states have
abbrev pub frames_against : ProgramTable → State → List FrameView → List Change
frames_against program u frames =
    frame_against program u (shared_frame frames u) (slice_index_or frames (shared_frame frames u) no_frame)

-- the value that a part had, by the entities that lived: no notice was pending
abbrev pub value_before : List (List ℕ) → Part → PartValue
value_before lived (Entity c k) = life_of (has (slice_index_or lived c []) k)
value_before lived _ = Absent

-- the numbers of the notices among some parts
abbrev pub numbers_of : List Part → List ℕ
numbers_of [] = []
numbers_of (Notice c k ∷ xs) = k ∷ numbers_of xs
numbers_of (_ ∷ xs) = numbers_of xs

-- whether a part is a notice with one of some numbers
abbrev pub is_among : List ℕ → Part → Bool
is_among known (Notice c k) = has known k
is_among known _ = false

-- those of some parts that are no notices with these numbers
abbrev pub new_among : List ℕ → List Part → List Part
new_among known xs = filter (λ x. not (is_among known x)) xs
