-- Private: how much a step may change of the parts of a state that no glance shows, by the kind of
-- its place.
use Rattle.std.specs.Prelude.{ℕ, Bool, true, false, Option, Some, None, if◌then◌else◌}
use Rattle.ss_program.specs.Program.{ProgramTable, spot_at}
use Rattle.ss_program.specs.declared.filing.Filing.{Filing}
use Rattle.ss_program.specs.declared.filing.Filing.TheVariants.{File, FileAt, RemoveAt, Remove}
use Rattle.ss_program.specs.declared.making.Making.{Making}
use Rattle.ss_program.specs.declared.making.Making.TheVariants.{CreateEvery}
use Rattle.ss_program.specs.declared.looping.Looping.{Looping}
use Rattle.ss_program.specs.declared.looping.Looping.TheVariants.{Tell}
use Rattle.ss_program.specs.declared.place.Assign.{Assign}
use Rattle.ss_program.specs.declared.place.Control.{Control}
use Rattle.ss_program.specs.declared.place.Control.TheVariants.{Stop}
use Rattle.ss_program.specs.declared.place.Place.{Place}
use Rattle.ss_program.specs.declared.place.Place.TheVariants as places
use Rattle.ss_program.specs.declared.place.Spot.{Spot}
use Rattle.ss_program.specs.declared.target.Target.{Target}
use Rattle.ss_program.specs.declared.target.Target.TheVariants as targets
use Rattle.ss_state.specs.State.{State}
use Rattle.ss_state.specs.Statements.Assigning.{target_of}
use Rattle.ss_state.specs.Run.{Input, run}
use Rattle.ss_debug.specs.declared.commands.Question.TheVariants as shown
use Rattle.ss_trace.specs.declared.question.Question.{Question}
use Rattle.ss_trace.specs.declared.question.Question.TheVariants.{Shown}
use Rattle.ss_trace.specs.declared.touches.Part.{Part}
use Rattle.ss_trace.specs.declared.touches.Part.TheVariants as parts
use Rattle.ss_trace.specs.declared.touches.Touch.{Touch}
use Rattle.ss_trace.specs.declared.touches.Touch.TheVariants.{Nothing, Attribute, Attributes, Set, Entities, Anything}

-- ---- entities and lists

-- the touch of an assigned value: an attribute of a class, if the target is one
abbrev pub touched_target : Target → Touch
touched_target (targets.Variable v) = Nothing
touched_target (targets.Attribute c a i) = Attribute c a

-- the touch of an assignment
abbrev pub touched_assign : Assign → Touch
touched_assign statement = touched_target (target_of statement)

-- the touch of a removal from a list of set s, if the member goes to a target
abbrev pub touched_removal : Target → ℕ → Touch
touched_removal (targets.Variable v) s = Set s
touched_removal (targets.Attribute c a i) s = Entities

-- the touch of a statement that files or removes
abbrev pub touched_filing : Filing → Touch
touched_filing (File e position r) = Set r.set
touched_filing (FileAt end e r) = Set r.set
touched_filing (RemoveAt end target r) = touched_removal target r.set
touched_filing (Remove e r) = Set r.set

-- the end of a section assigns the value that it yields
abbrev pub touched_control : Control → Touch
touched_control Stop = Nothing
touched_control _ = Attributes

-- a statement that goes through cases assigns the statistics that it gives
abbrev pub touched_looping : Looping → Touch
touched_looping (Tell targets) = Attributes
touched_looping _ = Nothing

-- whether a statement that makes or ends entities makes all of a class
abbrev pub makes_a_class : Making → Bool
makes_a_class (CreateEvery c n count) = true
makes_a_class _ = false

-- the touch of a statement that makes or ends entities
abbrev pub touched_making : Making → Touch
touched_making making = if makes_a_class making then Anything else Entities

-- each place
abbrev pub touched_entities : Place → Touch
touched_entities (places.Assign a) = touched_assign a
touched_entities (places.Making m) = touched_making m
touched_entities (places.Filing f) = touched_filing f
touched_entities (places.Output o) = Nothing
touched_entities (places.Control c) = touched_control c
touched_entities (places.Branch b) = Nothing
touched_entities (places.Looping l) = touched_looping l
touched_entities (places.Call c) = Nothing
touched_entities (places.Timing x) = Entities
touched_entities (places.Read targets) = Attributes

-- ---- other parts

-- lists, otherwise than by a member more or less
abbrev pub touched_lists : Place → Touch
touched_lists (places.Making m) = if makes_a_class m then Anything else Nothing
touched_lists place = Nothing

-- the pending notices
abbrev pub touched_notices : Place → Touch
touched_notices (places.Timing x) = Anything
touched_notices place = Nothing

-- ---- a step

-- how much the step of a place may change of a part
abbrev pub touched_part : Part → Place → Touch
touched_part parts.Anything place = Anything
touched_part parts.Nothing place = Nothing
touched_part parts.Entities place = touched_entities place
touched_part parts.Lists place = touched_lists place
touched_part parts.Notices place = touched_notices place

-- how much the step of the place there may change, if there is one
abbrev pub touched_by : Part → Option Spot → Touch
touched_by part None = Anything
touched_by part (Some spot) = touched_part part spot.place

-- how much the step of the last frame's place may change
abbrev pub touched_in : ProgramTable → Part → State → Touch
touched_in program part state = touched_by part (spot_at program state.frame.section state.frame.place)

-- how much the step from state p may change of a part
abbrev pub touched_at : Input → Part → ℕ → Touch
touched_at input parts.Anything p = Anything
touched_at input parts.Nothing p = Nothing
touched_at input parts.Entities p = touched_in input.program parts.Entities (run input p)
touched_at input parts.Lists p = touched_in input.program parts.Lists (run input p)
touched_at input parts.Notices p = touched_in input.program parts.Notices (run input p)

-- the part at which a question looks, next to its glance
abbrev pub part_of : Question → Part
part_of (Shown shown.Where) = parts.Anything
part_of (Shown (shown.Entity name x)) = parts.Entities
part_of (Shown (shown.Set name owner)) = parts.Lists
part_of (Shown shown.Events) = parts.Notices
part_of _ = parts.Nothing
