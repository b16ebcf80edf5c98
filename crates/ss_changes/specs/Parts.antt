-- The parts of two states, one after the other, each kind in the order of its table.
use Rattle.std.specs.Prelude.{ℕ, zero, suc, ◌-◌, min, not, Bool, false, nat_eq, if◌then◌else◌}
use Rattle.std.specs.Prelude.{List, [], ◌∷◌, ◌++◌, length, Option, Some, None}
use Rattle.std.specs.Option.{option_map}
use Rattle.std.specs.List.{filter}
use Rattle.ss_program.specs.declared.kinds.Owner.{Owner}
use Rattle.ss_program.specs.declared.kinds.Owner.TheVariants.{System, OwnedBy}
use Rattle.ss_program.specs.Program.{ProgramTable, class_of, set_of, section_of}
use Rattle.ss_events.specs.Rules.{rules_of}
use Rattle.ss_events.specs.Agenda.{Pending, in_order}
use Rattle.ss_state.specs.State.{State}
use Rattle.ss_state.specs.Frames.{frame_place}
use Rattle.ss_inspect.specs.Living.{living_numbers}
use Rattle.ss_changes.specs.declared.part.Part.{Part}
use Rattle.ss_changes.specs.declared.part.Part.TheVariants.{Global, Local, Attribute, Entity, Notice, Taken, Entry}
use Rattle.ss_changes.specs.declared.part.Part.TheVariants.{Clock, Report}
use Rattle.ss_changes.specs.declared.part.Part.TheVariants as parts
use Rattle.ss_changes.specs.Values.{value_in, is_there}

-- ---- parts one after the other

-- the elements of the numbers below n, in order
abbrev pub below_of : {A : Type 0} → (ℕ → List A) → ℕ → List A
below_of f zero = []
below_of f (suc n) = below_of f n ++ f n

-- the elements of each of some numbers, in order
abbrev pub each_of : {A : Type 0} → (ℕ → List A) → List ℕ → List A
each_of f [] = []
each_of f (k ∷ ks) = f k ++ each_of f ks

-- ---- variables

-- a global variable
abbrev pub global_part : ℕ → List Part
global_part i = Global i ∷ []

-- a local of the frame with n frames below it
abbrev pub local_part : ℕ → ℕ → List Part
local_part n i = Local n i ∷ []

-- the names of the locals of the section of a frame
abbrev pub names_in : ProgramTable → Option (ℕ × ℕ) → List (List ℕ)
names_in program None = []
names_in program (Some (section, place)) = (section_of program section).locals

-- the names of the locals of the frame with n frames below it
abbrev pub local_names : ProgramTable → State → ℕ → List (List ℕ)
local_names program state n = names_in program (frame_place state (length state.below - n))

-- how many frames are below the last one that both states have
abbrev pub frames_below : State → State → ℕ
frames_below state u = min (length state.below) (length u.below)

-- the locals of the last frame that both states have
abbrev pub local_parts : ProgramTable → State → State → List Part
local_parts program state u =
    below_of (local_part (frames_below state u)) (length (local_names program u (frames_below state u)))

-- ---- entities

-- an attribute of entity k of class c
abbrev pub attribute_part : ℕ → ℕ → ℕ → List Part
attribute_part c k a = Attribute c k a ∷ []

-- its attributes
abbrev pub attributes_of : ProgramTable → ℕ → ℕ → List Part
attributes_of program c k = below_of (attribute_part c k) (length (class_of program c).attributes)

-- the attributes of the entities of class c that live in a state
abbrev pub attribute_parts : ProgramTable → State → ℕ → List Part
attribute_parts program u c = each_of (attributes_of program c) (living_numbers u.store c)

-- an entity of class c
abbrev pub entity_part : ℕ → ℕ → List Part
entity_part c k = Entity c k ∷ []

-- the entities of class c that live in a state
abbrev pub entities_in : State → ℕ → List Part
entities_in state c = each_of (entity_part c) (living_numbers state.store c)

-- those of some parts that are not there in a state
abbrev pub absent_in : ProgramTable → State → List Part → List Part
absent_in program state xs = filter (λ x. not (is_there (value_in program state x))) xs

-- the entities of class c that ended, then those that were made
abbrev pub entity_parts : ProgramTable → State → State → ℕ → List Part
entity_parts program state u c = absent_in program u (entities_in state c) ++ absent_in program state (entities_in u c)

-- ---- lists

-- the list of set n for owner k
abbrev pub list_part : ℕ → ℕ → List Part
list_part n k = parts.List n k ∷ []

-- the owners of lists in a state: the system, which has number 0, or the entities of a class that live
abbrev pub owners_in : State → Owner → List ℕ
owners_in u System = 0 ∷ []
owners_in u (OwnedBy c) = living_numbers u.store c

-- the lists of set n in a state
abbrev pub list_parts : ProgramTable → State → ℕ → List Part
list_parts program u n = each_of (list_part n) (owners_in u (set_of program n).owner)

-- ---- notices

-- some notices
abbrev pub notices_of : List Pending → List Part
notices_of [] = []
notices_of (n ∷ ns) = Notice n.class n.notice ∷ notices_of ns

-- the notices that are pending in a state, in their order
abbrev pub notices_in : ProgramTable → State → List Part
notices_in program state = notices_of (in_order (rules_of program) state.agenda)

-- the notices that were pending, then those that are new
abbrev pub notice_parts : ProgramTable → State → State → List Part
notice_parts program state u = notices_in program state ++ absent_in program state (notices_in program u)

-- ---- all

-- the parts of two states with these locals: variables, attributes, entities, lists, notices, and the
-- four parts of which there is one
abbrev pub parts_with : List Part → ProgramTable → State → State → List Part
parts_with locals program state u =
    below_of global_part (length program.globals) ++ locals
    ++ below_of (attribute_parts program u) (length program.classes)
    ++ below_of (entity_parts program state u) (length program.classes)
    ++ below_of (list_parts program u) (length program.sets) ++ notice_parts program state u
    ++ Taken ∷ Entry ∷ Clock ∷ Report ∷ []

-- the parts of two states, with the locals of the last frame that both have
abbrev pub parts_of : ProgramTable → State → State → List Part
parts_of program state u = parts_with (local_parts program state u) program state u

-- ---- of two states that are perhaps many steps apart

-- the section that the frame with n frames below it runs
abbrev pub section_below : State → ℕ → Option ℕ
section_below state n = option_map (λ f. f.0) (frame_place state (length state.below - n))

-- whether two frames run the same section
abbrev pub is_same_section : Option ℕ → Option ℕ → Bool
is_same_section (Some a) (Some b) = nat_eq a b
is_same_section _ _ = false

-- the locals of the last frame that both states have, if it runs the same section in both
abbrev pub shared_locals : ProgramTable → State → State → List Part
shared_locals program state u =
    if is_same_section (section_below state (frames_below state u)) (section_below u (frames_below state u))
    then local_parts program state u else []

-- the parts of two states, but no locals of a frame that runs another section in each
abbrev pub shared_parts : ProgramTable → State → State → List Part
shared_parts program state u = parts_with (shared_locals program state u) program state u
