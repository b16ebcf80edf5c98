-- Private: the glance at a state for a question. If it is the same on both sides of a step that
-- touches no other part at which the question looks, the answer is the same.
use Rattle.std.specs.Prelude.{ℕ, ◌<◌, ◌==◌, ◌&&◌, ℤ, pos, Bool, true, false, List, [], codes, length, take, drop}
use Rattle.std.specs.Prelude.{Option, Some, None, option_map, position, bytes_eq, slice_get, slice_index_or}
use Rattle.std.specs.Prelude.{if◌then◌else◌}
use Rattle.std.specs.Ordering.{int_eq}
use Rattle.std.specs.Result.{result_unwrap_or}
use Rattle.ss_program.specs.declared.kinds.Owner.{Owner}
use Rattle.ss_program.specs.declared.kinds.Owner.TheVariants.{System, OwnedBy}
use Rattle.ss_program.specs.Program.{ProgramTable, class_of, set_of, locals_of}
use Rattle.ss_store.specs.declared.shape.SetShape.{SetShape}
use Rattle.ss_store.specs.Store.{Store, number_of, exists, attribute_of, list_by}
use Rattle.ss_state.specs.declared.entry.Entry.{Entry}
use Rattle.ss_state.specs.declared.entry.Entry.TheVariants as entries
use Rattle.ss_state.specs.State.{State}
use Rattle.ss_state.specs.Run.{Input, run}
use Rattle.ss_debug.specs.declared.commands.Question.TheVariants as shown
use Rattle.ss_debug.specs.Entities.{class_named, set_named, shape_of}
use Rattle.ss_trace.specs.declared.question.Question.{Question}
use Rattle.ss_trace.specs.declared.question.Question.TheVariants.{Shown, Attribute as AttributeOf, Count as CountOf}
use Rattle.ss_trace.specs.declared.attribute.Kept.{Kept as KeptKind}
use Rattle.ss_trace.specs.declared.sight.Sight.{Sight}
use Rattle.ss_trace.specs.declared.sight.Sight.TheVariants.{Nothing, Clock, Global, Local, Taken, Entry as EntryHere}
use Rattle.ss_trace.specs.declared.sight.Sight.TheVariants.{Report, Entity, Living, Attribute, Kept, Members}
use Rattle.ss_trace.specs.declared.sight.Sight.TheVariants.{MembersNamed}
use Rattle.ss_trace.specs.declared.glance.Glance.{Glance}
use Rattle.ss_trace.specs.declared.glance.Glance.TheVariants as glances
use Rattle.ss_trace.specs.Question.{kept_of, has_kept, kept_value}

-- ---- the sight of a question: the meaning of its names in the tables of a program

-- VAR v: the clock, a global variable, or else a local of the section of the last frame
abbrev pub global_or_local : Option ℕ → Sight
global_or_local (Some i) = Global i
global_or_local None = Local

-- the sight of a variable by its name
abbrev pub sight_of_variable : ProgramTable → List ℕ → Sight
sight_of_variable program name =
    if bytes_eq name (codes "TIME.V") then Clock else global_or_local (position (bytes_eq name) program.globals)

-- c k a: a kept attribute in a set, if entities of class c have it; else whether the entity exists
abbrev pub sight_of_kept : ProgramTable → ℕ → ℤ → Option KeptKind → Option ℕ → Sight
sight_of_kept program c x (Some kept) (Some s) =
    if has_kept (set_of program s) c kept then Kept c s kept x else Living c x
sight_of_kept program c x (Some kept) None = Living c x
sight_of_kept program c x None s = Living c x

-- an attribute by its number, or else a kept one
abbrev pub sight_of_attribute : ProgramTable → ℕ → ℤ → List ℕ → Option ℕ → Sight
sight_of_attribute program c x name (Some a) = Attribute c a x
sight_of_attribute program c x name None =
    sight_of_kept program c x (kept_of (take 2 name)) (set_named program (drop 2 name))

-- the sight of an attribute of a class, if there is a class of this name
abbrev pub sight_of_class : ProgramTable → ℤ → List ℕ → Option ℕ → Sight
sight_of_class program x name None = Nothing
sight_of_class program x name (Some c) =
    sight_of_attribute program c x name (position (bytes_eq name) (class_of program c).attributes)

-- SET s [k], COUNT s [k]: a set's list of the system, a named owner or one that a variable names
abbrev pub sight_of_list : ProgramTable → ℕ → Option ℤ → Owner → Sight
sight_of_list program s None System = Members s (pos 0)
sight_of_list program s (Some x) System = Nothing
sight_of_list program s None (OwnedBy c) = MembersNamed s (class_of program c).variable
sight_of_list program s (Some x) (OwnedBy c) = Members s x

-- the sight of the list of a set, if there is a set of this name
abbrev pub sight_of_set : ProgramTable → Option ℤ → Option ℕ → Sight
sight_of_set program owner None = Nothing
sight_of_set program owner (Some s) = sight_of_list program s owner (set_of program s).owner

-- c k: the entity of a class, if there is one of this name
abbrev pub sight_of_entity : ℤ → Option ℕ → Sight
sight_of_entity x None = Nothing
sight_of_entity x (Some c) = Entity c x

-- the sight of a question
abbrev pub sight_of : ProgramTable → Question → Sight
sight_of program (Shown shown.Clock) = Clock
sight_of program (Shown shown.Where) = Nothing
sight_of program (Shown (shown.Variable name)) = sight_of_variable program name
sight_of program (Shown (shown.Entity name x)) = sight_of_entity x (class_named program name)
sight_of program (Shown (shown.Set name owner)) = sight_of_set program owner (set_named program name)
sight_of program (Shown shown.Events) = Nothing
sight_of program (Shown shown.Taken) = Taken
sight_of program (Shown shown.Entry) = EntryHere
sight_of program (Shown shown.Report) = Report
sight_of program (AttributeOf class x name) = sight_of_class program x name (class_named program class)
sight_of program (CountOf name owner) = sight_of_set program owner (set_named program name)

-- the rows at which it looks are in the tables
abbrev pub IsInTables : ProgramTable → Sight → Type 0
IsInTables program (Global i) = i < length program.globals
IsInTables program (Entity c x) = c < length program.classes
IsInTables program (Kept c s kept x) = s < length program.sets
IsInTables program (Members s x) = s < length program.sets
IsInTables program (MembersNamed s i) = (s < length program.sets) × (i < length program.globals)
IsInTables program _ = Unit {0}

-- ---- the glance

-- the name of the variable that a question asks for
abbrev pub variable_asked : Question → List ℕ
variable_asked (Shown (shown.Variable name)) = name
variable_asked _ = []

-- the value of the local of this name, if the section of the last frame has one
abbrev pub local_value : ProgramTable → State → List ℕ → Option ℤ
local_value program state name =
    option_map (λ i. slice_index_or state.frame.locals i (pos 0))
    (position (bytes_eq name) (locals_of (slice_get program.sections state.frame.section)))

-- a value of entity number k of class c, if that exists
abbrev pub value_if_exists : Store → ℕ → ℕ → ℤ → Option ℤ
value_if_exists store c k value = if exists store c k then Some value else None

-- how many members the list of a set has for owner number k, if that exists
abbrev pub members_counted : SetShape → Store → ℕ → Option ℕ
members_counted shape store k = option_map length (list_by shape.owner shape.list store k)

-- the count for the owner that x names, and x
abbrev pub members_seen : ProgramTable → Store → ℕ → ℤ → Glance
members_seen program store s x = glances.Members x (members_counted (shape_of program s) store (number_of x))

-- the glance at a state with a sight; nothing for an entity, whose numbers are many
abbrev pub glance_of : ProgramTable → State → Question → Sight → Glance
glance_of program state question Nothing = glances.Number None
glance_of program state question Clock = glances.Number (Some state.clock)
glance_of program state question (Global i) = glances.Number (Some (slice_index_or state.variables i (pos 0)))
glance_of program state question Local = glances.Number (local_value program state (variable_asked question))
glance_of program state question Taken = glances.Amount state.feed.taken
glance_of program state question EntryHere = glances.Entry state.entry
glance_of program state question Report = glances.Amount (length state.report)
glance_of program state question (Entity c k) = glances.Number None
glance_of program state question (Living c k) = glances.Number (value_if_exists state.store c (number_of k) (pos 0))
glance_of program state question (Attribute c a k) =
    glances.Number (value_if_exists state.store c (number_of k)
    (result_unwrap_or (attribute_of state.store c a (number_of k)) (pos 0)))
glance_of program state question (Kept c n kept k) =
    glances.Number (value_if_exists state.store c (number_of k)
    (pos (kept_value (shape_of program n) state.store (number_of k) kept)))
glance_of program state question (Members n k) = members_seen program state.store n k
glance_of program state question (MembersNamed n i) =
    members_seen program state.store n (slice_index_or state.variables i (pos 0))

-- the glance at state p
abbrev pub glance_at : Input → Question → ℕ → Glance
glance_at input question p = glance_of input.program (run input p) question (sight_of input.program question)

-- ---- two of them

-- the same number, or none in both
abbrev pub is_same_number : Option ℤ → Option ℤ → Bool
is_same_number None None = true
is_same_number (Some x) (Some y) = int_eq x y
is_same_number _ _ = false

-- the same count, or none in both
abbrev pub is_same_count : Option ℕ → Option ℕ → Bool
is_same_count None None = true
is_same_count (Some n) (Some m) = n == m
is_same_count _ _ = false

-- the same entry
abbrev pub is_same_entry : Entry → Entry → Bool
is_same_entry entries.Absent entries.Absent = true
is_same_entry (entries.Waiting c k) (entries.Waiting d j) = (c == d) && (k == j)
is_same_entry (entries.Running c k) (entries.Running d j) = (c == d) && (k == j)
is_same_entry _ _ = false

-- two glances are the same
abbrev pub is_same_glance : Glance → Glance → Bool
is_same_glance (glances.Number x) (glances.Number y) = is_same_number x y
is_same_glance (glances.Amount n) (glances.Amount m) = n == m
is_same_glance (glances.Entry e) (glances.Entry f) = is_same_entry e f
is_same_glance (glances.Members x n) (glances.Members y m) = int_eq x y && is_same_count n m
is_same_glance _ _ = false
