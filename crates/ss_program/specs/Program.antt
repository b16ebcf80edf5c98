-- The checked program: its tables in order of declaration, and the places of each section. A row is named by its
-- number, from 0.
use Rattle.std.specs.Prelude.{ℕ, ◌+◌, ◌==◌, List, [], length, take, count_by, slice_get, position, Option, Some, None}
use Rattle.std.specs.Prelude.{unwrap_or, Bool, true, false}
use Rattle.std.specs.List.{list_any, position_or_len}
use Rattle.ss_program.specs.EventTable.{EventTable}
use Rattle.ss_program.specs.declared.kinds.ClassKind.{ClassKind}
use Rattle.ss_program.specs.declared.kinds.ClassKind.TheVariants.{Permanent, Temporary, Event}
use Rattle.ss_program.specs.declared.kinds.Discipline.{Discipline}
use Rattle.ss_program.specs.declared.kinds.Discipline.TheVariants.{Fifo}
use Rattle.ss_program.specs.declared.kinds.Owner.{Owner}
use Rattle.ss_program.specs.declared.kinds.Owner.TheVariants.{System, OwnedBy}
use Rattle.ss_program.specs.declared.kinds.SectionKind.{SectionKind}
use Rattle.ss_program.specs.declared.kinds.SectionKind.TheVariants.{Main, Routine, Event as EventSection}
use Rattle.ss_program.specs.declared.place.Spot.{Spot}
use Rattle.ss_program.specs.declared.timing.Listing.{Listing}
use Rattle.ss_program.specs.declared.timing.Listing.TheVariants.{Given}

-- a class
pub record ClassTable : Type 0 where
  -- its name
  pub name : List ℕ
  -- permanent entities, temporary ones or event notices
  pub kind : ClassKind
  -- the global variable of its name
  pub variable : ℕ
  -- the names of its attributes
  pub attributes : List (List ℕ)

-- a set
pub record SetTable : Type 0 where
  -- its name
  pub name : List ℕ
  -- the order of its lists
  pub discipline : Discipline
  -- the owner of its lists
  pub owner : Owner
  -- the class of its members
  pub member : ℕ

-- a local DEFINE
pub record DefineTable : Type 0 where
  -- its line
  pub line : ℕ
  -- the names that it gives
  pub names : List (List ℕ)

-- a section
pub record SectionTable : Type 0 where
  -- its name
  pub name : List ℕ
  -- MAIN, a routine or the section of an event
  pub kind : SectionKind
  -- the line of its head
  pub line : ℕ
  -- how many given parameters it has
  pub given : ℕ
  -- how many yielded ones
  pub yielded : ℕ
  -- whether it says SAVING
  pub saving : Bool
  -- the names of its locals, those of the parameters first
  pub locals : List (List ℕ)
  -- its places
  pub places : List Spot
  -- how its given parameters are written
  pub listing : Listing
  -- its local DEFINEs
  pub defines : List DefineTable

-- a program
pub record ProgramTable : Type 0 where
  -- the names of the global variables
  pub globals : List (List ℕ)
  -- the classes
  pub classes : List ClassTable
  -- the sets
  pub sets : List SetTable
  -- the event classes that PRIORITY names, in its order
  pub priority : List ℕ
  -- the sections
  pub sections : List SectionTable

-- MAIN, by the kind of a section
abbrev pub is_main_kind : SectionKind → Bool
is_main_kind Main = true
is_main_kind _ = false

-- the section of an event, by its kind
abbrev pub is_event_kind : SectionKind → Bool
is_event_kind EventSection = true
is_event_kind _ = false

-- a routine, by the kind of a section
abbrev pub is_routine_kind : SectionKind → Bool
is_routine_kind Routine = true
is_routine_kind _ = false

-- a routine
abbrev pub is_routine : SectionTable → Bool
is_routine section = is_routine_kind section.kind

-- the section MAIN
abbrev pub is_main : SectionTable → Bool
is_main section = is_main_kind section.kind

-- the number of the section MAIN
abbrev pub main_number : ProgramTable → ℕ
main_number program = position_or_len is_main program.sections

-- the places of section number i
abbrev pub places_of : Option SectionTable → List Spot
places_of (Some s) = s.places
places_of None = []

-- the names of the locals of section number i
abbrev pub locals_of : Option SectionTable → List (List ℕ)
locals_of (Some s) = s.locals
locals_of None = []

-- place number `place` of section number `section`
abbrev pub spot_at : ProgramTable → ℕ → ℕ → Option Spot
spot_at program section place = slice_get (places_of (slice_get program.sections section)) place

-- ---- rows of the tables by their numbers; no sound program asks for one that isn't there

-- class number c
abbrev pub class_of : ProgramTable → ℕ → ClassTable
class_of program c =
    unwrap_or (slice_get program.classes c) (record { name = []; kind = Temporary; variable = 0; attributes = [] })

-- set number s
abbrev pub set_of : ProgramTable → ℕ → SetTable
set_of program s =
    unwrap_or (slice_get program.sets s) (record { name = []; discipline = Fifo; owner = System; member = 0 })

-- the further parts of a class of this kind, if it is an event class
abbrev pub event_of_kind : ClassKind → EventTable
event_of_kind (Event e) = e
event_of_kind _ = record { section = 0; ties = []; external = false }

-- a section of nothing
abbrev pub no_section : SectionTable
no_section = record {
  name = [];
  kind = Main;
  line = 0;
  given = 0;
  yielded = 0;
  saving = false;
  locals = [];
  places = [];
  listing = Given;
  defines = [];
}

-- section number n
abbrev pub section_of : ProgramTable → ℕ → SectionTable
section_of program n = unwrap_or (slice_get program.sections n) no_section

-- the further parts of event class c
abbrev pub event_of : ProgramTable → ℕ → EventTable
event_of program c = event_of_kind (class_of program c).kind

-- ---- values read from the rows

-- the class is permanent
abbrev pub is_permanent : ClassKind → Bool
is_permanent (Permanent n) = true
is_permanent _ = false

-- the class is an event class
abbrev pub is_event : ClassKind → Bool
is_event (Event e) = true
is_event _ = false

-- the section of an event
abbrev pub is_event_section : SectionTable → Bool
is_event_section section = is_event_kind section.kind

-- the variable N.c of a permanent class
abbrev pub count_by_kind : ClassKind → ℕ
count_by_kind (Permanent n) = n
count_by_kind _ = 0

-- the global variable `N.c` of class c by its number; 0 if c is not permanent
abbrev pub count_variable : ProgramTable → ℕ → ℕ
count_variable program c = count_by_kind (class_of program c).kind

-- whether some class is external
abbrev pub has_external : ProgramTable → Bool
has_external program = list_any (λ c. (event_of_kind c.kind).external) program.classes

-- the place of an event class in the order of priority: those that are named, then the others as they are declared
abbrev pub priority_of : ProgramTable → ℕ → ℕ
priority_of program c = unwrap_or (position (λ d. c == d) program.priority) (length program.priority + c)

-- whether two owners are the same
abbrev pub is_same_owner : Owner → Owner → Bool
is_same_owner System System = true
is_same_owner (OwnedBy c) (OwnedBy d) = c == d
is_same_owner _ _ = false

-- how many of these sets an owner has
abbrev pub owned_among : Owner → List SetTable → ℕ
owned_among owner sets = count_by (λ t. is_same_owner owner t.owner) sets

-- the number of a set among those of its owner
abbrev pub list_number : ProgramTable → ℕ → ℕ
list_number program s = owned_among (set_of program s).owner (take s program.sets)
