-- Rows of entities: some attributes of each, in one line.
use Rattle.std.specs.Prelude.{ℕ, ℤ, pos, List, [], ◌∷◌, ◌++◌, codes, decimal, if◌then◌else◌}
use Rattle.std.specs.Prelude.{Option, Some, None}
use Rattle.std.specs.Fmt.{signed_decimal}
use Rattle.ss_program.specs.Program.{ProgramTable, class_of, set_of}
use Rattle.ss_program.specs.declared.kinds.Owner.{Owner}
use Rattle.ss_program.specs.declared.kinds.Owner.TheVariants.{System, OwnedBy}
use Rattle.ss_store.specs.Store.{Store, number_of, is_owner, members_of}
use Rattle.ss_events.specs.declared.agenda.Slot.{Slot}
use Rattle.ss_events.specs.Rules.{rules_of}
use Rattle.ss_events.specs.Agenda.{Pending, in_order}
use Rattle.ss_events.specs.Slots.{slot_of}
use Rattle.ss_state.specs.State.{State}
use Rattle.ss_state.specs.Run.{Input, run}
use Rattle.ss_debug.specs.Entities.{class_named, set_named, shape_of, owner_or_variable, set_text}
use Rattle.ss_trace.specs.Question.{attribute_named}
use Rattle.ss_inspect.specs.Living.{living_numbers, living_text}

-- ---- a row

-- an attribute and its value; nothing if there is none of this name
abbrev pub cell : List ℕ → Option ℤ → List ℕ
cell name None = []
cell name (Some value) = name ++ codes " = " ++ signed_decimal value

-- the attribute of this name of entity number k of class c
abbrev pub cell_of : ProgramTable → Store → ℕ → ℕ → List ℕ → List ℕ
cell_of program store c k name = cell name (attribute_named program store c k name)

-- attributes, each after a comma
abbrev pub further_cells : ProgramTable → Store → ℕ → ℕ → List (List ℕ) → List ℕ
further_cells program store c k [] = []
further_cells program store c k (a ∷ more) =
    codes ", " ++ cell_of program store c k a ++ further_cells program store c k more

-- attributes in the order of their names, a comma between
abbrev pub cells : ProgramTable → Store → ℕ → ℕ → List (List ℕ) → List ℕ
cells program store c k [] = []
cells program store c k (a ∷ more) = cell_of program store c k a ++ further_cells program store c k more

-- these attributes of entity number k of class c, after its class and its number
abbrev pub row : ProgramTable → Store → ℕ → List (List ℕ) → ℕ → List ℕ
row program store c names k =
    (class_of program c).name ++ codes " " ++ decimal k ++ codes ": " ++ cells program store c k names ++ 10 ∷ []

-- a row for each of some entities, in their order
abbrev pub rows : ProgramTable → Store → ℕ → List (List ℕ) → List ℕ → List ℕ
rows program store c names [] = []
rows program store c names (k ∷ ks) = row program store c names k ++ rows program store c names ks

-- a row for each of some entities, or another text if there are none
abbrev pub rows_or : List ℕ → ProgramTable → Store → ℕ → List (List ℕ) → List ℕ → List ℕ
rows_or otherwise program store c names [] = otherwise
rows_or otherwise program store c names (k ∷ ks) = rows program store c names (k ∷ ks)

-- ---- the members of a list

-- the number that names the owner of the list, the system any; none if a number is given for the system
abbrev pub owner_asked : ProgramTable → State → Option ℤ → Owner → Option ℤ
owner_asked program state None System = Some (pos 0)
owner_asked program state (Some x) System = None
owner_asked program state owner (OwnedBy class) = Some (owner_or_variable owner program state class)

-- the members of the list of set number s for the owner that a number names; none if there is no such owner
abbrev pub members_for : ProgramTable → Store → ℕ → Option ℤ → List ℕ
members_for program store s None = []
members_for program store s (Some x) =
    if is_owner (shape_of program s) store (number_of x)
    then members_of (shape_of program s) store (number_of x) else []

-- the members of the list that SHOW SET s or SHOW SET s k asks for
abbrev pub members_asked : ProgramTable → State → ℕ → Option ℤ → List ℕ
members_asked program state s owner =
    members_for program state.store s (owner_asked program state owner (set_of program s).owner)

-- the rows of these members, or else the answer to SHOW SET; by the number of the set
abbrev pub member_rows : List ℕ → ProgramTable → State → Option ℕ → Option ℤ → List (List ℕ) → List ℕ
member_rows otherwise program state None owner names = otherwise
member_rows otherwise program state (Some s) owner names =
    rows_or otherwise program state.store (set_of program s).member names (members_asked program state s owner)

-- the answer to SHOW SET s [k] a .. in state p
unfoldable pub member_rows_text : List ℕ → Option ℤ → List (List ℕ) → Input → ℕ → List ℕ
member_rows_text set owner names input p =
    member_rows (set_text set owner input p) input.program (run input p) (set_named input.program set) owner names

-- ---- the entities of a class

-- the rows of the entities of a class that live, or else the answer to SHOW c; by the number of the class
abbrev pub living_rows : List ℕ → ProgramTable → Store → Option ℕ → List (List ℕ) → List ℕ
living_rows otherwise program store None names = otherwise
living_rows otherwise program store (Some c) names =
    rows_or otherwise program store c names (living_numbers store c)

-- the answer to SHOW c a .. in state p
unfoldable pub living_rows_text : List ℕ → List (List ℕ) → Input → ℕ → List ℕ
living_rows_text class names input p =
    living_rows (living_text class input p) input.program (run input p).store (class_named input.program class) names

-- ---- pending notices

-- the row of an entity with these attributes; nothing if they are none
abbrev pub row_if_any : ProgramTable → Store → ℕ → ℕ → List (List ℕ) → List ℕ
row_if_any program store c k [] = []
row_if_any program store c k (a ∷ more) = row program store c (a ∷ more) k

-- the row of a pending notice with the attributes of its class, in order of declaration
abbrev pub notice_row : ProgramTable → Store → ℕ → Slot → List ℕ
notice_row program store notice slot =
    row_if_any program store slot.class notice (class_of program slot.class).attributes

-- a row for each notice whose class has attributes
abbrev pub notice_rows : ProgramTable → Store → List Pending → List ℕ
notice_rows program store [] = []
notice_rows program store (n ∷ ns) = notice_row program store n.notice (slot_of n) ++ notice_rows program store ns

-- the rows after the answer to SHOW EVENTS in state p, in the order of that answer
unfoldable pub notice_rows_text : Input → ℕ → List ℕ
notice_rows_text input p =
    notice_rows input.program (run input p).store (in_order (rules_of input.program) (run input p).agenda)
