-- A part of the members of a list, and the lists in which an entity is.
use Rattle.std.specs.Prelude.{ℕ, suc, ◌==◌, ℤ, pos, List, [], ◌++◌, length, take, drop, codes, decimal}
use Rattle.std.specs.Prelude.{Option, Some, None, if◌then◌else◌, nat_eq}
use Rattle.ss_links.specs.Seats.{has}
use Rattle.ss_program.specs.declared.kinds.Owner.{Owner}
use Rattle.ss_program.specs.declared.kinds.Owner.TheVariants.{System, OwnedBy}
use Rattle.ss_program.specs.Program.{ProgramTable, set_of}
use Rattle.ss_store.specs.Store.{Store, number_of, exists, greatest_number, members_of}
use Rattle.ss_events.specs.Agenda.{Pending, pending_at}
use Rattle.ss_events.specs.Slots.{slot_of}
use Rattle.ss_state.specs.State.{State}
use Rattle.ss_state.specs.Run.{Input, run}
use Rattle.ss_debug.specs.Answer.{notice_line}
use Rattle.ss_debug.specs.Entities.{class_named, shape_of, no_entity_text, listed_text}
use Rattle.ss_inspect.specs.Texts.{texts_below, no_such_text}

-- ---- a part of a list

-- `count` members of the list of set number s for the owner that x names, after the first `start`
abbrev pub members_page : ProgramTable → Store → ℕ → ℤ → ℕ → ℕ → List ℕ
members_page program store s x start count =
    take count (drop start (members_of (shape_of program s) store (number_of x)))

-- ---- where an entity is

-- the list of set number s for owner number j, after a head, if entity number k is in it
abbrev pub list_with : ProgramTable → Store → ℕ → ℕ → List ℕ → ℕ → List ℕ
list_with program store s k head j =
    if has (members_of (shape_of program s) store j) k then (set_of program s).name ++ head
    ++ listed_text program store s (pos j) else []

-- that list for the owner whose number is i + 1
abbrev pub owned_list_with : ProgramTable → Store → ℕ → ℕ → ℕ → List ℕ
owned_list_with program store s k i = list_with program store s k (codes " " ++ decimal (suc i)) (suc i)

-- the lists of set number s in which entity number k is
abbrev pub lists_with : ProgramTable → Store → ℕ → ℕ → Owner → List ℕ
lists_with program store s k System = list_with program store s k [] 0
lists_with program store s k (OwnedBy c) = texts_below (owned_list_with program store s k) (greatest_number store c)

-- the lists of set number s in which entity number k is, if the set's members are of class c
abbrev pub class_lists_with : ProgramTable → Store → ℕ → ℕ → ℕ → List ℕ
class_lists_with program store c k s =
    if (set_of program s).member == c then lists_with program store s k (set_of program s).owner else []

-- when entity number k of class c is due, if it is a pending notice
abbrev pub due_text : ProgramTable → ℕ → ℕ → Option Pending → List ℕ
due_text program c k None = []
due_text program c k (Some n) = if n.class == c then notice_line program k (slot_of n) else []

-- a text, or that an entity is in no list
abbrev pub or_no_list : List ℕ → List ℕ
or_no_list text = if nat_eq (length text) 0 then codes "IN NO LIST\n" else text

-- the lists in which entity number k of class c is, in the order of the sets, and when it is due
abbrev pub entity_places_text : ProgramTable → State → ℕ → ℕ → List ℕ
entity_places_text program state c k =
    or_no_list (texts_below (class_lists_with program state.store c k) (length program.sets)
    ++ due_text program c k (pending_at state.agenda.pending k))

-- where the entity of a class that x names is, or that there is none
abbrev pub class_places_text : List ℕ → ℤ → ProgramTable → State → Option ℕ → List ℕ
class_places_text name x program state None = no_such_text (codes "CLASS") name
class_places_text name x program state (Some c) =
    if exists state.store c (number_of x) then entity_places_text program state c (number_of x)
    else no_entity_text name x

-- the answer to SHOW IN c k in state p
unfoldable pub places_text : List ℕ → ℤ → Input → ℕ → List ℕ
places_text name x input p = class_places_text name x input.program (run input p) (class_named input.program name)
