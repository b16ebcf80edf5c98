-- Classes, sets and the lists of a set, as an editor shows them.
use Rattle.std.specs.Prelude.{ℕ, pos, List, [], ◌∷◌, ◌++◌, length, take, drop, decimal, nat_lt, if◌then◌else◌}
use Rattle.ss_program.specs.declared.kinds.Owner.{Owner}
use Rattle.ss_program.specs.declared.kinds.Owner.TheVariants.{System, OwnedBy}
use Rattle.ss_program.specs.Program.{ProgramTable, class_of, set_of}
use Rattle.ss_store.specs.Store.{Store, members_of}
use Rattle.ss_debug.specs.Entities.{shape_of}
use Rattle.ss_inspect.specs.Texts.{texts_below}
use Rattle.ss_inspect.specs.Living.{living_numbers}
use Rattle.ss_inspect.specs.Lists.{members_page}
use Rattle.ss_messages.specs.Shown.{paged_item}
use Rattle.ss_scopes.specs.References.{class_reference, set_reference}
use Rattle.ss_scopes.specs.Pages.{page_size}
use Rattle.ss_scopes.specs.Entities.{entity_name, entity_items, list_item}

-- class number c: how many of its entities live
abbrev pub class_item : ProgramTable → Store → ℕ → List ℕ
class_item program store c =
    paged_item (class_of program c).name (decimal (length (living_numbers store c))) (class_reference c 0)
    (length (living_numbers store c))

-- the classes in order of declaration
abbrev pub class_items : ProgramTable → Store → List ℕ
class_items program store = texts_below (class_item program store) (length program.classes)

-- set number s: how many members its list has, or how many entities own one
abbrev pub set_item_by : ProgramTable → Store → ℕ → Owner → List ℕ
set_item_by program store s System = list_item program store (set_of program s).name s 0
set_item_by program store s (OwnedBy c) =
    paged_item (set_of program s).name (decimal (length (living_numbers store c))) (set_reference s 0)
    (length (living_numbers store c))

-- set number s, as an item: how many members its list has, or how many entities own one
abbrev pub set_item : ProgramTable → Store → ℕ → List ℕ
set_item program store s = set_item_by program store s (set_of program s).owner

-- the sets in order of declaration
abbrev pub set_items : ProgramTable → Store → List ℕ
set_items program store = texts_below (set_item program store) (length program.sets)

-- a page of the members of the list of set number s for owner number j, in their order
abbrev pub members_part : ProgramTable → Store → ℕ → ℕ → ℕ → ℕ → List ℕ
members_part program store s j start count =
    entity_items program (set_of program s).member
    (members_page program store s (pos j) start
    (page_size start count (length (members_of (shape_of program s) store j))))

-- the lists of set number s for some entities of class c
abbrev pub lists_of : ProgramTable → Store → ℕ → ℕ → List ℕ → List ℕ
lists_of program store s c [] = []
lists_of program store s c (k ∷ ks) =
    list_item program store (entity_name program c k) s k ++ lists_of program store s c ks

-- a page of the lists of set number s for the entities of class c that live
abbrev pub lists_page : ProgramTable → Store → ℕ → ℕ → ℕ → ℕ → List ℕ
lists_page program store s c start count =
    lists_of program store s c
    (take (page_size start count (length (living_numbers store c))) (drop start (living_numbers store c)))

-- a page of the members or lists of set number s
abbrev pub set_part : ProgramTable → Store → ℕ → ℕ → ℕ → Owner → List ℕ
set_part program store s start count System = members_part program store s 0 start count
set_part program store s start count (OwnedBy c) = lists_page program store s c start count

-- a page of the members or lists of set number s, if there is such a set
abbrev pub set_page : ProgramTable → Store → ℕ → ℕ → ℕ → List ℕ
set_page program store s start count =
    if nat_lt s (length program.sets) then set_part program store s start count (set_of program s).owner else []

-- a page of the list of a set for owner number j, if there is such a set
abbrev pub list_page : ProgramTable → Store → ℕ → ℕ → ℕ → ℕ → List ℕ
list_page program store s j start count =
    if nat_lt s (length program.sets) then members_part program store s j start count else []
