-- Entities and their attributes and lists, as an editor shows them.
use Rattle.std.specs.Prelude.{ℕ, ◌&&◌, ◌==◌, pos, List, [], ◌∷◌, ◌++◌, length, take, drop, codes, decimal}
use Rattle.std.specs.Prelude.{nat_lt, if◌then◌else◌}
use Rattle.std.specs.Result.{result_unwrap_or}
use Rattle.std.specs.Fmt.{signed_decimal}
use Rattle.ss_program.specs.declared.kinds.Owner.TheVariants.{OwnedBy}
use Rattle.ss_program.specs.Program.{ProgramTable, class_of, set_of, is_same_owner}
use Rattle.ss_store.specs.Store.{Store, exists, attribute_of, members_of}
use Rattle.ss_debug.specs.Entities.{shape_of}
use Rattle.ss_inspect.specs.Texts.{texts_below, name_at}
use Rattle.ss_inspect.specs.Living.{living_numbers}
use Rattle.ss_messages.specs.Bodies.{variable_item}
use Rattle.ss_messages.specs.Shown.{paged_item}
use Rattle.ss_scopes.specs.References.{class_reference, set_reference}
use Rattle.ss_scopes.specs.Pages.{page_size}
use Rattle.ss_scopes.specs.Kept.{owner_items, member_items}

-- the name of entity number k of class c
abbrev pub entity_name : ProgramTable → ℕ → ℕ → List ℕ
entity_name program c k = (class_of program c).name ++ codes " " ++ decimal k

-- entity number k of class c, under its number
abbrev pub entity_item : ProgramTable → ℕ → ℕ → List ℕ
entity_item program c k = variable_item (decimal k) (entity_name program c k) (class_reference c k)

-- entities of class c
abbrev pub entity_items : ProgramTable → ℕ → List ℕ → List ℕ
entity_items program c [] = []
entity_items program c (k ∷ ks) = entity_item program c k ++ entity_items program c ks

-- a page of the entities of class c that live, the least number first
abbrev pub living_page : ProgramTable → Store → ℕ → ℕ → ℕ → List ℕ
living_page program store c start count =
    entity_items program c
    (take (page_size start count (length (living_numbers store c))) (drop start (living_numbers store c)))

-- a page of the living entities of class c, if there is such a class
abbrev pub class_page : ProgramTable → Store → ℕ → ℕ → ℕ → List ℕ
class_page program store c start count =
    if nat_lt c (length program.classes) then living_page program store c start count else []

-- attribute number a of entity number k of class c
abbrev pub attribute_item : ProgramTable → Store → ℕ → ℕ → ℕ → List ℕ
attribute_item program store c k a =
    variable_item (name_at (class_of program c).attributes a)
    (signed_decimal (result_unwrap_or (attribute_of store c a k) (pos 0))) 0

-- the list of set number s for owner number k, under a name: how many members it has
abbrev pub list_item : ProgramTable → Store → List ℕ → ℕ → ℕ → List ℕ
list_item program store name s k =
    paged_item name (decimal (length (members_of (shape_of program s) store k))) (set_reference s k)
    (length (members_of (shape_of program s) store k))

-- the list of set number s for entity number k of class c, with its kept attributes, if c owns s
abbrev pub owned_item : ProgramTable → Store → ℕ → ℕ → ℕ → List ℕ
owned_item program store c k s =
    if is_same_owner (OwnedBy c) (set_of program s).owner
    then list_item program store (set_of program s).name s k
    ++ owner_items (set_of program s).name (shape_of program s) store k else []

-- the kept attributes of entity number k of class c in set number s, if it may be in s
abbrev pub joined_item : ProgramTable → Store → ℕ → ℕ → ℕ → List ℕ
joined_item program store c k s =
    if (set_of program s).member == c then member_items (set_of program s).name (shape_of program s) store k else []

-- an entity's attributes, owned lists, and kept attributes, each in order of declaration
abbrev pub entity_text : ProgramTable → Store → ℕ → ℕ → List ℕ
entity_text program store c k =
    texts_below (attribute_item program store c k) (length (class_of program c).attributes)
    ++ texts_below (owned_item program store c k) (length program.sets)
    ++ texts_below (joined_item program store c k) (length program.sets)

-- the same of an entity that lives
abbrev pub entity_variables : ProgramTable → Store → ℕ → ℕ → List ℕ
entity_variables program store c k =
    if nat_lt c (length program.classes) && exists store c k then entity_text program store c k else []
