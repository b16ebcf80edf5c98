-- The texts that show entities and the lists of sets.
use Rattle.std.specs.Prelude.{ℕ, zero, suc, ◌==◌, ℤ, pos, false, List, [], ◌∷◌, ◌++◌, length, codes, decimal}
use Rattle.std.specs.Prelude.{Option, Some, None, unwrap_or, Result, if◌then◌else◌, slice_index_or}
use Rattle.std.specs.Option.{option_and_then}
use Rattle.std.specs.Result.{result_unwrap_or}
use Rattle.std.specs.Fmt.{signed_decimal}
use Rattle.ss_words.specs.declared.fault.RunFault.{RunFault}
use Rattle.ss_program.specs.declared.kinds.Owner.{Owner}
use Rattle.ss_program.specs.declared.kinds.Owner.TheVariants.{System, OwnedBy}
use Rattle.ss_program.specs.Program.{ProgramTable, class_of, set_of, is_same_owner}
use Rattle.ss_program.specs.NameMeaning.{meaning_of}
use Rattle.ss_store.specs.declared.shape.SetShape.{SetShape}
use Rattle.ss_store.specs.Tables as tables
use Rattle.ss_store.specs.Tables.{tables_of}
use Rattle.ss_store.specs.Store.{Store, number_of, exists, attribute_of, members_of}
use Rattle.ss_store.specs.Filing.{walk_first, walk_last, count, predecessor, successor, membership}
use Rattle.ss_state.specs.State.{State}
use Rattle.ss_state.specs.Run.{Input, run}

-- the class of this name
abbrev pub class_named : ProgramTable → List ℕ → Option ℕ
class_named program name = option_and_then (λ n. n.class) (meaning_of program name)

-- the set of this name
abbrev pub set_named : ProgramTable → List ℕ → Option ℕ
set_named program name = option_and_then (λ n. n.set) (meaning_of program name)

-- a set, as the store has it
abbrev pub shape_of : ProgramTable → ℕ → SetShape
shape_of program set = tables.set_of (tables_of program) set

-- that there is no such entity
abbrev pub no_entity_text : List ℕ → ℤ → List ℕ
no_entity_text class x = codes "NO ENTITY " ++ class ++ codes " " ++ signed_decimal x ++ 10 ∷ []

-- ---- an entity

-- A reading of an entity that exists gives no fault; nothing is said of other entities.

-- the number of a member, 0 if there is none
abbrev pub member_read : Result (Option ℕ) RunFault → ℕ
member_read r = unwrap_or (result_unwrap_or r None) 0

-- the lines number 0 to n - 1, in order
abbrev pub lines_below : (ℕ → List ℕ) → ℕ → List ℕ
lines_below line zero = []
lines_below line (suc n) = lines_below line n ++ line n

-- an attribute, by its number, of entity number k of a class
abbrev pub attribute_line : ProgramTable → Store → ℕ → ℕ → ℕ → List ℕ
attribute_line program store class k attribute =
    slice_index_or (class_of program class).attributes attribute [] ++ codes " = "
    ++ signed_decimal (result_unwrap_or (attribute_of store class attribute k) (pos 0)) ++ 10 ∷ []

-- a kept attribute: the text before the set's name, that name, and the value
abbrev pub kept_line : List ℕ → List ℕ → ℕ → List ℕ
kept_line kept set value = kept ++ set ++ codes " = " ++ decimal value ++ 10 ∷ []

-- F.s, L.s and N.s of a set of this name for owner number k
abbrev pub owner_lines : List ℕ → SetShape → Store → ℕ → List ℕ
owner_lines name shape store k =
    kept_line (codes "F.") name (member_read (walk_first shape store k))
    ++ kept_line (codes "L.") name (member_read (walk_last shape store k))
    ++ kept_line (codes "N.") name (result_unwrap_or (count shape store k) 0)

-- P.s, S.s and M.s of a set of this name for entity number k of its members' class
abbrev pub member_lines : List ℕ → SetShape → Store → ℕ → List ℕ
member_lines name shape store k =
    kept_line (codes "P.") name (member_read (predecessor shape store k))
    ++ kept_line (codes "S.") name (member_read (successor shape store k))
    ++ kept_line (codes "M.") name (if result_unwrap_or (membership shape store k) false then 1 else 0)

-- the lines of a set for its owner number k, if the class owns it
abbrev pub owned_set_lines : ProgramTable → Store → ℕ → ℕ → ℕ → List ℕ
owned_set_lines program store class k set =
    if is_same_owner (OwnedBy class) (set_of program set).owner
    then owner_lines (set_of program set).name (shape_of program set) store k else []

-- the lines of a set for entity number k, if the entities of the class may be in it
abbrev pub joined_set_lines : ProgramTable → Store → ℕ → ℕ → ℕ → List ℕ
joined_set_lines program store class k set =
    if (set_of program set).member == class
    then member_lines (set_of program set).name (shape_of program set) store k else []

-- the attributes in order of declaration, then the sets that the class owns and those in which it may be, each in order
-- of declaration
abbrev pub entity_lines : ProgramTable → Store → ℕ → ℕ → List ℕ
entity_lines program store class k =
    lines_below (attribute_line program store class k) (length (class_of program class).attributes)
    ++ lines_below (owned_set_lines program store class k) (length program.sets)
    ++ lines_below (joined_set_lines program store class k) (length program.sets)

-- the entity of this class that x names, or that there is none
abbrev pub class_text : List ℕ → ℤ → ProgramTable → Store → Option ℕ → List ℕ
class_text name x program store None = codes "NO CLASS " ++ name ++ 10 ∷ []
class_text name x program store (Some class) =
    if exists store class (number_of x)
    then name ++ codes " " ++ signed_decimal x ++ 10 ∷ entity_lines program store class (number_of x)
    else no_entity_text name x

-- the answer to SHOW c k in state p
unfoldable pub entity_text : List ℕ → ℤ → Input → ℕ → List ℕ
entity_text name x input p = class_text name x input.program (run input p).store (class_named input.program name)

-- ---- a list

-- further members, each after a blank
abbrev pub further_members : List ℕ → List ℕ
further_members [] = []
further_members (k ∷ ks) = codes " " ++ decimal k ++ further_members ks

-- the members with a blank between, or that there is none
abbrev pub members_text : List ℕ → List ℕ
members_text [] = codes "EMPTY"
members_text (k ∷ ks) = decimal k ++ further_members ks

-- the members after one
abbrev pub members_behind : List ℕ → ℕ → List ℕ
members_behind [] k = []
members_behind (j ∷ ks) k = if j == k then ks else members_behind ks k

-- the members of the list of a set for the owner that x names
abbrev pub listed_text : ProgramTable → Store → ℕ → ℤ → List ℕ
listed_text program store set x =
    codes ": " ++ members_text (members_of (shape_of program set) store (number_of x)) ++ 10 ∷ []

-- the list of a set for the entity of the class that x names, or that there is none
abbrev pub owned_list_text : List ℕ → ProgramTable → Store → ℕ → ℕ → ℤ → List ℕ
owned_list_text name program store set class x =
    if exists store class (number_of x)
    then name ++ codes " " ++ signed_decimal x ++ listed_text program store set x
    else no_entity_text (class_of program class).name x

-- the owner that is named, or the value of the variable of its class
abbrev pub owner_or_variable : Option ℤ → ProgramTable → State → ℕ → ℤ
owner_or_variable (Some x) program state class = x
owner_or_variable None program state class = slice_index_or state.variables (class_of program class).variable (pos 0)

-- the list of a set, whose lists are the system's or a class's
abbrev pub list_text : List ℕ → Option ℤ → ProgramTable → State → ℕ → Owner → List ℕ
list_text name None program state set System = name ++ listed_text program state.store set (pos 0)
list_text name (Some x) program state set System = no_entity_text (codes "SYSTEM") x
list_text name owner program state set (OwnedBy class) =
    owned_list_text name program state.store set class (owner_or_variable owner program state class)

-- the list of the set of this number, or that there is no set of this name
abbrev pub named_list_text : List ℕ → Option ℤ → ProgramTable → State → Option ℕ → List ℕ
named_list_text name owner program state None = codes "NO SET " ++ name ++ 10 ∷ []
named_list_text name owner program state (Some set) = list_text name owner program state set (set_of program set).owner

-- the answer to SHOW SET in state p
unfoldable pub set_text : List ℕ → Option ℤ → Input → ℕ → List ℕ
set_text name owner input p = named_list_text name owner input.program (run input p) (set_named input.program name)
