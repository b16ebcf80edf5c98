-- Questions whose answers may change, and the answer to each in a state.
use Rattle.std.specs.Prelude.{ℕ, ◌+◌, ◌==◌, ℤ, pos, false, not, Bool, List, ◌∷◌, [], ◌++◌, length, take, drop, codes}
use Rattle.std.specs.Prelude.{decimal}
use Rattle.std.specs.Prelude.{Option, Some, None, position, bytes_eq, if◌then◌else◌}
use Rattle.std.specs.Result.{result_unwrap_or}
use Rattle.std.specs.Fmt.{signed_decimal}
use Rattle.ss_program.specs.declared.kinds.Owner.{Owner}
use Rattle.ss_program.specs.declared.kinds.Owner.TheVariants.{System, OwnedBy}
use Rattle.ss_program.specs.Program.{ProgramTable, SetTable, class_of, set_of, is_same_owner}
use Rattle.ss_store.specs.declared.shape.SetShape.{SetShape}
use Rattle.ss_store.specs.Store.{Store, number_of, exists, attribute_of, members_of}
use Rattle.ss_store.specs.Filing as filing
use Rattle.ss_store.specs.Filing.{walk_first, walk_last, predecessor, successor, membership}
use Rattle.ss_state.specs.State.{State}
use Rattle.ss_state.specs.Run.{Input, run}
use Rattle.ss_debug.specs.declared.commands.Question.{Question as ShownQuestion}
use Rattle.ss_debug.specs.declared.commands.Question.TheVariants as shown
use Rattle.ss_debug.specs.Entities.{class_named, set_named, shape_of, no_entity_text, owner_or_variable, member_read}
use Rattle.ss_debug.specs.Turn.{show_answer}
use Rattle.ss_trace.specs.declared.question.Question.{Question}
use Rattle.ss_trace.specs.declared.question.Question.TheVariants.{Shown, Attribute, Count}
use Rattle.ss_trace.specs.declared.attribute.Kept.{Kept}
use Rattle.ss_trace.specs.declared.attribute.Kept.TheVariants as kepts

-- ---- one attribute

-- the kept attribute whose name begins with two bytes
abbrev pub kept_of : List ℕ → Option Kept
kept_of head =
    if bytes_eq head (codes "F.") then Some kepts.First else
    if bytes_eq head (codes "L.") then Some kepts.Last else
    if bytes_eq head (codes "N.") then Some kepts.Number else
    if bytes_eq head (codes "P.") then Some kepts.Predecessor else
    if bytes_eq head (codes "S.") then Some kepts.Successor else
    if bytes_eq head (codes "M.") then Some kepts.Membership else None

-- whether the entities of a class have it in a set: as owners of its lists, or as members
abbrev pub has_kept : SetTable → ℕ → Kept → Bool
has_kept set c kepts.First = is_same_owner (OwnedBy c) set.owner
has_kept set c kepts.Last = is_same_owner (OwnedBy c) set.owner
has_kept set c kepts.Number = is_same_owner (OwnedBy c) set.owner
has_kept set c kepts.Predecessor = set.member == c
has_kept set c kepts.Successor = set.member == c
has_kept set c kepts.Membership = set.member == c

-- its value for entity number k
abbrev pub kept_value : SetShape → Store → ℕ → Kept → ℕ
kept_value shape store k kepts.First = member_read (walk_first shape store k)
kept_value shape store k kepts.Last = member_read (walk_last shape store k)
kept_value shape store k kepts.Number = result_unwrap_or (filing.count shape store k) 0
kept_value shape store k kepts.Predecessor = member_read (predecessor shape store k)
kept_value shape store k kepts.Successor = member_read (successor shape store k)
kept_value shape store k kepts.Membership = if result_unwrap_or (membership shape store k) false then 1 else 0

-- its value in the set of this number, if the entities of class c have it there
abbrev pub kept_in_set : ProgramTable → Store → ℕ → ℕ → Kept → Option ℕ → Option ℤ
kept_in_set program store c k kept None = None
kept_in_set program store c k kept (Some s) =
    if has_kept (set_of program s) c kept then Some (pos (kept_value (shape_of program s) store k kept)) else None

-- its value in the set of this name
abbrev pub kept_named : ProgramTable → Store → ℕ → ℕ → List ℕ → Option Kept → Option ℤ
kept_named program store c k set None = None
kept_named program store c k set (Some kept) = kept_in_set program store c k kept (set_named program set)

-- the attribute of this number, or else the kept one of this name
abbrev pub attribute_or_kept : ProgramTable → Store → ℕ → ℕ → List ℕ → Option ℕ → Option ℤ
attribute_or_kept program store c k name (Some a) = Some (result_unwrap_or (attribute_of store c a k) (pos 0))
attribute_or_kept program store c k name None = kept_named program store c k (drop 2 name) (kept_of (take 2 name))

-- the value of the attribute of this name of entity number k of class c, if there is one
abbrev pub attribute_named : ProgramTable → Store → ℕ → ℕ → List ℕ → Option ℤ
attribute_named program store c k name =
    attribute_or_kept program store c k name (position (bytes_eq name) (class_of program c).attributes)

-- an attribute and its value, or that there is none of this name
abbrev pub attribute_line : List ℕ → Option ℤ → List ℕ
attribute_line name (Some value) = name ++ codes " = " ++ signed_decimal value ++ 10 ∷ []
attribute_line name None = codes "NO ATTRIBUTE " ++ name ++ 10 ∷ []

-- the attribute of the entity of this class that x names, or that there is none
abbrev pub class_attribute_text : List ℕ → ℤ → List ℕ → ProgramTable → Store → Option ℕ → List ℕ
class_attribute_text class x name program store None = codes "NO CLASS " ++ class ++ 10 ∷ []
class_attribute_text class x name program store (Some c) =
    if exists store c (number_of x) then attribute_line name (attribute_named program store c (number_of x) name)
    else no_entity_text class x

-- the answer to SHOW c k a in state p
unfoldable pub attribute_text : List ℕ → ℤ → List ℕ → Input → ℕ → List ℕ
attribute_text class x name input p =
    class_attribute_text class x name input.program (run input p).store (class_named input.program class)

-- ---- how many members

-- how many members the list of set number s has for the owner that x names
abbrev pub counted_text : ProgramTable → Store → ℕ → ℤ → List ℕ
counted_text program store s x =
    codes ": " ++ decimal (length (members_of (shape_of program s) store (number_of x))) ++ 10 ∷ []

-- that line for the entity of class c that x names, or that there is none
abbrev pub owned_count_text : List ℕ → ProgramTable → Store → ℕ → ℕ → ℤ → List ℕ
owned_count_text name program store s c x =
    if exists store c (number_of x)
    then codes "COUNT " ++ name ++ codes " " ++ signed_decimal x ++ counted_text program store s x
    else no_entity_text (class_of program c).name x

-- that line for set number s, whose lists are the system's or a class's
abbrev pub list_count_text : List ℕ → Option ℤ → ProgramTable → State → ℕ → Owner → List ℕ
list_count_text name None program state s System = codes "COUNT " ++ name ++ counted_text program state.store s (pos 0)
list_count_text name (Some x) program state s System = no_entity_text (codes "SYSTEM") x
list_count_text name owner program state s (OwnedBy c) =
    owned_count_text name program state.store s c (owner_or_variable owner program state c)

-- that line for the set of this number, or that there is no set of this name
abbrev pub named_count_text : List ℕ → Option ℤ → ProgramTable → State → Option ℕ → List ℕ
named_count_text name owner program state None = codes "NO SET " ++ name ++ 10 ∷ []
named_count_text name owner program state (Some s) = list_count_text name owner program state s (set_of program s).owner

-- the answer to SHOW COUNT in state p
unfoldable pub count_text : List ℕ → Option ℤ → Input → ℕ → List ℕ
count_text name owner input p = named_count_text name owner input.program (run input p) (set_named input.program name)

-- ---- all questions

-- the answer to a question in state p
abbrev pub answer_at : Input → Question → ℕ → List ℕ
answer_at input (Shown q) p = show_answer input p q
answer_at input (Attribute class x name) p = attribute_text class x name input p
answer_at input (Count name owner) p = count_text name owner input p

-- whether a question changes at step p: its answers in state p and in the next one differ
abbrev pub changes_at : Input → Question → ℕ → Bool
changes_at input question p = not (bytes_eq (answer_at input question p) (answer_at input question (p + 1)))

-- ---- as it is asked

-- a name, and a number after a blank if one is given
abbrev pub with_number : List ℕ → Option ℤ → List ℕ
with_number name None = name
with_number name (Some x) = name ++ codes " " ++ signed_decimal x

-- a question of the debugger as it is asked
abbrev pub shown_question_text : ShownQuestion → List ℕ
shown_question_text shown.Clock = codes "CLOCK"
shown_question_text shown.Where = codes "WHERE"
shown_question_text (shown.Variable name) = codes "VAR " ++ name
shown_question_text (shown.Entity name x) = with_number name (Some x)
shown_question_text (shown.Set name owner) = codes "SET " ++ with_number name owner
shown_question_text shown.Events = codes "EVENTS"
shown_question_text shown.Taken = codes "TAKEN"
shown_question_text shown.Entry = codes "ENTRY"
shown_question_text shown.Report = codes "REPORT"

-- a question as it is asked, in upper case and least digits
abbrev pub question_text : Question → List ℕ
question_text (Shown q) = shown_question_text q
question_text (Attribute class x name) = with_number class (Some x) ++ codes " " ++ name
question_text (Count name owner) = codes "COUNT " ++ with_number name owner
