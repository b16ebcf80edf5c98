-- The names of a question in a program, and which of them it hasn't; before any run.
use Rattle.std.specs.Prelude.{ℕ, ℤ, ◌==◌, Bool, false, ◌||◌, ◌&&◌, List, codes, take, drop, is_some}
use Rattle.std.specs.Prelude.{Option, Some, None, Result, Ok, Err, if◌then◌else◌}
use Rattle.std.specs.List.{list_any}
use Rattle.std.specs.Str.{bytes_eq}
use Rattle.ss_program.specs.Program.{ProgramTable, class_of, set_of, is_same_owner}
use Rattle.ss_program.specs.declared.kinds.Owner.{Owner}
use Rattle.ss_program.specs.declared.kinds.Owner.TheVariants.{System, OwnedBy}
use Rattle.ss_debug.specs.Entities.{class_named, set_named, no_entity_text}
use Rattle.ss_debug.specs.declared.commands.Question.{Question as PlainQuestion}
use Rattle.ss_debug.specs.declared.commands.Question.TheVariants as plain
use Rattle.ss_trace.specs.declared.question.Question.{Question}
use Rattle.ss_trace.specs.declared.question.Question.TheVariants.{Shown, Attribute, Count}
use Rattle.ss_inspect.specs.Texts.{no_such_text}
use Rattle.ss_prompt.specs.declared.missing.Missing.{Missing}
use Rattle.ss_prompt.specs.declared.missing.Missing.TheVariants as missing

-- ---- names

-- whether a name is that of a variable: the clock, a global one, or a local one of a section
abbrev pub is_variable : ProgramTable → List ℕ → Bool
is_variable program name =
    bytes_eq name (codes "TIME.V") || (list_any (bytes_eq name) program.globals
    || list_any (λ s. list_any (bytes_eq name) s.locals) program.sections)

-- whether a name is that of a variable, a class or a set
abbrev pub is_declared : ProgramTable → List ℕ → Bool
is_declared program name =
    is_variable program name || (is_some (class_named program name) || is_some (set_named program name))

-- whether the kept attributes that begin so are those of the owners of lists
abbrev pub is_of_owners : List ℕ → Bool
is_of_owners head = bytes_eq head (codes "F.") || (bytes_eq head (codes "L.") || bytes_eq head (codes "N."))

-- whether the kept attributes that begin so are those of members
abbrev pub is_of_members : List ℕ → Bool
is_of_members head = bytes_eq head (codes "P.") || (bytes_eq head (codes "S.") || bytes_eq head (codes "M."))

-- whether the entities of class c have the kept attribute that begins so in this set
abbrev pub is_kept_in : ProgramTable → ℕ → List ℕ → Option ℕ → Bool
is_kept_in program c head None = false
is_kept_in program c head (Some s) =
    (is_of_owners head && is_same_owner (OwnedBy c) (set_of program s).owner)
    || (is_of_members head && (set_of program s).member == c)

-- whether the entities of class c have an attribute of this name, kept ones too
abbrev pub has_attribute : ProgramTable → ℕ → List ℕ → Bool
has_attribute program c name =
    list_any (bytes_eq name) (class_of program c).attributes
    || is_kept_in program c (take 2 name) (set_named program (drop 2 name))

-- ---- questions

-- the name of a set that has a list for this owner by its declaration: no set of the system has one for an entity
abbrev pub listed_by : List ℕ → Owner → Option ℤ → Result (List ℕ) Missing
listed_by name System (Some x) = Err (missing.Owner x)
listed_by name _ owner = Ok name

-- that name by the number of the set, if there is one of this name
abbrev pub listed_in : ProgramTable → List ℕ → Option ℕ → Option ℤ → Result (List ℕ) Missing
listed_in program name None owner = Err (missing.Set name)
listed_in program name (Some s) owner = listed_by name (set_of program s).owner owner

-- that name by the name of the set
abbrev pub listed : ProgramTable → List ℕ → Option ℤ → Result (List ℕ) Missing
listed program name owner = listed_in program name (set_named program name) owner

-- a question on a list, if there is one
abbrev pub on_list : (List ℕ → Question) → Result (List ℕ) Missing → Result Question Missing
on_list make (Ok name) = Ok (make name)
on_list make (Err m) = Err m

-- SET s [k]
abbrev pub members_asked : ProgramTable → List ℕ → Option ℤ → Result Question Missing
members_asked program name owner = on_list (λ s. Shown (plain.Set s owner)) (listed program name owner)

-- c k
abbrev pub entity_asked : ProgramTable → List ℕ → ℤ → Result Question Missing
entity_asked program name x =
    if is_some (class_named program name) then Ok (Shown (plain.Entity name x)) else Err (missing.Class name)

-- c k a, by the number of the class
abbrev pub attribute_asked : ProgramTable → List ℕ → ℤ → List ℕ → Option ℕ → Result Question Missing
attribute_asked program class x name None = Err (missing.Class class)
attribute_asked program class x name (Some c) =
    if has_attribute program c name then Ok (Attribute class x name) else Err (missing.Attribute name)

-- a question of docs/DEBUGGER.md
abbrev pub shown_asked : ProgramTable → PlainQuestion → Result Question Missing
shown_asked program (plain.Variable name) =
    if is_variable program name then Ok (Shown (plain.Variable name)) else Err (missing.Variable name)
shown_asked program (plain.Entity name x) = entity_asked program name x
shown_asked program (plain.Set name owner) = members_asked program name owner
shown_asked program q = Ok (Shown q)

-- a question as a program has its names, or which of them it hasn't
unfoldable pub asked_of_program : ProgramTable → Question → Result Question Missing
asked_of_program program (Shown q) = shown_asked program q
asked_of_program program (Attribute class x name) =
    attribute_asked program class x name (class_named program class)
asked_of_program program (Count name owner) = on_list (λ s. Count s owner) (listed program name owner)

-- a bare name is a set or a variable
abbrev pub bare_asked : ProgramTable → List ℕ → Question
bare_asked program name =
    if is_some (set_named program name) then Shown (plain.Set name None) else Shown (plain.Variable name)

-- what a bare name asks, if there is one, as a program has its names
abbrev pub bare_question : ProgramTable → Option (List ℕ) → Option (Result Question Missing)
bare_question program None = None
bare_question program (Some name) = Some (asked_of_program program (bare_asked program name))

-- ---- the text on a missing name

-- that there is none of this name; for a set of the system, that it has no such owner
unfoldable pub missing_text : Missing → List ℕ
missing_text (missing.Variable name) = no_such_text (codes "VARIABLE") name
missing_text (missing.Set name) = no_such_text (codes "SET") name
missing_text (missing.Class name) = no_such_text (codes "CLASS") name
missing_text (missing.Attribute name) = no_such_text (codes "ATTRIBUTE") name
missing_text (missing.Owner x) = no_entity_text (codes "SYSTEM") x
