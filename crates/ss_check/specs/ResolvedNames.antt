-- The tables of a program's names, and the meaning of a name: its number in its table.
use Rattle.std.specs.Prelude.{ℕ, ◌+◌, Bool, false, if◌then◌else◌, List, [], ◌∷◌, ◌++◌, map, codes, bytes_eq}
use Rattle.std.specs.Prelude.{slice_index_or, Option, Some, None, unwrap_or}
use Rattle.std.specs.List.{filter, flat_map, position_or_len}
use Rattle.ss_words.specs.Lists.{Name}
use Rattle.ss_routines.specs.Tree.{Head}
use Rattle.ss_routines.specs.Places.{Section}
use Rattle.ss_program.specs.declared.variable.Variable.{Variable}
use Rattle.ss_program.specs.declared.variable.Variable.TheVariants.{Global, Local, Clock}
use Rattle.ss_program.specs.declared.target.Target.{Target}
use Rattle.ss_program.specs.declared.target.Target.TheVariants as target
use Rattle.ss_program.specs.ProgramExpr.{Expr, Exprs, no_exprs, exprs, Factor, variable, absolute, greatest, least}
use Rattle.ss_program.specs.ProgramExpr.{quotient, remainder, attribute, owner_kept, member_kept, Subscript, implied}
use Rattle.ss_program.specs.ProgramExpr.{of_system, at, within}
use Rattle.ss_check.specs.Facts.{Fact, each_once, fact, fact_of, names_of}
use Rattle.ss_check.specs.LanguageFunction.{LanguageFunction}
use Rattle.ss_check.specs.LanguageFunction.{Absolute, Greatest, Least, Quotient, Remainder}
use Rattle.ss_check.specs.NameKind.{NameKind}
use Rattle.ss_check.specs.NameKind as kinds
use Rattle.ss_check.specs.Declarations.{Declared}
use Rattle.ss_check.specs.NameKinds.{is_attribute_of, is_class, is_global, names_set}
use Rattle.ss_check.specs.Declarations.{is_declared, kind_of, parameters, routine_facts, events_in}
use Rattle.ss_check.specs.Uses.{Use, Value, Target as AsTarget, LoopVariable, uses}

-- the number of a name in a table
abbrev pub number : Name → List Name → ℕ
number name table = position_or_len (bytes_eq name) table

-- the tables in which names have their numbers
pub record Names : Type 0 where
  -- the names of the global variables
  pub globals : List Name
  -- those of the classes
  pub classes : List Name
  -- those of each class's attributes
  pub attributes : List (List Name)
  -- those of the sets
  pub sets : List Name
  -- the number of the section of each routine
  pub routines : List (Fact ℕ)
  -- the number of the section of each event class
  pub events : List (Fact ℕ)

-- the names whose facts pass a test
abbrev pub names_where : {A : Type 0} → (A → Bool) → List (Fact A) → List Name
names_where test table = names_of (filter (λ f. test f.what) table)

-- the names whose facts pass a test, each once
abbrev pub each_of : {A : Type 0} → (A → Bool) → List (Fact A) → List Name
each_of test table = each_once (names_where test table)

-- the names of some kind, in order of declaration
abbrev pub of_kind : (NameKind → Bool) → Declared → List Name
of_kind test declared = each_of test declared.kinds

-- a set
abbrev pub is_set : NameKind → Bool
is_set kind = names_set (Some kind)

-- the attributes of a class, in order of declaration
abbrev pub attributes_of : Declared → Name → List Name
attributes_of declared c = names_where (is_attribute_of c) declared.kinds

-- the names of the attributes of a class, by the tables
abbrev pub attribute_names : Names → Name → List Name
attribute_names v c = slice_index_or v.attributes (number c v.classes) []

-- the names of facts of sections from number i on, each with the section's number
abbrev pub section_numbers : {A : Type 0} → ℕ → List (List A) → (A → Name) → List (Fact ℕ)
section_numbers i [] name = []
section_numbers i (fs ∷ rest) name = map (λ f. fact (name f) i) fs ++ section_numbers (i + 1) rest name

-- the tables of a whole program
abbrev pub names : Declared → List Head → Names
names declared heads = record {
  globals = of_kind is_global declared;
  classes = of_kind is_class declared;
  attributes = map (attributes_of declared) (of_kind is_class declared);
  sets = of_kind is_set declared;
  routines = section_numbers 0 (map routine_facts heads) (λ f. f.name);
  events = section_numbers 0 (map events_in heads) (λ n. n);
}

-- ---- the local variables of a section

-- the name that a use takes for a variable
abbrev pub variable_used : Use → List Name
variable_used (Value n None) = n ∷ []
variable_used (AsTarget n false) = n ∷ []
variable_used (LoopVariable n) = n ∷ []
variable_used _ = []

-- a name that is not declared
abbrev pub undeclared_name : Declared → Name → List Name
undeclared_name declared name = if is_declared declared name then [] else name ∷ []

-- the names that the places of a section take for variables
abbrev pub variables_used : Section → List Name
variables_used section = flat_map (λ x. flat_map variable_used (uses x.place)) section.places

-- its parameters, then the other names that are not declared, in the order of the places
abbrev pub locals_of : Declared → Section → List Name
locals_of declared section =
    each_once (parameters section.head ++ flat_map (undeclared_name declared) (variables_used section))

-- ---- the thing that a name denotes

-- the subscript of a set that the system owns; no program without a breach writes one
abbrev pub system_subscript : Option Expr → Subscript
system_subscript None = of_system
system_subscript (Some e) = at e

-- d: the declarations of the whole program; v: its tables; locals: those of the section
module _ (d : Declared) (v : Names) (locals : List Name) where
  -- the number of a class
  abbrev pub class_number : Name → ℕ
  class_number c = number c v.classes

  -- the number of a set
  abbrev pub set_number : Name → ℕ
  set_number s = number s v.sets

  -- the number of the global variable of a class's name
  abbrev pub class_variable : Name → ℕ
  class_variable c = number c v.globals

  -- the number of the global variable N.c
  abbrev pub count_variable : Name → ℕ
  count_variable c = number (codes "N." ++ c) v.globals

  -- the number of an attribute in its class
  abbrev pub attribute_number : Name → Name → ℕ
  attribute_number c a = number a (attribute_names v c)

  -- the number of a routine's section
  abbrev pub routine_number : Name → ℕ
  routine_number n = unwrap_or (fact_of v.routines n) 0

  -- the number of an event class's section
  abbrev pub event_section : Name → ℕ
  event_section n = unwrap_or (fact_of v.events n) 0

  -- a variable: a name that is not declared is a local one
  abbrev pub variable_of : Option NameKind → Name → Variable
  variable_of None n = Local (number n locals)
  variable_of (Some kinds.Clock) n = Clock
  variable_of (Some j) n = Global (number n v.globals)

  -- a variable, by the kind as which its name is declared
  abbrev pub resolved_variable : Name → Variable
  resolved_variable n = variable_of (kind_of d n) n

  -- ---- subscripts; if there is none, the variable of the class's name is the subscript

  -- the subscript for a class
  abbrev pub class_subscript : Name → Option Expr → Subscript
  class_subscript c None = implied (class_variable c)
  class_subscript c (Some e) = at e

  -- the subscript by the owner of a set, a class or the system
  abbrev pub subscript_of_owner : Option Name → Option Expr → Subscript
  subscript_of_owner None e = system_subscript e
  subscript_of_owner (Some c) e = class_subscript c e

  -- the class that owns a set, none for the system
  abbrev pub owner_of : Name → Option Name
  owner_of s = unwrap_or (fact_of d.owners s) None

  -- the class of its members
  abbrev pub member_class : Name → Name
  member_class s = unwrap_or (fact_of d.members s) []

  -- the subscript for the owner of a set
  abbrev pub owner_subscript : Name → Option Expr → Subscript
  owner_subscript s e = subscript_of_owner (owner_of s) e

  -- the subscript for a member of a set
  abbrev pub member_subscript : Name → Option Expr → Subscript
  member_subscript s e = class_subscript (member_class s) e

  -- ---- values and targets

  -- a name with a subscript or none, by the kind as which it is declared
  abbrev pub factor_of : Option NameKind → Name → Option Expr → Factor
  factor_of (Some (kinds.Attribute c)) n e = attribute (class_number c) (attribute_number c n) (class_subscript c e)
  factor_of (Some (kinds.OwnerKept a s)) n e = owner_kept a (set_number s) (owner_subscript s e)
  factor_of (Some (kinds.MemberKept a s)) n e = member_kept a (set_number s) (member_subscript s e)
  factor_of j n e = variable (variable_of j n)

  -- DIV.F and MOD.F of two arguments; no program without a breach has another number of them
  abbrev pub factor_of_two : (Expr → Expr → Factor) → Expr → Exprs → Factor
  factor_of_two f x no_exprs = within x
  factor_of_two f x (exprs y ys) = f x y

  -- a function of its arguments
  abbrev pub function_factor : LanguageFunction → Expr → Exprs → Factor
  function_factor Absolute x xs = absolute x
  function_factor Greatest x xs = greatest x xs
  function_factor Least x xs = least x xs
  function_factor Quotient x xs = factor_of_two quotient x xs
  function_factor Remainder x xs = factor_of_two remainder x xs

  -- a name with arguments: a function of them, or a name that takes the first as its subscript
  abbrev pub applied_factor : Option NameKind → Name → Expr → Exprs → Factor
  applied_factor (Some (kinds.Function f)) n x xs = function_factor f x xs
  applied_factor j n x xs = factor_of j n (Some x)

  -- a name with a subscript or none, as a value
  abbrev pub value_factor : Option NameKind → Name → Option Expr → Factor
  value_factor j n None = factor_of j n None
  value_factor j n (Some x) = applied_factor j n x no_exprs

  -- as a target
  abbrev pub target_of : Option NameKind → Name → Option Expr → Target
  target_of (Some (kinds.Attribute c)) n e =
      target.Attribute (class_number c) (attribute_number c n) (class_subscript c e)
  target_of j n e = target.Variable (variable_of j n)
