-- The kinds as which names are declared.
use Rattle.std.specs.Prelude.{Bool, true, false, not, ◌||◌, List, [], ◌∷◌, ◌++◌, codes, bytes_eq, Option, Some, None}
use Rattle.std.specs.Prelude.{if◌then◌else◌}
use Rattle.ss_words.specs.Lists.{Name}
use Rattle.ss_preamble.specs.declared.item.Heading.{Heading}
use Rattle.ss_preamble.specs.declared.item.Heading.TheVariants.{PermanentEntities, TemporaryEntities, EventNotices}
use Rattle.ss_check.specs.LanguageFunction.{Absolute, Greatest, Least, Quotient, Remainder}
use Rattle.ss_words.specs.declared.terms.OwnerKept.TheVariants.{First, Last, Count}
use Rattle.ss_words.specs.declared.terms.MemberKept.TheVariants.{Predecessor, Successor, Membership}
use Rattle.ss_check.specs.ClassNeed.{ClassNeed}
use Rattle.ss_check.specs.ClassNeed.{Permanent, Ending, Event}
use Rattle.ss_check.specs.NameKind.{NameKind}
use Rattle.ss_check.specs.NameKind as kinds
use Rattle.ss_check.specs.Facts.{Fact, fact, fact_of}

-- ---- declarations

-- the declarations of the language before all
abbrev pub language_facts : List (Fact NameKind)
language_facts =
    fact (codes "ABS.F") (kinds.Function Absolute) ∷
    fact (codes "MAX.F") (kinds.Function Greatest) ∷
    fact (codes "MIN.F") (kinds.Function Least) ∷
    fact (codes "DIV.F") (kinds.Function Quotient) ∷
    fact (codes "MOD.F") (kinds.Function Remainder) ∷
    fact (codes "TIME.V") kinds.Clock ∷
    []

-- N.c, if class c is under the heading of permanent ones
abbrev pub count_facts : Option Heading → Name → List (Fact NameKind)
count_facts (Some PermanentEntities) c = fact (codes "N." ++ c) kinds.ClassCount ∷ []
count_facts heading c = []

-- a class, and its N.c
abbrev pub class_facts : Option Heading → Name → List (Fact NameKind)
class_facts heading c = fact c (kinds.Class heading) ∷ count_facts heading c

-- a set and its kept attributes
abbrev pub set_facts : Name → List (Fact NameKind)
set_facts s =
    fact s kinds.Set ∷
    fact (codes "F." ++ s) (kinds.OwnerKept First s) ∷
    fact (codes "L." ++ s) (kinds.OwnerKept Last s) ∷
    fact (codes "N." ++ s) (kinds.OwnerKept Count s) ∷
    fact (codes "P." ++ s) (kinds.MemberKept Predecessor s) ∷
    fact (codes "S." ++ s) (kinds.MemberKept Successor s) ∷
    fact (codes "M." ++ s) (kinds.MemberKept Membership s) ∷
    []

-- ---- declared twice

-- whether two classes are under the same kind of heading
abbrev pub is_same_heading : Option Heading → Option Heading → Bool
is_same_heading None None = true
is_same_heading (Some PermanentEntities) (Some PermanentEntities) = true
is_same_heading (Some TemporaryEntities) (Some TemporaryEntities) = true
is_same_heading (Some EventNotices) (Some EventNotices) = true
is_same_heading _ _ = false

-- whether a name may be declared twice: a class under one kind of heading, a set; N.c and kept
-- attributes too (two kept attributes of one name are one attribute of one set, for the name shows
-- both)
abbrev pub may_repeat : NameKind → NameKind → Bool
may_repeat (kinds.Class g) (kinds.Class h) = is_same_heading g h
may_repeat kinds.Set kinds.Set = true
may_repeat kinds.ClassCount kinds.ClassCount = true
may_repeat (kinds.OwnerKept a s) (kinds.OwnerKept b t) = true
may_repeat (kinds.MemberKept a s) (kinds.MemberKept b t) = true
may_repeat _ _ = false

-- whether a name's kind, if it is declared, keeps it from being declared as this
abbrev pub conflicts : Option NameKind → NameKind → Bool
conflicts None kind = false
conflicts (Some j) kind = not (may_repeat j kind)

-- whether one of these declarations conflicts with the kind of its name by those before it
abbrev pub one_conflicts : List (Fact NameKind) → List (Fact NameKind) → Bool
one_conflicts before [] = false
one_conflicts before (f ∷ fs) = conflicts (fact_of before f.name) f.what || one_conflicts (before ++ f ∷ []) fs

-- the name of the first of these declarations that conflicts with the kind of its name by those
-- before it, if there is one
abbrev pub first_conflict : List (Fact NameKind) → List (Fact NameKind) → Option Name
first_conflict before [] = None
first_conflict before (f ∷ fs) =
    if conflicts (fact_of before f.name) f.what then Some f.name else first_conflict (before ++ f ∷ []) fs

-- ---- kinds; none is that of a local variable

-- a class
abbrev pub is_class : NameKind → Bool
is_class (kinds.Class h) = true
is_class _ = false

-- a variable, N.c, or a class, which has its own variable
abbrev pub is_global : NameKind → Bool
is_global kinds.Variable = true
is_global kinds.ClassCount = true
is_global kind = is_class kind

-- an attribute of a class
abbrev pub is_attribute_of : Name → NameKind → Bool
is_attribute_of c (kinds.Attribute b) = bytes_eq c b
is_attribute_of c _ = false

-- the name of a set
abbrev pub names_set : Option NameKind → Bool
names_set (Some kinds.Set) = true
names_set _ = false

-- the name of a routine
abbrev pub names_routine : Option NameKind → Bool
names_routine (Some kinds.Routine) = true
names_routine _ = false

-- the name of a function
abbrev pub names_function : Option NameKind → Bool
names_function (Some (kinds.Function f)) = true
names_function _ = false

-- the name of a variable
abbrev pub names_variable : Option NameKind → Bool
names_variable None = true
names_variable (Some j) = is_global j

-- a name that has a value and is never assigned: a kept attribute, TIME.V, a function
abbrev pub names_fixed : Option NameKind → Bool
names_fixed (Some (kinds.OwnerKept a s)) = true
names_fixed (Some (kinds.MemberKept a s)) = true
names_fixed (Some kinds.Clock) = true
names_fixed kind = names_function kind

-- the name of a permanent class
abbrev pub names_permanent : Option NameKind → Bool
names_permanent (Some (kinds.Class (Some PermanentEntities))) = true
names_permanent _ = false

-- the name of an event class
abbrev pub names_event : Option NameKind → Bool
names_event (Some (kinds.Class (Some EventNotices))) = true
names_event _ = false

-- the name of a temporary class or an event class
abbrev pub names_ending : Option NameKind → Bool
names_ending (Some (kinds.Class (Some TemporaryEntities))) = true
names_ending kind = names_event kind

-- whether a name is a class of the kind needed
abbrev pub serves : ClassNeed → Option NameKind → Bool
serves Permanent kind = names_permanent kind
serves Ending kind = names_ending kind
serves Event kind = names_event kind
