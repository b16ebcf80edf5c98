-- The rules that the places of a section break.
use Rattle.std.specs.Prelude.{ℕ, Bool, true, false, not, ◌||◌, ◌&&◌, ◌==◌, nat_lt, nat_le, List, [], ◌∷◌, ◌++◌, length}
use Rattle.std.specs.Prelude.{Option, Some, None}
use Rattle.std.specs.List.{list_any, find}
use Rattle.ss_words.specs.Lists.{Name}
use Rattle.ss_report.specs.Pictures.{field_count, has_decimal_field}
use Rattle.ss_routines.specs.Simple.{Times, StartSimulation, Exchanges, Print}
use Rattle.ss_routines.specs.Loops.{Found, NoneFound}
use Rattle.ss_routines.specs.Places.{If, Find, Gather, Place, Simply, Branches, Loops, Spot}
use Rattle.ss_check.specs.declared.fault.CheckRule.{CheckRule}
use Rattle.ss_check.specs.declared.fault.CheckRule.TheVariants.{WrongClass, WrongUse, WrongCount, FixedTarget}
use Rattle.ss_check.specs.declared.fault.CheckRule.TheVariants.{WrongPicture, StartOutsideMain, WithoutFind}
use Rattle.ss_check.specs.declared.fault.CheckRule.TheVariants as rule
use Rattle.ss_check.specs.declared.wrong.Reason.{Reason}
use Rattle.ss_check.specs.declared.wrong.Reason.TheVariants as why
use Rattle.ss_check.specs.declared.wrong.Wrong.{Wrong}
use Rattle.ss_check.specs.LanguageFunction.{LanguageFunction}
use Rattle.ss_check.specs.LanguageFunction.{Absolute, Greatest, Least, Quotient, Remainder}
use Rattle.ss_check.specs.NameKind.{NameKind}
use Rattle.ss_check.specs.NameKind as kinds
use Rattle.ss_check.specs.Declarations.{Counts}
use Rattle.ss_check.specs.Declarations.{Declared}
use Rattle.ss_check.specs.Facts.{fact_of, is_among, names_of}
use Rattle.ss_check.specs.NameKinds.{names_set, names_routine, names_function, names_variable, names_fixed, serves}
use Rattle.ss_check.specs.Declarations.{kind_of, is_of_system, attribute_count}
use Rattle.ss_check.specs.Uses.{Use, Value, Target, InSet, LoopVariable, OfClass, Notice, Routine, uses}
use Rattle.ss_check.specs.Statements.{Statement, about, rule_where, lowest}

-- no value: a set or a routine
abbrev pub is_valueless : Option NameKind → Bool
is_valueless kind = names_set kind || names_routine kind

-- whether a function takes n arguments
abbrev pub takes : LanguageFunction → ℕ → Bool
takes Absolute n = n == 1
takes Greatest n = nat_le 2 n
takes Least n = nat_le 2 n
takes Quotient n = n == 2
takes Remainder n = n == 2

-- whether a routine has other counts of parameters
abbrev pub has_other_counts : ℕ → ℕ → Counts → Bool
has_other_counts values targets c = not (c.given == values && c.yielded == targets)

-- whether a routine, if there is one, is called with other counts
abbrev pub is_wrong_call : ℕ → ℕ → Option Counts → Bool
is_wrong_call values targets None = false
is_wrong_call values targets (Some c) = has_other_counts values targets c

-- d: the declarations of the whole program
module _ (d : Declared) where
  -- ---- names

  -- C2: a class that isn't of the kind needed
  abbrev pub is_wrong_class : Use → Bool
  is_wrong_class (OfClass need c) = not (serves need (kind_of d c))
  is_wrong_class _ = false

  -- an attribute, or a kept attribute whose owner is not the system
  abbrev pub takes_subscript : Option NameKind → Bool
  takes_subscript (Some (kinds.Attribute c)) = true
  takes_subscript (Some (kinds.OwnerKept a s)) = not (is_of_system d s)
  takes_subscript (Some (kinds.MemberKept a s)) = true
  takes_subscript _ = false

  -- a name that takes no parentheses
  abbrev pub takes_no_parentheses : Option NameKind → Bool
  takes_no_parentheses j = not (names_function j || takes_subscript j)

  -- a name that a section ROUTINE has, whatever else it is declared as
  abbrev pub is_routine : Name → Bool
  is_routine n = is_among n (names_of d.routines)

  -- C3: a set or a routine as a value or target; a subscript of a name that takes none, as with a
  -- set of the system; no set if one is needed; CALL of no routine
  abbrev pub is_misused : Use → Bool
  is_misused (Value n None) = is_valueless (kind_of d n)
  is_misused (Value n (Some c)) = takes_no_parentheses (kind_of d n)
  is_misused (Target n false) = is_valueless (kind_of d n)
  is_misused (Target n true) = takes_no_parentheses (kind_of d n)
  is_misused (InSet n subscripted) = not (names_set (kind_of d n)) || (subscripted && is_of_system d n)
  is_misused (Routine n values targets) = not (is_routine n)
  is_misused _ = false

  -- whether a function takes another argument count, or a name that takes a subscript has several
  abbrev pub has_wrong_arguments : Option NameKind → ℕ → Bool
  has_wrong_arguments (Some (kinds.Function f)) n = not (takes f n)
  has_wrong_arguments j n = takes_subscript j && not (n == 1)

  -- C7: a function without its arguments; another count of arguments, values or targets; more values than attributes
  abbrev pub is_wrong_count : Use → Bool
  is_wrong_count (Value n None) = names_function (kind_of d n)
  is_wrong_count (Value n (Some c)) = has_wrong_arguments (kind_of d n) c
  is_wrong_count (Notice c n) = nat_lt (attribute_count d c) n
  is_wrong_count (Routine n values targets) = is_wrong_call values targets (fact_of d.routines n)
  is_wrong_count _ = false

  -- C9: an assignment to a kept attribute, TIME.V or a function; a loop variable that is no variable
  abbrev pub is_fixed : Use → Bool
  is_fixed (Target n subscripted) = names_fixed (kind_of d n)
  is_fixed (LoopVariable n) = not (names_variable (kind_of d n))
  is_fixed _ = false

-- ---- places

-- C10: a PRINT whose values are not as many as its fields, or that has a decimal field
abbrev pub has_wrong_picture : Place → Bool
has_wrong_picture (Simply (Exchanges (Print n values lines))) =
    not (length values == field_count lines) || has_decimal_field lines
has_wrong_picture _ = false

-- START SIMULATION
abbrev pub is_start : Place → Bool
is_start (Simply (Times StartSimulation)) = true
is_start _ = false

-- IF FOUND or IF NONE
abbrev pub asks_find : Place → Bool
asks_find (Branches (If Found)) = true
asks_find (Branches (If NoneFound)) = true
asks_find _ = false

-- FIND FIRST CASE
abbrev pub is_find : Place → Bool
is_find (Loops Find) = true
is_find _ = false

-- the uses of the statement at a place; COMPUTE is one statement of two places
abbrev pub uses_from : Place → List Spot → List Use
uses_from (Loops (Gather e)) (q ∷ qs) = uses (Loops (Gather e)) ++ uses q.place
uses_from place qs = uses place

-- the rules on names that uses break
abbrev pub use_breaks : Declared → List Use → List CheckRule
use_breaks declared us =
    rule_where WrongClass (list_any (is_wrong_class declared) us) ++
    rule_where WrongUse (list_any (is_misused declared) us) ++
    rule_where WrongCount (list_any (is_wrong_count declared) us) ++
    rule_where FixedTarget (list_any (is_fixed declared) us)

-- the rules on the surroundings of a place. C13: START SIMULATION outside MAIN; C14: IF FOUND or IF
-- NONE not directly after a FIND
abbrev pub standing_breaks : Bool → Bool → Place → List CheckRule
standing_breaks in_main behind_find place =
    rule_where StartOutsideMain (is_start place && not in_main)
    ++ rule_where WithoutFind (asks_find place && not behind_find)

-- ---- what is wrong with a place, by the rule that is broken

-- a use breaks this rule on names
abbrev pub breaks_rule : Declared → CheckRule → Use → Bool
breaks_rule declared rule.WrongClass u = is_wrong_class declared u
breaks_rule declared rule.WrongUse u = is_misused declared u
breaks_rule declared rule.WrongCount u = is_wrong_count declared u
breaks_rule declared rule.FixedTarget u = is_fixed declared u
breaks_rule declared _ u = false

-- the name of a use
abbrev pub name_used : Use → Name
name_used (Value n arguments) = n
name_used (Target n subscripted) = n
name_used (InSet n subscripted) = n
name_used (LoopVariable n) = n
name_used (OfClass need n) = n
name_used (Notice n values) = n
name_used (Routine n values targets) = n

-- the reason of a rule
abbrev pub place_reason : CheckRule → Reason
place_reason rule.WrongClass = why.WrongClass
place_reason rule.WrongUse = why.WrongUse
place_reason rule.WrongCount = why.WrongCount
place_reason rule.FixedTarget = why.Fixed
place_reason rule.WrongPicture = why.WrongPicture
place_reason rule.StartOutsideMain = why.StartOutsideMain
place_reason _ = why.WithoutFind

-- the reason of a rule that a use breaks
abbrev pub use_reason : CheckRule → Use → Reason
use_reason rule.FixedTarget (LoopVariable n) = why.NoVariable
use_reason broken u = place_reason broken

-- what is wrong by the use that breaks a rule, if the rule is about names
abbrev pub use_wrong : CheckRule → Option Use → Wrong
use_wrong broken (Some u) = about (use_reason broken u) (Some (name_used u))
use_wrong broken None = about (place_reason broken) None

-- what is wrong with a place of these uses: the first use that breaks the rule
abbrev pub place_wrong : Declared → List Use → CheckRule → Wrong
place_wrong declared us broken = use_wrong broken (find (breaks_rule declared broken) us)

-- a place, with its uses, and the rules that it breaks
abbrev pub place_statement : Declared → Bool → Bool → List Use → Spot → Statement
place_statement declared in_main behind_find us spot = record {
  line = spot.line;
  breaks =
      use_breaks declared us ++
      rule_where WrongPicture (has_wrong_picture spot.place) ++
      standing_breaks in_main behind_find spot.place;
  wrong = place_wrong declared us;
}

-- the lowest rule that a place breaks, with others after it
unfoldable pub place_rule : Declared → Bool → Bool → Spot → List Spot → Option CheckRule
place_rule declared in_main behind_find spot ps =
    lowest (place_statement declared in_main behind_find (uses_from spot.place ps) spot).breaks

-- the places of a section, with whether it is MAIN, and whether a FIND is directly before
abbrev pub place_statements : Declared → Bool → Bool → List Spot → List Statement
place_statements declared in_main behind_find [] = []
place_statements declared in_main behind_find (p ∷ ps) =
    place_statement declared in_main behind_find (uses_from p.place ps) p
    ∷ place_statements declared in_main (is_find p.place) ps
