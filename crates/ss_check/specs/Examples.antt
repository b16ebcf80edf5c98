-- Small programs, and the first rule that each breaks. An item is on each line from 2 on, and MAIN
-- on line 20.
use Rattle.std.specs.Prelude.{◌≡◌, ℕ, ◌+◌, true, false, List, [], ◌∷◌, ◌++◌, length, codes, Option, Some, None}
use Rattle.ss_words.specs.Lists.{Name, Several}
use Rattle.ss_preamble.specs.declared.item.Heading.TheVariants.{PermanentEntities, TemporaryEntities, EventNotices}
use Rattle.ss_words.specs.declared.terms.Rank.TheVariants.{High}
use Rattle.ss_preamble.specs.Tree.{Key, Clause, Has, Owns, BelongsTo, Fifo, Lifo, Ranked, Variables, Sets}
use Rattle.ss_preamble.specs.Tree.{PriorityOrder, BreakTies, ExternalEvents, Item, Headed, OfEvery, OfSystem, Defines}
use Rattle.ss_preamble.specs.Tree.{Orders, ItemAt, Decls}
use Rattle.ss_words.specs.declared.terms.Direction.TheVariants.{Onward}
use Rattle.ss_words.specs.declared.terms.Statistic.TheVariants.{Sum}
use Rattle.ss_routines.specs.Expr.{Expr, expr, no_sums, term, no_products, Factor, digits, named, applied, no_exprs}
use Rattle.ss_routines.specs.Condition.{Reference}
use Rattle.ss_routines.specs.Simple.{Let, Create, ByDiscipline, File, Listing, Unwritten, BehindGiven, Call}
use Rattle.ss_routines.specs.Simple.{StartSimulation, Print, Assigns, Makes, Files, Transfers, Times, Exchanges}
use Rattle.ss_routines.specs.Loops.{Range, Counting, Each, Found, NoneFound}
use Rattle.ss_routines.specs.Tree.{Head, MainHead, RoutineHead, EventHead}
use Rattle.ss_routines.specs.Places.{If, Always, For, Find, Gather, Compute, Place, Simply, Branches, Loops}
use Rattle.ss_routines.specs.Places.{EndOfSection, Spot, Section}
use Rattle.ss_check.specs.declared.fault.CheckRule.{CheckRule}
use Rattle.ss_check.specs.declared.fault.CheckRule.TheVariants.{DeclaredTwice, WrongClass, WrongUse, WrongOwner}
use Rattle.ss_check.specs.declared.fault.CheckRule.TheVariants.{WrongMember, WrongKey, WrongCount, WrongEvent}
use Rattle.ss_check.specs.declared.fault.CheckRule.TheVariants.{FixedTarget, WrongPicture, WrongMain, WrongPriority}
use Rattle.ss_check.specs.declared.fault.CheckRule.TheVariants.{StartOutsideMain, WithoutFind}
use Rattle.ss_check.specs.Breach.{breach}

-- ---- names

-- a class
abbrev pub class_t : Name
class_t = codes "T"

-- a set
abbrev pub set_s : Name
set_s = codes "S"

-- an event class
abbrev pub event_e : Name
event_e = codes "E"

-- a variable
abbrev pub name_x : Name
name_x = codes "X"

-- an attribute
abbrev pub name_w : Name
name_w = codes "W"

-- a routine
abbrev pub routine_r : Name
routine_r = codes "R"

-- a parameter
abbrev pub name_a : Name
name_a = codes "A1"

-- a loop variable
abbrev pub name_i : Name
name_i = codes "I"

-- another variable
abbrev pub name_y : Name
name_y = codes "Y"

-- a name that is no class
abbrev pub name_d : Name
name_d = codes "D"

-- whether an entity is in S
abbrev pub kept_m : Name
kept_m = codes "M.S"

-- the first of S
abbrev pub kept_f : Name
kept_f = codes "F.S"

-- the clock
abbrev pub time_v : Name
time_v = codes "TIME.V"

-- the absolute value
abbrev pub abs_f : Name
abs_f = codes "ABS.F"

-- the greatest
abbrev pub max_f : Name
max_f = codes "MAX.F"

-- the remainder
abbrev pub mod_f : Name
mod_f = codes "MOD.F"

-- how many T there are
abbrev pub count_t : Name
count_t = codes "N.T"

-- ---- parts of programs

-- a list of one
abbrev pub one : {X : Type 0} → X → Several X
one x = record { first = x; others = [] }

-- a list of two
abbrev pub two : {X : Type 0} → X → X → Several X
two x y = record { first = x; others = y ∷ [] }

-- items, each on its own line, from line n on
abbrev pub items_from : ℕ → List Item → List ItemAt
items_from n [] = []
items_from n (i ∷ is) = record { line = n; item = i } ∷ items_from (n + 1) is

-- PREAMBLE on line 1, items below it, and END
abbrev pub preamble : List Item → Decls
preamble is = record { items = items_from 2 is; end = Some (2 + length is) }

-- places, each on its own line, from line n on
abbrev pub places_from : ℕ → List Place → List Spot
places_from n [] = []
places_from n (p ∷ ps) = record { line = n; place = p } ∷ places_from (n + 1) ps

-- a head on line n, places on the lines below it, and END
abbrev pub section_at : ℕ → Head → List Place → Section
section_at n head ps = record {
  line = n;
  head = head;
  locals = [];
  places = places_from (n + 1) (ps ++ EndOfSection ∷ []);
}

-- the breach of items and a MAIN of these places on line 20
abbrev pub breach_in_main : List Item → List Place → Option (CheckRule × ℕ)
breach_in_main is ps = breach (preamble is) (section_at 20 MainHead ps ∷ [])

-- the breach of items, an empty MAIN on line 20, and an empty section on line 30
abbrev pub breach_behind_main : List Item → Head → Option (CheckRule × ℕ)
breach_behind_main is head = breach (preamble is) (section_at 20 MainHead [] ∷ section_at 30 head [] ∷ [])

-- T as a temporary class
abbrev pub temporary_t : Item
temporary_t = Headed TemporaryEntities (Some (one class_t))

-- T as a permanent class
abbrev pub permanent_t : Item
permanent_t = Headed PermanentEntities (Some (one class_t))

-- E as an event class
abbrev pub events_e : Item
events_e = Headed EventNotices (Some (one event_e))

-- a heading without INCLUDE
abbrev pub temporary : Item
temporary = Headed TemporaryEntities None

-- EVERY class and a clause
abbrev pub every : Name → Clause → Item
every c clause = OfEvery c (one clause)

-- SYSTEM and a clause
abbrev pub system : Clause → Item
system clause = OfSystem (one clause)

-- DEFINE name AS AN INTEGER VARIABLE
abbrev pub define : Name → Item
define name = Defines (Variables (one name))

-- SYSTEM OWNS S, and EVERY T BELONGS TO S
abbrev pub system_set : List Item
system_set = system (Owns (one set_s)) ∷ temporary ∷ every class_t (BelongsTo (one set_s)) ∷ []

-- BY HIGH name
abbrev pub high : Name → Several Key
high name = one (record { rank = High; name = name })

-- an expression of one factor
abbrev pub alone : Factor → Expr
alone factor = expr None (term factor no_products) no_sums

-- the expression 1
abbrev pub number : Expr
number = alone (digits 1)

-- name(1)
abbrev pub applied_to_one : Name → Expr
applied_to_one name = alone (applied name number no_exprs)

-- a reference without subscript
abbrev pub plain : Name → Reference
plain name = record { name = name; subscript = None }

-- LET target = value
abbrev pub let_be : Reference → Expr → Place
let_be reference expression = Simply (Assigns (Let true reference expression))

-- LET X = value
abbrev pub let_x : Expr → Place
let_x expression = let_be (plain name_x) expression

-- PRINT 1 LINE WITH values THUS, and the line
abbrev pub print : List Expr → List ℕ → Place
print values line = Simply (Exchanges (Print 1 values (line ∷ [])))

-- FOR and its range, without DO
abbrev pub for_phrase : Range → Place
for_phrase r = Loops (For (record { range = r; qualifiers = [] }) false)

-- FOR name = 1 TO 1
abbrev pub for_number : Name → Place
for_number name = for_phrase (Counting Onward name number number None)

-- START SIMULATION
abbrev pub start : Place
start = Simply (Times StartSimulation)

-- ROUTINE R, with a given parameter or none
abbrev pub routine : Listing Name → Head
routine given = RoutineHead routine_r given []

-- ---- C1

-- DEFINE X, X; SYSTEM HAS X before DEFINE X; DEFINE TIME.V
abbrev pub VariablesAreDeclaredOnce : Type 0
VariablesAreDeclaredOnce =
    (breach_in_main (Defines (Variables (two name_x name_x)) ∷ []) [] ≡ Some (DeclaredTwice, 2))
    × (breach_in_main (system (Has (one name_x)) ∷ define name_x ∷ []) [] ≡ Some (DeclaredTwice, 3))
    × (breach_in_main (define time_v ∷ []) [] ≡ Some (DeclaredTwice, 2))

-- INCLUDE of T under a second kind of heading, and under the same kind; N.T, which a permanent class T has
abbrev pub ClassesHaveOneKind : Type 0
ClassesHaveOneKind =
    (breach_in_main (temporary_t ∷ permanent_t ∷ []) []
    ≡ Some (DeclaredTwice, 3))
    × (breach_in_main (temporary_t ∷ temporary_t ∷ []) []
    ≡ None)
    × (breach_in_main (permanent_t ∷ define count_t ∷ []) [] ≡ Some (DeclaredTwice, 3))

-- a kept attribute M.S; a second discipline of S
abbrev pub SetsAreDeclaredOnce : Type 0
SetsAreDeclaredOnce =
    (breach_in_main (system_set ++ define kept_m ∷ []) [] ≡ Some (DeclaredTwice, 5))
    × (breach_in_main (system_set ++ Defines (Sets (two set_s set_s) Fifo) ∷ []) [] ≡ Some (DeclaredTwice, 5))
    × (breach_in_main (system_set ++ Defines (Sets (one set_s) Lifo) ∷ []) [] ≡ None)

-- a second ROUTINE R; its parameter R; a class T as its parameter
abbrev pub RoutinesAreDeclaredOnce : Type 0
RoutinesAreDeclaredOnce =
    (breach (preamble [])
    (section_at 20 (routine Unwritten) [] ∷ section_at 30 (routine Unwritten) [] ∷ section_at 40 MainHead [] ∷ [])
    ≡ Some (DeclaredTwice, 30))
    × (breach_behind_main [] (routine (BehindGiven (one routine_r))) ≡ Some (DeclaredTwice, 30))
    × (breach_behind_main (temporary_t ∷ []) (routine (BehindGiven (one class_t))) ≡ Some (DeclaredTwice, 30))
    × (breach_behind_main [] (routine (BehindGiven (two name_a name_a))) ≡ Some (DeclaredTwice, 30))

-- ---- C2

-- EVERY T under no heading; EXTERNAL EVENTS ARE T and BREAK T of a temporary class T
abbrev pub ClassesAreNamedUnderHeadings : Type 0
ClassesAreNamedUnderHeadings =
    (breach_in_main (every class_t (Has (one name_w)) ∷ []) [] ≡ Some (WrongClass, 2))
    × (breach_in_main (temporary_t ∷ Orders (ExternalEvents (one class_t)) ∷ []) [] ≡ Some (WrongClass, 3))
    × (breach_in_main (temporary ∷ every class_t (Has (one name_w)) ∷ Orders (BreakTies class_t (high name_w)) ∷ []) []
    ≡ Some (WrongClass, 4))

-- CREATE of a permanent class, of no class, and of a temporary class; FOR EACH of a temporary class
abbrev pub StatementsNeedClasses : Type 0
StatementsNeedClasses =
    (breach_in_main (permanent_t ∷ []) (Simply (Makes (Create class_t None)) ∷ []) ≡ Some (WrongClass, 21))
    × (breach_in_main [] (Simply (Makes (Create class_t None)) ∷ []) ≡ Some (WrongClass, 21))
    × (breach_in_main (temporary_t ∷ []) (Simply (Makes (Create class_t None)) ∷ []) ≡ None)
    × (breach_in_main (temporary_t ∷ []) (for_phrase (Each class_t None) ∷ let_x number ∷ []) ≡ Some (WrongClass, 21))

-- ---- C3

-- LET X = Y(1); LET X = S of a set S; LET X = F.S(1) of a set of the system; FILE T IN X of no set; CALL of a class T
abbrev pub NamesAreUsedAsDeclared : Type 0
NamesAreUsedAsDeclared =
    (breach_in_main [] (let_x (applied_to_one name_y) ∷ []) ≡ Some (WrongUse, 21))
    × (breach_in_main system_set (let_x (alone (named set_s)) ∷ []) ≡ Some (WrongUse, 21))
    × (breach_in_main system_set (let_x (applied_to_one kept_f) ∷ []) ≡ Some (WrongUse, 21))
    × (breach_in_main system_set (Simply (Files (File number ByDiscipline (plain name_x))) ∷ []) ≡ Some (WrongUse, 21))
    × (breach_in_main system_set (Simply (Transfers (Call class_t Unwritten [])) ∷ []) ≡ Some (WrongUse, 21))

-- ---- C4 and C5

-- only BELONGS TO S; SYSTEM OWNS S twice
abbrev pub SetsHaveOneOwner : Type 0
SetsHaveOneOwner =
    (breach_in_main (temporary ∷ every class_t (BelongsTo (one set_s)) ∷ []) [] ≡ Some (WrongOwner, 3))
    × (breach_in_main (system_set ++ system (Owns (one set_s)) ∷ []) [] ≡ Some (WrongOwner, 5))

-- only SYSTEM OWNS S; BELONGS TO S twice; SYSTEM BELONGS TO S
abbrev pub SetsHaveOneMemberClass : Type 0
SetsHaveOneMemberClass =
    (breach_in_main (system (Owns (one set_s)) ∷ []) [] ≡ Some (WrongMember, 2))
    × (breach_in_main (system_set ++ every class_t (BelongsTo (one set_s)) ∷ []) [] ≡ Some (WrongMember, 5))
    × (breach_in_main (system_set ++ system (BelongsTo (one set_s)) ∷ []) [] ≡ Some (WrongMember, 5))

-- ---- C6

-- a set ranked by W, no attribute of T, by its kept attribute M.S, and by an attribute that T has
abbrev pub KeysAreAttributes : Type 0
KeysAreAttributes =
    (breach_in_main (Defines (Sets (one set_s) (Ranked (high name_w))) ∷ system_set) [] ≡ Some (WrongKey, 2))
    × (breach_in_main (Defines (Sets (one set_s) (Ranked (high kept_m))) ∷ system_set) [] ≡ Some (WrongKey, 2))
    × (breach_in_main
    (Defines (Sets (one set_s) (Ranked (high name_w))) ∷ (system_set ++ every class_t (Has (one name_w)) ∷ [])) []
    ≡ None)

-- ---- C7

-- ABS.F without its argument; MAX.F of one; CALL of R, which has one parameter, without values
abbrev pub CountsAgree : Type 0
CountsAgree =
    (breach_in_main [] (let_x (alone (named abs_f)) ∷ []) ≡ Some (WrongCount, 21))
    × (breach_in_main [] (let_x (applied_to_one max_f) ∷ []) ≡ Some (WrongCount, 21))
    × (breach_in_main [] (let_x (applied_to_one abs_f) ∷ []) ≡ None)
    × (breach (preamble []) (section_at 20 MainHead (Simply (Transfers (Call routine_r Unwritten [])) ∷ [])
    ∷ section_at 30 (routine (BehindGiven (one name_a))) [] ∷ []) ≡ Some (WrongCount, 21))

-- EVENT E with a parameter, of a class without attributes
abbrev pub EventsHaveAttributesForParameters : Type 0
EventsHaveAttributesForParameters =
    breach_behind_main (events_e ∷ []) (EventHead event_e (BehindGiven (one name_a)) false)
    ≡ Some (WrongCount, 30)

-- ---- C8

-- an event class without section; a section of no class, and of a temporary class; both
abbrev pub EventsHaveSections : Type 0
EventsHaveSections =
    (breach_in_main (events_e ∷ []) [] ≡ Some (WrongEvent, 2))
    × (breach_in_main (Orders (PriorityOrder (one event_e)) ∷ events_e ∷ []) [] ≡ Some (WrongEvent, 2))
    × (breach_behind_main [] (EventHead event_e Unwritten false) ≡ Some (WrongEvent, 30))
    × (breach_behind_main (Headed TemporaryEntities (Some (one event_e)) ∷ []) (EventHead event_e Unwritten false)
    ≡ Some (WrongEvent, 30))
    × (breach_behind_main (events_e ∷ []) (EventHead event_e Unwritten false) ≡ None)

-- ---- C9

-- TIME.V, a function and a kept attribute as targets; a set and TIME.V as loop variables
abbrev pub TargetsMayChange : Type 0
TargetsMayChange =
    (breach_in_main [] (let_be (plain time_v) number ∷ []) ≡ Some (FixedTarget, 21))
    × (breach_in_main [] (let_be (plain abs_f) number ∷ []) ≡ Some (FixedTarget, 21))
    × (breach_in_main system_set (let_be (plain kept_m) number ∷ []) ≡ Some (FixedTarget, 21))
    × (breach_in_main system_set (for_number set_s ∷ let_x number ∷ []) ≡ Some (FixedTarget, 21))
    × (breach_in_main [] (for_number time_v ∷ let_x number ∷ []) ≡ Some (FixedTarget, 21))

-- ---- C10

-- a field without value, a value without field, and a decimal field
abbrev pub FieldsHaveValues : Type 0
FieldsHaveValues =
    (breach_in_main [] (print [] (codes "**") ∷ []) ≡ Some (WrongPicture, 21))
    × (breach_in_main [] (print (number ∷ []) (codes "NO FIELD") ∷ []) ≡ Some (WrongPicture, 21))
    × (breach_in_main [] (print (number ∷ []) (codes "*.*") ∷ []) ≡ Some (WrongPicture, 21))
    × (breach_in_main [] (print (number ∷ []) (codes "[**]") ∷ []) ≡ None)

-- ---- C11

-- no sections and no preamble; no sections; only a routine; a second MAIN
abbrev pub ThereIsOneMain : Type 0
ThereIsOneMain =
    (breach (record { items = []; end = None }) [] ≡ Some (WrongMain, 1))
    × (breach (preamble []) [] ≡ Some (WrongMain, 2))
    × (breach (preamble []) (section_at 20 (routine Unwritten) [] ∷ []) ≡ Some (WrongMain, 21))
    × (breach_behind_main [] MainHead ≡ Some (WrongMain, 30))

-- ---- C12

-- PRIORITY of a temporary class T; of E twice; a second PRIORITY
abbrev pub PriorityNamesEventsOnce : Type 0
PriorityNamesEventsOnce =
    (breach_in_main (temporary_t ∷ Orders (PriorityOrder (one class_t)) ∷ []) [] ≡ Some (WrongPriority, 3))
    × (breach_behind_main (events_e ∷ Orders (PriorityOrder (two event_e event_e)) ∷ [])
    (EventHead event_e Unwritten false) ≡ Some (WrongPriority, 3))
    × (breach_behind_main (events_e ∷ Orders (PriorityOrder (one event_e)) ∷ Orders (PriorityOrder (one event_e)) ∷ [])
    (EventHead event_e Unwritten false) ≡ Some (WrongPriority, 4))

-- ---- C13

-- START SIMULATION in MAIN, and in a routine
abbrev pub SimulationStartsInMain : Type 0
SimulationStartsInMain =
    (breach_in_main [] (start ∷ []) ≡ None)
    × (breach (preamble []) (section_at 20 MainHead [] ∷ section_at 30 (routine Unwritten) (start ∷ []) ∷ [])
    ≡ Some (StartOutsideMain, 31))

-- ---- C14

-- IF FOUND directly after a FIND, after a statement between, and without a FIND
abbrev pub FoundIsAskedBehindFind : Type 0
FoundIsAskedBehindFind =
    (breach_in_main [] (for_number name_i ∷ Loops Find ∷ Branches (If Found) ∷ Branches Always ∷ []) ≡ None)
    × (breach_in_main [] (for_number name_i ∷ Loops Find ∷ let_x number ∷ Branches (If Found) ∷ Branches Always ∷ [])
    ≡ Some (WithoutFind, 24))
    × (breach_in_main [] (Branches (If NoneFound) ∷ Branches Always ∷ []) ≡ Some (WithoutFind, 21))

-- ---- which breach counts

-- LET TIME.V = 1 (C9) and LET X = ABS.F (C7): the one on the earlier line is refused
abbrev pub EarlierStatementCounts : Type 0
EarlierStatementCounts =
    (breach_in_main [] (let_be (plain time_v) number ∷ let_x (alone (named abs_f)) ∷ []) ≡ Some (FixedTarget, 21))
    × (breach_in_main [] (let_x (alone (named abs_f)) ∷ let_be (plain time_v) number ∷ []) ≡ Some (WrongCount, 21))

-- COMPUTE of I(1) AS SUM, its second place
abbrev pub compute_i : Place
compute_i = Loops (Compute
    (one (record { target = record { name = name_i; subscript = Some number }; statistic = Sum })))

-- LET TIME.V = MOD.F breaks C7 and C9; EXTERNAL EVENTS ARE D, D of no class D breaks C1 and C2; the
-- two places of a COMPUTE are one statement
abbrev pub LowerRuleCounts : Type 0
LowerRuleCounts =
    (breach_in_main [] (let_be (plain time_v) (alone (named mod_f)) ∷ []) ≡ Some (WrongCount, 21))
    × (breach_in_main (Orders (ExternalEvents (two name_d name_d)) ∷ []) [] ≡ Some (DeclaredTwice, 2))
    × (breach_in_main [] (for_number name_i ∷ Loops (Gather (alone (named abs_f))) ∷ compute_i ∷ [])
    ≡ Some (WrongUse, 22))
