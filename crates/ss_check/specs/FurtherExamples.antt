-- Further small programs, and the first rule that each breaks. Items and MAIN are on lines as in
-- the examples.
use Rattle.std.specs.Prelude.{◌≡◌, ℕ, false, List, [], ◌∷◌, ◌++◌, Option, Some, None}
use Rattle.ss_words.specs.Lists.{Name}
use Rattle.ss_preamble.specs.declared.item.Heading.TheVariants.{PermanentEntities}
use Rattle.ss_preamble.specs.Tree.{Has, Owns, BelongsTo, Ranked, Sets, BreakTies, ExternalEvents, PriorityOrder, Item}
use Rattle.ss_preamble.specs.Tree.{Headed, OfEvery, Defines, Orders}
use Rattle.ss_routines.specs.declared.tree.simple.Article.TheVariants.{A}
use Rattle.ss_routines.specs.Expr.{Expr, named}
use Rattle.ss_routines.specs.Simple.{Unwritten, BehindGiven, Call, CalledFirst, Now, Schedule, Transfers, Times}
use Rattle.ss_routines.specs.Tree.{Head, MainHead, RoutineHead, EventHead}
use Rattle.ss_routines.specs.Places.{Place, Simply, EndOfSection, Section}
use Rattle.ss_check.specs.declared.fault.CheckRule.{CheckRule}
use Rattle.ss_check.specs.declared.fault.CheckRule.TheVariants.{DeclaredTwice, WrongClass, WrongUse, WrongKey}
use Rattle.ss_check.specs.declared.fault.CheckRule.TheVariants.{WrongCount, WrongEvent, WrongPriority, StartOutsideMain}
use Rattle.ss_check.specs.Breach.{breach}
use Rattle.ss_check.specs.Examples.{alone, applied_to_one, breach_behind_main, breach_in_main, class_t, define, event_e}
use Rattle.ss_check.specs.Examples.{events_e, every, high, kept_f, let_be, let_x, name_a, name_d, name_w, name_x}
use Rattle.ss_check.specs.Examples.{name_y, number, one, places_from, plain, preamble, routine, routine_r, section_at}
use Rattle.ss_check.specs.Examples.{set_s, start, system, system_set, temporary, temporary_t, time_v, two}

-- ---- parts of programs

-- EVENT E
abbrev pub event : Head
event = EventHead event_e Unwritten false

-- the breach of items, a MAIN of these places on line 20, and an empty EVENT E on line 40
abbrev pub breach_with_event : List Item → List Place → Option (CheckRule × ℕ)
breach_with_event is ps = breach (preamble is) (section_at 20 MainHead ps ∷ section_at 40 event [] ∷ [])

-- E as an event class with the attribute W
abbrev pub events_w : List Item
events_w = events_e ∷ every event_e (Has (one name_w)) ∷ []

-- BREAK E TIES BY HIGH name
abbrev pub ties : Name → Item
ties name = Orders (BreakTies event_e (high name))

-- ROUTINE R on line 30 with DEFINE name AS AN INTEGER VARIABLE on line 31
abbrev pub routine_with : Name → Section
routine_with name = record {
  line = 30;
  head = routine Unwritten;
  locals = record { line = 31; names = one name } ∷ [];
  places = places_from 32 (EndOfSection ∷ []);
}

-- SCHEDULE AN E GIVEN values NOW
abbrev pub schedule : List Expr → Place
schedule values = Simply (Times (Schedule A event_e (CalledFirst None values) Now))

-- ---- C1

-- a second EVENT E; ROUTINE T, a class; A1 given and yielded, and Y yielded
abbrev pub SectionsAreDeclaredOnce : Type 0
SectionsAreDeclaredOnce =
    (breach (preamble (events_e ∷ []))
    (section_at 20 MainHead [] ∷ section_at 30 event [] ∷ section_at 40 event [] ∷ [])
    ≡ Some (DeclaredTwice, 40))
    × (breach_behind_main (temporary_t ∷ []) (RoutineHead class_t Unwritten []) ≡ Some (DeclaredTwice, 30))
    × (breach_behind_main [] (RoutineHead routine_r (BehindGiven (one name_a)) (name_a ∷ []))
    ≡ Some (DeclaredTwice, 30))
    × (breach_behind_main [] (RoutineHead routine_r (BehindGiven (one name_a)) (name_y ∷ [])) ≡ None)

-- a second BREAK of E; EXTERNAL EVENTS ARE E, E; one of each
abbrev pub OrdersAreGivenOnce : Type 0
OrdersAreGivenOnce =
    (breach_with_event (events_w ++ ties name_w ∷ ties name_w ∷ []) [] ≡ Some (DeclaredTwice, 5))
    × (breach_with_event (events_e ∷ Orders (ExternalEvents (two event_e event_e)) ∷ []) [] ≡ Some (DeclaredTwice, 3))
    × (breach_with_event (events_w ++ ties name_w ∷ Orders (ExternalEvents (one event_e)) ∷ []) [] ≡ None)

-- a local DEFINE of a variable X of the preamble, of TIME.V, and of Y
abbrev pub LocalsHaveNamesOfTheirOwn : Type 0
LocalsHaveNamesOfTheirOwn =
    (breach (preamble (define name_x ∷ [])) (section_at 20 MainHead [] ∷ routine_with name_x ∷ [])
    ≡ Some (DeclaredTwice, 31))
    × (breach (preamble (define name_x ∷ [])) (section_at 20 MainHead [] ∷ routine_with time_v ∷ [])
    ≡ Some (DeclaredTwice, 31))
    × (breach (preamble (define name_x ∷ [])) (section_at 20 MainHead [] ∷ routine_with name_y ∷ []) ≡ None)

-- ---- C2 and C12

-- EXTERNAL of no class D, and of a temporary class T; PRIORITY of D, and of E
abbrev pub OrdersNameEvents : Type 0
OrdersNameEvents =
    (breach_in_main (Orders (ExternalEvents (one name_d)) ∷ []) [] ≡ Some (WrongClass, 2))
    × (breach_in_main (Orders (ExternalEvents (one class_t)) ∷ temporary_t ∷ []) [] ≡ Some (WrongClass, 2))
    × (breach_in_main (Orders (PriorityOrder (one name_d)) ∷ []) [] ≡ Some (WrongPriority, 2))
    × (breach_with_event (Orders (PriorityOrder (one event_e)) ∷ events_e ∷ []) [] ≡ None)

-- ---- C3

-- LET X = R of a routine R; LET X = TIME.V(1); LET X = TIME.V; LET X = F.S of a set of the system
abbrev pub ValuesAreNoRoutines : Type 0
ValuesAreNoRoutines =
    (breach (preamble [])
    (section_at 20 MainHead (let_x (alone (named routine_r)) ∷ []) ∷ section_at 30 (routine Unwritten) [] ∷ [])
    ≡ Some (WrongUse, 21))
    × (breach_in_main [] (let_x (applied_to_one time_v) ∷ []) ≡ Some (WrongUse, 21))
    × (breach_in_main [] (let_x (alone (named time_v)) ∷ []) ≡ None)
    × (breach_in_main system_set (let_x (alone (named kept_f)) ∷ []) ≡ None)

-- ---- C6

-- a tie key W that E does not have, the key E itself, and an attribute of the owners of a set as its rank key
abbrev pub KeysAreOfTheirClass : Type 0
KeysAreOfTheirClass =
    (breach_with_event (events_e ∷ ties name_w ∷ []) [] ≡ Some (WrongKey, 3))
    × (breach_with_event (events_w ++ ties event_e ∷ []) [] ≡ Some (WrongKey, 4))
    × (breach_in_main
    (Headed PermanentEntities None ∷ OfEvery name_d (two (Owns (one set_s)) (Has (one name_w))) ∷ temporary
    ∷ every class_t (BelongsTo (one set_s)) ∷ Defines (Sets (one set_s) (Ranked (high name_w))) ∷ []) []
    ≡ Some (WrongKey, 6))

-- ---- names declared twice

-- a set of T ranked by W, which the system has and, further down, T; ties of E by W, a variable
-- and, further down, an attribute of E; CALL R of a variable R with a section ROUTINE R further
-- down
abbrev pub SecondDeclarationsAreRefused : Type 0
SecondDeclarationsAreRefused =
    (breach_in_main
    (Defines (Sets (one set_s) (Ranked (high name_w)))
    ∷ (system_set ++ system (Has (one name_w)) ∷ every class_t (Has (one name_w)) ∷ [])) []
    ≡ Some (DeclaredTwice, 7))
    × (breach_with_event (ties name_w ∷ define name_w ∷ events_w) [] ≡ Some (DeclaredTwice, 5))
    × (breach (preamble (define routine_r ∷ []))
    (section_at 20 MainHead (Simply (Transfers (Call routine_r Unwritten [])) ∷ [])
    ∷ section_at 30 (routine Unwritten) [] ∷ []) ≡ Some (DeclaredTwice, 30))

-- ---- C7

-- SCHEDULE of one value for a class without attributes, of one and of two for a class with one
abbrev pub NoticesHaveAttributesForValues : Type 0
NoticesHaveAttributesForValues =
    (breach_with_event (events_e ∷ []) (schedule (number ∷ []) ∷ []) ≡ Some (WrongCount, 21))
    × (breach_with_event events_w (schedule (number ∷ []) ∷ []) ≡ None)
    × (breach_with_event events_w (schedule (number ∷ number ∷ []) ∷ []) ≡ Some (WrongCount, 21))

-- CALL R YIELDING X of a routine that yields nothing, and CALL R
abbrev pub YieldedAreCounted : Type 0
YieldedAreCounted =
    (breach (preamble [])
    (section_at 20 MainHead (Simply (Transfers (Call routine_r Unwritten (plain name_x ∷ []))) ∷ [])
    ∷ section_at 30 (routine Unwritten) [] ∷ []) ≡ Some (WrongCount, 21))
    × (breach (preamble []) (section_at 20 MainHead (Simply (Transfers (Call routine_r Unwritten [])) ∷ [])
    ∷ section_at 30 (routine Unwritten) [] ∷ []) ≡ None)

-- ---- C8

-- an event class without section that a BREAK, and a PRIORITY, names first
abbrev pub FirstNamingIsRefused : Type 0
FirstNamingIsRefused =
    (breach_in_main (ties name_w ∷ events_w) [] ≡ Some (WrongEvent, 2))
    × (breach_in_main (define name_x ∷ Orders (PriorityOrder (one event_e)) ∷ events_e ∷ []) [] ≡ Some (WrongEvent, 3))

-- ---- C9

-- LET W(1) of an attribute, and of the same in a section without its class
abbrev pub AttributesMayChange : Type 0
AttributesMayChange =
    (breach_in_main (temporary ∷ every class_t (Has (one name_w)) ∷ [])
    (let_be (record { name = name_w; subscript = Some number }) number ∷ []) ≡ None)
    × (breach_in_main [] (let_be (record { name = name_w; subscript = Some number }) number ∷ []) ≡ Some (WrongUse, 21))

-- ---- C13

-- START SIMULATION in an event
abbrev pub EventsStartNoSimulation : Type 0
EventsStartNoSimulation =
    breach (preamble (events_e ∷ [])) (section_at 20 MainHead [] ∷ section_at 30 event (start ∷ []) ∷ [])
    ≡ Some (StartOutsideMain, 31)
