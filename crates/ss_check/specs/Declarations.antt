-- The declarations of the items of a preamble and of the heads of sections, in the order of the
-- text.
use Rattle.std.specs.Prelude.{ℕ, Bool, true, false, List, [], ◌∷◌, ◌++◌, length, map, count_by, bytes_eq, Option, Some}
use Rattle.std.specs.Prelude.{None}
use Rattle.std.specs.List.{flat_map, list_any}
use Rattle.ss_words.specs.Lists.{Name, Several, all_of}
use Rattle.ss_preamble.specs.declared.item.Heading.{Heading}
use Rattle.ss_preamble.specs.Tree.{Key, Clause, Has, Owns, BelongsTo, SetDiscipline, Definition, Variables, Sets}
use Rattle.ss_preamble.specs.Tree.{EventRule, PriorityOrder, BreakTies, ExternalEvents, Item, Headed, OfEvery, OfSystem}
use Rattle.ss_preamble.specs.Tree.{Defines, Orders, ItemAt}
use Rattle.ss_routines.specs.Tree.{Head, MainHead, RoutineHead, EventHead, listing_names}
use Rattle.ss_routines.specs.Places.{Section}
use Rattle.ss_check.specs.NameKind.{NameKind}
use Rattle.ss_check.specs.NameKind as kinds
use Rattle.ss_check.specs.Facts.{Fact, is_among, fact, fact_of, names_of}
use Rattle.ss_check.specs.NameKinds.{language_facts, class_facts, set_facts, names_event}

-- ---- the declarations of a text

-- how many parameters a routine has
pub record Counts : Type 0 where
  -- how many are given
  pub given : ℕ
  -- how many are yielded
  pub yielded : ℕ

-- the declarations of items and of the heads of sections, each list in the order of the text
pub record Declared : Type 0 where
  -- the kind as which each name is declared
  pub kinds : List (Fact NameKind)
  -- the class of each attribute
  pub attributes : List Name
  -- the owner of each set: a class, or none for the system
  pub owners : List (Fact (Option Name))
  -- the class of each set's members
  pub members : List (Fact Name)
  -- the sets whose discipline is given
  pub disciplines : List Name
  -- the event classes whose ties are broken
  pub ties : List Name
  -- the external classes
  pub external : List Name
  -- the classes that PRIORITY names
  pub priority : List Name
  -- all names that are named as classes
  pub classes : List Name
  -- the event classes that have a section
  pub events : List Name
  -- the routines, with the counts of their parameters
  pub routines : List (Fact Counts)
  -- whether there is a MAIN
  pub has_main : Bool

-- ---- items under their headings

-- an item with its line and the heading over it
pub record HeadedItem : Type 0 where
  -- its line
  pub line : ℕ
  -- the heading over it, if there is one
  pub heading : Option Heading
  -- the item
  pub item : Item

-- the heading over an item that is after others under heading: a heading's own, else heading
abbrev pub heading_at : Option Heading → Item → Option Heading
heading_at heading (Headed g names) = Some g
heading_at heading _ = heading

-- items after others under a heading, each under its own
abbrev pub headed_items_under : Option Heading → List ItemAt → List HeadedItem
headed_items_under heading [] = []
headed_items_under heading (i ∷ is) =
    record { line = i.line; heading = heading_at heading i.item; item = i.item }
    ∷ headed_items_under (heading_at heading i.item) is

-- the items of a preamble
abbrev pub headed_items : List ItemAt → List HeadedItem
headed_items is = headed_items_under None is

-- the class to which the clauses of an item belong, none for the system
abbrev pub class_of_item : Item → Option Name
class_of_item (OfEvery c clauses) = Some c
class_of_item _ = None

-- the clauses of an item
abbrev pub clauses_of : Item → List Clause
clauses_of (OfEvery c clauses) = all_of clauses
clauses_of (OfSystem clauses) = all_of clauses
clauses_of _ = []

-- the names after INCLUDE, or none
abbrev pub included_names : Option (Several Name) → List Name
included_names None = []
included_names (Some names) = all_of names

-- ---- the declarations of an item

-- the declarations of a clause for a class or the system
abbrev pub clause_facts : Option Name → Clause → List (Fact NameKind)
clause_facts (Some c) (Has names) = map (λ n. fact n (kinds.Attribute c)) (all_of names)
clause_facts None (Has names) = map (λ n. fact n kinds.Variable) (all_of names)
clause_facts o (Owns names) = flat_map set_facts (all_of names)
clause_facts o (BelongsTo names) = flat_map set_facts (all_of names)

-- the declarations of a DEFINE
abbrev pub definition_facts : Definition → List (Fact NameKind)
definition_facts (Variables names) = map (λ n. fact n kinds.Variable) (all_of names)
definition_facts (Sets names kind) = flat_map set_facts (all_of names)

-- the declarations of an item under a heading apart from its clauses
abbrev pub item_facts : Option Heading → Item → List (Fact NameKind)
item_facts heading (Headed g names) = flat_map (class_facts (Some g)) (included_names names)
item_facts heading (OfEvery c clauses) = class_facts heading c
item_facts heading (Defines d) = definition_facts d
item_facts heading _ = []

-- all that an item declares
abbrev pub declarations : HeadedItem → List (Fact NameKind)
declarations item =
    item_facts item.heading item.item ++ flat_map (clause_facts (class_of_item item.item)) (clauses_of item.item)

-- a class, once for each attribute that a clause declares
abbrev pub attribute_classes : Name → Clause → List Name
attribute_classes c (Has names) = map (λ n. c) (all_of names)
attribute_classes c _ = []

-- the class of each attribute that an item declares
abbrev pub attributes_in : Item → List Name
attributes_in (OfEvery c clauses) = flat_map (attribute_classes c) (all_of clauses)
attributes_in _ = []

-- the sets that a clause says are owned
abbrev pub owned_in : Clause → List Name
owned_in (Owns names) = all_of names
owned_in _ = []

-- the sets whose members a clause gives
abbrev pub joined_in : Clause → List Name
joined_in (BelongsTo names) = all_of names
joined_in _ = []

-- the owner of each set that an item says is owned: a class, or none for the system
abbrev pub owners_in : Item → List (Fact (Option Name))
owners_in item = map (λ s. fact s (class_of_item item)) (flat_map owned_in (clauses_of item))

-- the sets whose members an item gives
abbrev pub sets_joined : Item → List Name
sets_joined item = flat_map joined_in (clauses_of item)

-- the class of their members; the system is none
abbrev pub members_for : Option Name → List Name → List (Fact Name)
members_for (Some c) sets = map (λ s. fact s c) sets
members_for None sets = []

-- the class of the members of each set whose members an item gives
abbrev pub members_in : Item → List (Fact Name)
members_in item = members_for (class_of_item item) (sets_joined item)

-- the disciplines that an item gives
abbrev pub disciplines_in : Item → List (Fact SetDiscipline)
disciplines_in (Defines (Sets names kind)) = map (λ s. fact s kind) (all_of names)
disciplines_in _ = []

-- the sets whose discipline an item gives
abbrev pub disciplined_sets : Item → List Name
disciplined_sets (Defines (Sets names kind)) = all_of names
disciplined_sets _ = []

-- the keys of an event class's ties that an item gives
abbrev pub ties_in : Item → List (Fact (List Key))
ties_in (Orders (BreakTies c keys)) = fact c (all_of keys) ∷ []
ties_in _ = []

-- the event class whose ties an item breaks
abbrev pub tied_events : Item → List Name
tied_events (Orders (BreakTies c keys)) = c ∷ []
tied_events _ = []

-- the sets that a clause names
abbrev pub sets_of : Clause → List Name
sets_of (Has names) = []
sets_of (Owns names) = all_of names
sets_of (BelongsTo names) = all_of names

-- the sets that an item names
abbrev pub sets_in : Item → List Name
sets_in item = disciplined_sets item ++ flat_map sets_of (clauses_of item)

-- the external classes that an item names
abbrev pub external_in : Item → List Name
external_in (Orders (ExternalEvents names)) = all_of names
external_in _ = []

-- the classes that a PRIORITY item names
abbrev pub priority_in : Item → List Name
priority_in (Orders (PriorityOrder names)) = all_of names
priority_in _ = []

-- the classes that an item on events names
abbrev pub classes_ordered : EventRule → List Name
classes_ordered (PriorityOrder names) = all_of names
classes_ordered (BreakTies c keys) = c ∷ []
classes_ordered (ExternalEvents names) = all_of names

-- the classes that an item names as classes
abbrev pub classes_in : Item → List Name
classes_in (Headed h names) = included_names names
classes_in (OfEvery c clauses) = c ∷ []
classes_in (Orders r) = classes_ordered r
classes_in _ = []

-- ---- sections

-- the names of the given parameters
abbrev pub given_of : Head → List Name
given_of MainHead = []
given_of (RoutineHead n given yielded) = listing_names given
given_of (EventHead n given saving) = listing_names given

-- the names of the yielded parameters
abbrev pub yielded_of : Head → List Name
yielded_of (RoutineHead n given yielded) = yielded
yielded_of _ = []

-- the names of all parameters
abbrev pub parameters : Head → List Name
parameters head = given_of head ++ yielded_of head

-- MAIN
abbrev pub is_main : Head → Bool
is_main MainHead = true
is_main _ = false

-- the routine that a head declares
abbrev pub routine_facts : Head → List (Fact NameKind)
routine_facts (RoutineHead n given yielded) = fact n kinds.Routine ∷ []
routine_facts _ = []

-- the counts of its parameters
abbrev pub counts_of : Head → Counts
counts_of head = record { given = length (given_of head); yielded = length (yielded_of head) }

-- the counts of a routine as a fact on its name
abbrev pub routine_counts : Head → List (Fact Counts)
routine_counts (RoutineHead n given yielded) = fact n (counts_of (RoutineHead n given yielded)) ∷ []
routine_counts _ = []

-- the event class whose section a head begins
abbrev pub events_in : Head → List Name
events_in (EventHead n given saving) = n ∷ []
events_in _ = []

-- ---- the whole program

-- the declarations of items and heads: the kind of each name; the class of each attribute; the
-- owners of sets and the classes of their members; the sets whose discipline is given and the event
-- classes whose ties are broken; the external classes, those that PRIORITY names and all that are
-- named as classes; the event classes that have a section, the routines with the counts of their
-- parameters, and whether there is a MAIN
abbrev pub declared_by : List HeadedItem → List Head → Declared
declared_by xs hs = record {
  kinds = language_facts ++ flat_map declarations xs ++ flat_map routine_facts hs;
  attributes = flat_map (λ x. attributes_in x.item) xs;
  owners = flat_map (λ x. owners_in x.item) xs;
  members = flat_map (λ x. members_in x.item) xs;
  disciplines = flat_map (λ x. disciplined_sets x.item) xs;
  ties = flat_map (λ x. tied_events x.item) xs;
  external = flat_map (λ x. external_in x.item) xs;
  priority = flat_map (λ x. priority_in x.item) xs;
  classes = flat_map (λ x. classes_in x.item) xs;
  events = flat_map events_in hs;
  routines = flat_map routine_counts hs;
  has_main = list_any is_main hs;
}

-- the heads of sections
abbrev pub heads : List Section → List Head
heads sections = map (λ s. s.head) sections

-- the declarations of a whole program
abbrev pub declared_by_program : List ItemAt → List Section → Declared
declared_by_program is sections = declared_by (headed_items is) (heads sections)

-- the kind as which a name is declared; a local variable is not declared
abbrev pub kind_of : Declared → Name → Option NameKind
kind_of declared name = fact_of declared.kinds name

-- whether a name is declared
abbrev pub is_declared : Declared → Name → Bool
is_declared declared name = is_among name (names_of declared.kinds)

-- whether the owner of a set, if one is said, is the system
abbrev pub is_system : Option (Option Name) → Bool
is_system (Some None) = true
is_system _ = false

-- whether the system owns a set
abbrev pub is_of_system : Declared → Name → Bool
is_of_system declared s = is_system (fact_of declared.owners s)

-- how many attributes a class has
abbrev pub attribute_count : Declared → Name → ℕ
attribute_count declared c = count_by (bytes_eq c) declared.attributes

-- whether a name is an event class
abbrev pub is_event_class : Declared → Name → Bool
is_event_class declared c = names_event (kind_of declared c)
