-- The tables of a program with more items or heads, and the first breach of the parts after others.
use Rattle.std.specs.Prelude.{◌≡◌, Bool, true, false, nat_lt, List, [], ◌∷◌, ◌++◌, length, map, Option, None}
use Rattle.std.specs.Prelude.{if◌then◌else◌}
use Rattle.std.specs.List.{find}
use Rattle.std.specs.Option.{option_or}
use Rattle.ss_words.specs.Lists.{Name}
use Rattle.ss_preamble.specs.declared.item.Heading.{Heading}
use Rattle.ss_preamble.specs.Tree.{Item, ItemAt}
use Rattle.ss_routines.specs.Tree.{Head, MainHead, RoutineHead, EventHead}
use Rattle.ss_routines.specs.Places.{LocalNames, Spot, Section}
use Rattle.ss_check.specs.declared.fault.CheckRule.{CheckRule}
use Rattle.ss_check.specs.declared.fault.CheckRule.TheVariants as rule
use Rattle.ss_check.specs.declared.wrong.Reason.TheVariants as why
use Rattle.ss_check.specs.declared.wrong.Wrong.{Wrong}
use Rattle.ss_check.specs.NameKind.{Routine}
use Rattle.ss_check.specs.Declarations.{Declared}
use Rattle.ss_check.specs.Declarations.{HeadedItem, attributes_in, classes_in, counts_of, declarations}
use Rattle.ss_check.specs.Declarations.{disciplined_sets, external_in, is_main, members_in, owners_in, priority_in}
use Rattle.ss_check.specs.Declarations.{events_in, parameters, sets_in, sets_joined, tied_events}
use Rattle.ss_check.specs.Facts.{fact, first_of, first_repeat, names_of, repeats}
use Rattle.ss_check.specs.ItemRules.{item_statement, head_statement, local_statement, name_breaks, wrong_key_of}
use Rattle.ss_check.specs.NameKinds.{first_conflict, one_conflicts}
use Rattle.ss_check.specs.PlaceRules.{place_statements}
use Rattle.ss_check.specs.Statements.{Refusal, about, about_or, refusal_of, first_refusal}

-- an item under a heading
abbrev pub headed_item : Option Heading → ItemAt → HeadedItem
headed_item heading i = record { line = i.line; heading = heading; item = i.item }

-- ---- tables

-- with one more item
unfoldable pub with_item : Declared → HeadedItem → Declared
with_item declared item = record declared {
  kinds = declared.kinds ++ declarations item;
  attributes = declared.attributes ++ attributes_in item.item;
  owners = declared.owners ++ owners_in item.item;
  members = declared.members ++ members_in item.item;
  disciplines = declared.disciplines ++ disciplined_sets item.item;
  ties = declared.ties ++ tied_events item.item;
  external = declared.external ++ external_in item.item;
  priority = declared.priority ++ priority_in item.item;
  classes = declared.classes ++ classes_in item.item;
}

-- with one more head
unfoldable pub with_head : Declared → Head → Declared
with_head declared MainHead = record declared { has_main = true }
with_head declared (RoutineHead n given yielded) = record declared {
  kinds = declared.kinds ++ fact n Routine ∷ [];
  routines = declared.routines ++ fact n (counts_of (RoutineHead n given yielded)) ∷ [];
}
with_head declared (EventHead n given saving) = record declared { events = declared.events ++ n ∷ [] }

-- with items one after another
unfoldable pub with_items : Declared → List HeadedItem → Declared
with_items declared [] = declared
with_items declared (x ∷ xs) = with_items (with_item declared x) xs

-- with the heads of sections one after another
unfoldable pub with_sections : Declared → List Section → Declared
with_sections declared [] = declared
with_sections declared (s ∷ ss) = with_sections (with_head declared s.head) ss

-- tables that say nothing twice which may be said once
pub record IsOnce (declared : Declared) : Type 0 where
  -- no declaration conflicts with an earlier one of its name
  pub kinds : one_conflicts [] declared.kinds ≡ false
  -- no set has two owners
  pub owners : repeats [] (names_of declared.owners) ≡ false
  -- nor two classes of members
  pub members : repeats [] (names_of declared.members) ≡ false
  -- nor two disciplines
  pub disciplines : repeats [] declared.disciplines ≡ false
  -- no event class has its ties broken twice
  pub ties : repeats [] declared.ties ≡ false
  -- none is named twice as external
  pub external : repeats [] declared.external ≡ false
  -- none has two sections
  pub events : repeats [] declared.events ≡ false

-- ---- breaches; d: the declarations of the whole program; b: the declarations before

-- the first breach of items
unfoldable pub items_refusal : Declared → Declared → List HeadedItem → Option Refusal
items_refusal d b [] = None
items_refusal d b (x ∷ xs) = option_or (refusal_of (item_statement d b x)) (items_refusal d (with_item b x) xs)

-- the first breach of local DEFINEs
unfoldable pub locals_refusal : Declared → List LocalNames → Option Refusal
locals_refusal declared ls = first_refusal (map (local_statement declared) ls)

-- the first breach of places, in MAIN or not, directly after a FIND or not
unfoldable pub places_refusal : Declared → Bool → Bool → List Spot → Option Refusal
places_refusal declared in_main behind_find ps = first_refusal (place_statements declared in_main behind_find ps)

-- the first breach of a section
unfoldable pub section_refusal : Declared → Declared → Section → Option Refusal
section_refusal d b section =
    option_or (refusal_of (head_statement d b section))
    (option_or (locals_refusal d section.locals) (places_refusal d (is_main section.head) false section.places))

-- the first breach of sections
unfoldable pub sections_refusal : Declared → Declared → List Section → Option Refusal
sections_refusal d b [] = None
sections_refusal d b (s ∷ ss) = option_or (section_refusal d b s) (sections_refusal d (with_head b s.head) ss)

-- ---- what is wrong, by the tables with the item or the head; t: those tables

-- with an item that breaks C1
abbrev pub twice_with : Declared → Wrong
twice_with t =
    about_or why.DeclaredTwice (first_conflict [] t.kinds)
    (about_or why.DisciplinedTwice (first_repeat [] t.disciplines)
    (about_or why.BrokenTwice (first_repeat [] t.ties)
    (about why.ExternalTwice (first_repeat [] t.external))))

-- C4
abbrev pub owner_with : Declared → Declared → Item → Wrong
owner_with d t i =
    about_or why.Ownerless (find (name_breaks d rule.WrongOwner) (sets_in i))
    (about why.OwnedTwice (first_repeat [] (names_of t.owners)))

-- C5
abbrev pub member_with : Declared → Declared → Item → Wrong
member_with d t i =
    about_or why.Memberless (find (name_breaks d rule.WrongMember) (sets_in i))
    (about_or why.JoinedTwice (first_repeat [] (names_of t.members))
    (about why.JoinedBySystem (first_of (sets_joined i))))

-- C12: a PRIORITY named classes before if there are more of them than this item names
abbrev pub priority_with : Declared → Declared → Item → Wrong
priority_with d t i = if nat_lt (length (priority_in i)) (length t.priority)
    then about why.SecondPriority None
    else about_or why.OrderedTwice (first_repeat [] t.priority)
    (about why.NoEvent (find (name_breaks d rule.WrongPriority) (priority_in i)))

-- with an item, by a rule that it breaks
abbrev pub item_wrong_with : Declared → Declared → Item → CheckRule → Wrong
item_wrong_with d t i rule.DeclaredTwice = twice_with t
item_wrong_with d t i rule.WrongClass = about why.WrongClass (find (name_breaks d rule.WrongClass) (classes_in i))
item_wrong_with d t i rule.WrongOwner = owner_with d t i
item_wrong_with d t i rule.WrongMember = member_with d t i
item_wrong_with d t i rule.WrongKey = about why.WrongKey (wrong_key_of d i)
item_wrong_with d t i rule.WrongEvent = about why.NoSection (find (name_breaks d rule.WrongEvent) (classes_in i))
item_wrong_with d t i _ = priority_with d t i

-- with parameters: two have one name, or one has a declared name
abbrev pub parameter_wrong : Declared → List Name → Wrong
parameter_wrong d ns =
    about_or why.ParameterTwice (first_repeat [] ns)
    (about why.DeclaredTwice (find (name_breaks d rule.DeclaredTwice) ns))

-- with a head that breaks C1
abbrev pub head_twice_with : Declared → Declared → Head → Wrong
head_twice_with d t h =
    about_or why.DeclaredTwice (first_conflict [] t.kinds)
    (about_or why.DeclaredTwice (first_repeat [] t.events) (parameter_wrong d (parameters h)))

-- with a head, by a rule that it breaks
abbrev pub head_wrong_with : Declared → Declared → Head → CheckRule → Wrong
head_wrong_with d t h rule.DeclaredTwice = head_twice_with d t h
head_wrong_with d t h rule.WrongCount = about why.WrongCount (first_of (events_in h))
head_wrong_with d t h rule.WrongEvent = about why.NoEvent (first_of (events_in h))
head_wrong_with d t h _ = about why.SecondMain None
