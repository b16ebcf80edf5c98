-- The rules that items of the preamble, heads of sections and local DEFINEs break.
use Rattle.std.specs.Prelude.{Bool, true, false, not, ◌||◌, ◌&&◌, nat_lt, List, [], ◌∷◌, ◌++◌, length, Option, Some}
use Rattle.std.specs.Prelude.{None, is_none, option_map}
use Rattle.std.specs.List.{list_any, filter, find}
use Rattle.ss_words.specs.Lists.{Name, all_of}
use Rattle.ss_preamble.specs.declared.item.Heading.{Heading}
use Rattle.ss_preamble.specs.Tree.{Key, SetDiscipline, Ranked, EventRule, BreakTies, ExternalEvents, Item, OfEvery}
use Rattle.ss_preamble.specs.Tree.{Definition, Defines, Orders, Sets, Variables}
use Rattle.ss_routines.specs.Tree.{Head}
use Rattle.ss_routines.specs.Places.{LocalNames, Section}
use Rattle.ss_check.specs.declared.fault.CheckRule.{CheckRule}
use Rattle.ss_check.specs.declared.fault.CheckRule.TheVariants.{DeclaredTwice, WrongClass, WrongOwner, WrongMember}
use Rattle.ss_check.specs.declared.fault.CheckRule.TheVariants.{WrongKey, WrongCount, WrongEvent, WrongMain}
use Rattle.ss_check.specs.declared.fault.CheckRule.TheVariants.{WrongPriority}
use Rattle.ss_check.specs.NameKind.{NameKind}
use Rattle.ss_check.specs.Declarations.{Declared}
use Rattle.ss_check.specs.declared.fault.CheckRule.TheVariants as rule
use Rattle.ss_check.specs.declared.wrong.Reason.TheVariants as why
use Rattle.ss_check.specs.declared.wrong.Wrong.{Wrong}
use Rattle.ss_check.specs.Facts.{Fact, is_among, repeats, first_repeat, first_of, is_one_outside, fact_of, names_of}
use Rattle.ss_check.specs.NameKinds.{one_conflicts, first_conflict, names_set}
use Rattle.ss_check.specs.Declarations.{HeadedItem, class_of_item, declarations, owners_in, sets_joined, members_in}
use Rattle.ss_check.specs.Declarations.{disciplined_sets, disciplines_in, sets_in, tied_events, ties_in, external_in}
use Rattle.ss_check.specs.Declarations.{priority_in, classes_in, given_of, parameters, is_main, routine_facts}
use Rattle.ss_check.specs.Declarations.{events_in, kind_of, is_declared, attribute_count, is_event_class}
use Rattle.ss_check.specs.ResolvedNames.{attributes_of}
use Rattle.ss_check.specs.Statements.{Statement, about, about_or, rule_where, lowest}

-- BELONGS without a class
abbrev pub joins_system : Option Name → List Name → Bool
joins_system None (s ∷ ss) = true
joins_system _ _ = false

-- ---- the rules that the whole program decides; d: its declarations

module _ (d : Declared) where
  -- whether BREAK or EXTERNAL names no event class
  abbrev pub orders_wrong_class : EventRule → Bool
  orders_wrong_class (BreakTies c keys) = not (is_event_class d c)
  orders_wrong_class (ExternalEvents names) = list_any (λ c. not (is_event_class d c)) (all_of names)
  orders_wrong_class _ = false

  -- C2: EVERY under no heading; BREAK or EXTERNAL of no event class
  abbrev pub names_wrong_class : Option Heading → Item → Bool
  names_wrong_class h (OfEvery c clauses) = is_none h
  names_wrong_class h (Orders r) = orders_wrong_class r
  names_wrong_class h _ = false

  -- whether a key is none of the attributes that the HAS clauses of a class write, whatever else it is declared as
  abbrev pub is_wrong_key : Name → Key → Bool
  is_wrong_key c k = not (is_among k.name (attributes_of d c))

  -- whether one of several is; keys without a class are wrong
  abbrev pub has_wrong_key : Option Name → List Key → Bool
  has_wrong_key None keys = true
  has_wrong_key (Some c) keys = list_any (is_wrong_key c) keys

  -- whether a key of a discipline is no attribute of the member class
  abbrev pub has_wrong_rank : Option Name → SetDiscipline → Bool
  has_wrong_rank c (Ranked keys) = has_wrong_key c (all_of keys)
  has_wrong_rank c _ = false

  -- C6: a rank key that is no attribute of the member class; a tie key that is none of the event
  abbrev pub has_wrong_keys : Item → Bool
  has_wrong_keys i =
      list_any (λ s. has_wrong_rank (fact_of d.members s.name) s.what) (disciplines_in i) ||
      list_any (λ s. has_wrong_key (Some s.name) s.what) (ties_in i)

  -- an event class without its section
  abbrev pub is_without_section : Name → Bool
  is_without_section c = is_event_class d c && not (is_among c d.events)

  -- C12: a second PRIORITY, after one that names `before`; a name twice in it or of no event class
  abbrev pub has_wrong_priority : List Name → List Name → Bool
  has_wrong_priority before [] = false
  has_wrong_priority (c ∷ cs) names = true
  has_wrong_priority [] names = repeats [] names || list_any (λ c. not (is_event_class d c)) names

  -- whether an event class has less attributes than these names
  abbrev pub has_fewer : List Name → Name → Bool
  has_fewer names c = is_event_class d c && nat_lt (attribute_count d c) (length names)

  -- C7: more parameters than the event class has attributes
  abbrev pub has_too_many : Head → Bool
  has_too_many h = list_any (has_fewer (given_of h)) (events_in h)

  -- C8: a section of no event class
  abbrev pub lacks_class : Head → Bool
  lacks_class h = list_any (λ c. not (is_event_class d c)) (events_in h)

  -- ---- what is wrong, by the rule that is broken

  -- a name that breaks this rule by itself, if an item, a parameter or a local DEFINE names it
  abbrev pub name_breaks : CheckRule → Name → Bool
  name_breaks rule.DeclaredTwice n = is_declared d n
  name_breaks rule.WrongClass n = not (is_event_class d n)
  name_breaks rule.WrongOwner n = not (is_among n (names_of d.owners))
  name_breaks rule.WrongMember n = not (is_among n (names_of d.members))
  name_breaks rule.WrongEvent n = is_without_section n
  name_breaks rule.WrongPriority n = not (is_event_class d n)
  name_breaks _ n = false

  -- the first wrong one of several keys of a class; without a class the first one
  abbrev pub wrong_key : Option Name → List Key → Option Name
  wrong_key None [] = None
  wrong_key None (k ∷ ks) = Some k.name
  wrong_key (Some c) keys = option_map (λ k. k.name) (find (is_wrong_key c) keys)

  -- the first wrong key of a discipline of sets whose members are of this class
  abbrev pub wrong_rank : Option Name → SetDiscipline → Option Name
  wrong_rank c (Ranked keys) = wrong_key c (all_of keys)
  wrong_rank c _ = None

  -- the first wrong key of a set of this discipline
  abbrev pub wrong_rank_of : SetDiscipline → Option Name → Option Name
  wrong_rank_of kind (Some s) = wrong_rank (fact_of d.members s) kind
  wrong_rank_of kind None = None

  -- the first wrong key of a DEFINE: of its first set that has one
  abbrev pub wrong_set_key : Definition → Option Name
  wrong_set_key (Variables names) = None
  wrong_set_key (Sets names kind) =
      wrong_rank_of kind (find (λ s. has_wrong_rank (fact_of d.members s) kind) (all_of names))

  -- the first wrong key of the ties that an item breaks
  abbrev pub wrong_tie_key : EventRule → Option Name
  wrong_tie_key (BreakTies c keys) = wrong_key (Some c) (all_of keys)
  wrong_tie_key _ = None

  -- the first wrong key of an item
  abbrev pub wrong_key_of : Item → Option Name
  wrong_key_of (Defines s) = wrong_set_key s
  wrong_key_of (Orders r) = wrong_tie_key r
  wrong_key_of _ = None

-- ---- items and heads after others; d: all declarations of the program; b: those before

module _ (d b : Declared) where
  -- C1: a name that is declared before, a second discipline, a second BREAK, an external class a second time
  abbrev pub declares_twice : HeadedItem → Bool
  declares_twice x =
      one_conflicts b.kinds (declarations x) ||
      repeats b.disciplines (disciplined_sets x.item) ||
      repeats b.ties (tied_events x.item) ||
      repeats b.external (external_in x.item)

  -- the sets that an item names first
  abbrev pub new_sets : Item → List Name
  new_sets i = filter (λ s. not (names_set (kind_of b s))) (sets_in i)

  -- C4: a set, here named first, with no OWNS; a second OWNS
  abbrev pub has_wrong_owner : HeadedItem → Bool
  has_wrong_owner x =
      is_one_outside (names_of d.owners) (new_sets x.item) || repeats (names_of b.owners) (names_of (owners_in x.item))

  -- C5: a set, here named first, with no BELONGS of a class; a second one; a BELONGS of SYSTEM
  abbrev pub has_wrong_member : HeadedItem → Bool
  has_wrong_member x =
      is_one_outside (names_of d.members) (new_sets x.item) ||
      repeats (names_of b.members) (names_of (members_in x.item)) ||
      joins_system (class_of_item x.item) (sets_joined x.item)

  -- C8: an event class without its section, here named first
  abbrev pub lacks_section : Item → Bool
  lacks_section i = list_any (λ c. not (is_among c b.classes) && is_without_section d c) (classes_in i)

  -- what is wrong with an item that breaks C1
  abbrev pub item_twice : Item → List (Fact NameKind) → Wrong
  item_twice i facts =
      about_or why.DeclaredTwice (first_conflict b.kinds facts)
      (about_or why.DisciplinedTwice (first_repeat b.disciplines (disciplined_sets i))
      (about_or why.BrokenTwice (first_repeat b.ties (tied_events i))
      (about why.ExternalTwice (first_repeat b.external (external_in i)))))

  -- C4
  abbrev pub wrong_owner : Item → Wrong
  wrong_owner i =
      about_or why.Ownerless (find (name_breaks d rule.WrongOwner) (sets_in i))
      (about why.OwnedTwice (first_repeat (names_of b.owners) (names_of (owners_in i))))

  -- C5
  abbrev pub wrong_member : Item → Wrong
  wrong_member i =
      about_or why.Memberless (find (name_breaks d rule.WrongMember) (sets_in i))
      (about_or why.JoinedTwice (first_repeat (names_of b.members) (names_of (members_in i)))
      (about why.JoinedBySystem (first_of (sets_joined i))))

  -- C12, after a PRIORITY that names these
  abbrev pub wrong_priority : List Name → Item → Wrong
  wrong_priority (c ∷ cs) i = about why.SecondPriority None
  wrong_priority [] i =
      about_or why.OrderedTwice (first_repeat [] (priority_in i))
      (about why.NoEvent (find (name_breaks d rule.WrongPriority) (priority_in i)))

  -- what is wrong with an item, by a rule that it breaks
  abbrev pub item_wrong : HeadedItem → CheckRule → Wrong
  item_wrong x rule.DeclaredTwice = item_twice x.item (declarations x)
  item_wrong x rule.WrongClass = about why.WrongClass (find (name_breaks d rule.WrongClass) (classes_in x.item))
  item_wrong x rule.WrongOwner = wrong_owner x.item
  item_wrong x rule.WrongMember = wrong_member x.item
  item_wrong x rule.WrongKey = about why.WrongKey (wrong_key_of d x.item)
  item_wrong x rule.WrongEvent = about why.NoSection (find (name_breaks d rule.WrongEvent) (classes_in x.item))
  item_wrong x _ = wrong_priority b.priority x.item

  -- an item with the rules that it breaks
  abbrev pub item_statement : HeadedItem → Statement
  item_statement x = record {
    line = x.line;
    breaks =
        rule_where DeclaredTwice (declares_twice x) ++
        rule_where WrongClass (names_wrong_class d x.heading x.item) ++
        rule_where WrongOwner (has_wrong_owner x) ++
        rule_where WrongMember (has_wrong_member x) ++
        rule_where WrongKey (has_wrong_keys d x.item) ++
        rule_where WrongEvent (lacks_section x.item) ++
        rule_where WrongPriority (has_wrong_priority d b.priority (priority_in x.item));
    wrong = item_wrong x;
  }

  -- the lowest rule that an item breaks
  unfoldable pub item_rule : HeadedItem → Option CheckRule
  item_rule x = lowest (item_statement x).breaks

  -- C1: a routine declared before, a second section of an event class, a parameter that is declared or given twice
  abbrev pub head_declares_twice : Head → Bool
  head_declares_twice h =
      one_conflicts b.kinds (routine_facts h) ||
      repeats b.events (events_in h) ||
      repeats [] (parameters h) ||
      list_any (is_declared d) (parameters h)

  -- C11: a second MAIN
  abbrev pub is_second_main : Head → Bool
  is_second_main h = is_main h && b.has_main

  -- what is wrong with a head that breaks C1
  abbrev pub head_twice : Head → Wrong
  head_twice h =
      about_or why.DeclaredTwice (first_conflict b.kinds (routine_facts h))
      (about_or why.DeclaredTwice (first_repeat b.events (events_in h))
      (about_or why.ParameterTwice (first_repeat [] (parameters h))
      (about why.DeclaredTwice (find (name_breaks d rule.DeclaredTwice) (parameters h)))))

  -- what is wrong with the head of a section, by a rule that it breaks
  abbrev pub head_wrong : Head → CheckRule → Wrong
  head_wrong h rule.DeclaredTwice = head_twice h
  head_wrong h rule.WrongCount = about why.WrongCount (first_of (events_in h))
  head_wrong h rule.WrongEvent = about why.NoEvent (first_of (events_in h))
  head_wrong h _ = about why.SecondMain None

  -- the head of a section with the rules that it breaks
  abbrev pub head_statement : Section → Statement
  head_statement s = record {
    line = s.line;
    breaks =
        rule_where DeclaredTwice (head_declares_twice s.head) ++
        rule_where WrongCount (has_too_many d s.head) ++
        rule_where WrongEvent (lacks_class d s.head) ++
        rule_where WrongMain (is_second_main s.head);
    wrong = head_wrong s.head;
  }

  -- the lowest rule that the head of a section breaks
  unfoldable pub head_rule : Section → Option CheckRule
  head_rule s = lowest (head_statement s).breaks

-- what is wrong with a local DEFINE that breaks C1
abbrev pub local_wrong : Declared → LocalNames → Wrong
local_wrong declared locals =
    about why.DeclaredTwice (find (name_breaks declared rule.DeclaredTwice) (all_of locals.names))

-- a local DEFINE with the rules that it breaks; C1: a name that is declared
abbrev pub local_statement : Declared → LocalNames → Statement
local_statement declared locals =
    record {
      line = locals.line;
      breaks = rule_where DeclaredTwice (list_any (is_declared declared) (all_of locals.names));
      wrong = λ broken. local_wrong declared locals;
    }

-- the lowest rule that a local DEFINE breaks
unfoldable pub local_rule : Declared → LocalNames → Option CheckRule
local_rule declared locals = lowest (local_statement declared locals).breaks
