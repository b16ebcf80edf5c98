-- The rules of items and heads, by tables to which they are added.
use Rattle.std.proofs.Common.{◌≡◌, ◌||◌, ◌&&◌, Bool, true, false, not, List, [], ◌∷◌, ◌++◌, refl, sym, ap, ◌∙◌}
use Rattle.std.proofs.Common.{Option, Some, None}
use Rattle.std.specs.Prelude.{is_some}
use Rattle.std.specs.List.{list_any}
use Rattle.std.proofs.lemmas.List.{map-append}
use Rattle.ss_words.specs.Lists.{Name}
use Rattle.ss_routines.specs.Tree.{Head, MainHead, RoutineHead, EventHead}
use Rattle.ss_routines.specs.Places.{Section}
use Rattle.ss_check.specs.declared.fault.CheckRule.{CheckRule}
use Rattle.ss_check.specs.declared.fault.CheckRule.TheVariants.{DeclaredTwice, WrongClass, WrongOwner, WrongMember}
use Rattle.ss_check.specs.declared.fault.CheckRule.TheVariants.{WrongKey, WrongCount, WrongEvent, WrongMain}
use Rattle.ss_check.specs.declared.fault.CheckRule.TheVariants.{WrongPriority}
use Rattle.ss_check.specs.Facts.{Fact, fact_of, is_among, is_one_outside, names_of, repeats}
use Rattle.ss_check.specs.NameKind.{NameKind}
use Rattle.ss_check.specs.Declarations.{Declared}
use Rattle.ss_check.specs.Increments.{IsOnce, with_item, with_head}
use Rattle.ss_check.specs.Declarations.{HeadedItem, class_of_item, declarations, disciplined_sets, events_in}
use Rattle.ss_check.specs.Declarations.{external_in, is_declared, is_main, sets_joined, members_in, owners_in}
use Rattle.ss_check.specs.Declarations.{parameters, priority_in, routine_facts, sets_in, tied_events}
use Rattle.ss_check.specs.ItemRules.{declares_twice, has_too_many, has_wrong_keys, has_wrong_member, has_wrong_owner}
use Rattle.ss_check.specs.ItemRules.{has_wrong_priority, head_declares_twice, head_rule, is_second_main, item_rule}
use Rattle.ss_check.specs.ItemRules.{joins_system, lacks_class, lacks_section, names_wrong_class, new_sets}
use Rattle.ss_check.specs.NameKinds.{names_set, one_conflicts}
use Rattle.ss_check.specs.Statements.{rule_where, lowest}
use Rattle.ss_check.proofs.Conflicts.{conflict_is}
use Rattle.ss_check.proofs.FactTables.{repeat_is}
use Rattle.ss_check.proofs.Tests.{any_filter}
use Rattle.ss_check.proofs.Wrongs.{conflict_behind, repeat_behind}

-- ---- lists

-- after names without a repeat
pub repeats_behind : (ns ms : List Name) → repeats [] ns ≡ false → repeats [] (ns ++ ms) ≡ repeats ns ms
repeats_behind ns ms h =
    sym (repeat_is [] (ns ++ ms)) ∙ ap (λ (o : Option Name). is_some o) (repeat_behind ns ms h) ∙ repeat_is ns ms

-- after declarations without a conflict
pub conflicts_behind : (fs gs : List (Fact NameKind)) → one_conflicts [] fs ≡ false →
    one_conflicts [] (fs ++ gs) ≡ one_conflicts fs gs
conflicts_behind fs gs h =
    sym (conflict_is [] (fs ++ gs)) ∙ ap (λ (o : Option Name). is_some o) (conflict_behind fs gs h) ∙ conflict_is fs gs

-- after facts without a repeat
pub names_behind : {A : Type 0} (fs gs : List (Fact A)) → repeats [] (names_of fs) ≡ false →
    repeats [] (names_of (fs ++ gs)) ≡ repeats (names_of fs) (names_of gs)
names_behind fs gs h =
    ap (repeats []) (map-append (λ f. f.name) fs gs) ∙ repeats_behind (names_of fs) (names_of gs) h

-- ---- which rules

-- no rule is the lowest: the last one is not broken, and none before it
none_last : (rs : List CheckRule) (r : CheckRule) (b : Bool) → lowest (rs ++ rule_where r b) ≡ None →
    (lowest rs ≡ None) × (b ≡ false)
none_last [] r true h = cc
none_last [] r false h = (refl, refl)
none_last (q ∷ rs) r b h = cc

none_alone : (r : CheckRule) (b : Bool) → lowest (rule_where r b) ≡ None → b ≡ false
none_alone r true h = cc
none_alone r false h = refl

-- neither of two holds
neither : (a b : Bool) → (a || b) ≡ false → (a ≡ false) × (b ≡ false)
neither true b h = cc
neither false b h = (refl, h)

-- ---- items

-- C1, by the tables with the item
twice_is : (d b : Declared) (x : HeadedItem) → IsOnce b →
    (one_conflicts [] (with_item b x).kinds || repeats [] (with_item b x).disciplines || repeats []
    (with_item b x).ties || repeats [] (with_item b x).external)
    ≡ declares_twice d b x
unfolding with_item
twice_is d b x o =
    rw (
      conflicts_behind b.kinds (declarations x) o.kinds,
      repeats_behind b.disciplines (disciplined_sets x.item) o.disciplines,
      repeats_behind b.ties (tied_events x.item) o.ties,
      repeats_behind b.external (external_in x.item) o.external,
    )
    refl

-- a rule after C1 need not be asked if C1 is broken
unless_twice : (twice b : Bool) (f : Bool → Bool → List CheckRule) →
    ((c : Bool) → lowest (f true c) ≡ Some DeclaredTwice) →
    lowest (f twice (not twice && b)) ≡ lowest (f twice b)
unless_twice true b f first = first false ∙ sym (first b)
unless_twice false b f first = refl

-- the lowest rule, by tables with the item; the keys are asked only if nothing is declared twice
pub item_rule_is : (d b t : Declared) (x : HeadedItem) (declared class ownerless memberless keys section order : Bool) →
    IsOnce b → t ≡ with_item b x →
    declared ≡ (one_conflicts [] t.kinds || repeats [] t.disciplines || repeats [] t.ties || repeats [] t.external) →
    class ≡ names_wrong_class d x.heading x.item →
    ownerless ≡ list_any (λ s. not (names_set (fact_of b.kinds s)) && not (is_among s (names_of d.owners)))
    (sets_in x.item) →
    memberless ≡ list_any (λ s. not (names_set (fact_of b.kinds s)) && not (is_among s (names_of d.members)))
    (sets_in x.item) →
    keys ≡ (not declared && has_wrong_keys d x.item) →
    section ≡ lacks_section d b x.item →
    order ≡ has_wrong_priority d b.priority (priority_in x.item) →
    lowest (rule_where DeclaredTwice declared ++ rule_where WrongClass class
    ++ rule_where WrongOwner (ownerless || repeats [] (names_of t.owners))
    ++ rule_where WrongMember (memberless || repeats [] (names_of t.members) || joins_system (class_of_item x.item)
    (sets_joined x.item))
    ++ rule_where WrongKey keys ++ rule_where WrongEvent section ++ rule_where WrongPriority order)
    ≡ item_rule d b x
unfolding item_rule with_item
item_rule_is d b t x declared class ownerless memberless keys section order o e e1 e2 e3 e4 e5 e6 e7 =
    let fresh = any_filter (λ n. not (is_among n (names_of d.owners))) (λ s. not (names_set (fact_of b.kinds s)))
    (sets_in x.item) in
    let alone = any_filter (λ n. not (is_among n (names_of d.members))) (λ s. not (names_set (fact_of b.kinds s)))
    (sets_in x.item) in
    rw (
      e5,
      e1,
      e2,
      e3 ∙ sym fresh,
      e4 ∙ sym alone,
      e6,
      e7,
      e,
      twice_is d b x o,
      names_behind b.owners (owners_in x.item) o.owners,
      names_behind b.members (members_in x.item) o.members,
    )
    (unless_twice (declares_twice d b x) (has_wrong_keys d x.item)
    (λ twice k. rule_where DeclaredTwice twice ++ rule_where WrongClass (names_wrong_class d x.heading x.item)
    ++ rule_where WrongOwner (has_wrong_owner d b x) ++ rule_where WrongMember (has_wrong_member d b x)
    ++ rule_where WrongKey k ++ rule_where WrongEvent (lacks_section d b x.item)
    ++ rule_where WrongPriority (has_wrong_priority d b.priority (priority_in x.item))) (λ c. refl))

-- after an item that breaks no rule nothing is said twice
pub once_behind_item : (d b : Declared) (x : HeadedItem) → IsOnce b → item_rule d b x ≡ None → IsOnce (with_item b x)
unfolding item_rule with_item
once_behind_item d b x o h =
    let c12 = none_last (rule_where DeclaredTwice (declares_twice d b x) ++ rule_where WrongClass
    (names_wrong_class d x.heading x.item) ++ rule_where WrongOwner (has_wrong_owner d b x) ++ rule_where WrongMember
    (has_wrong_member d b x) ++ rule_where WrongKey (has_wrong_keys d x.item) ++ rule_where WrongEvent
    (lacks_section d b x.item)) WrongPriority (has_wrong_priority d b.priority (priority_in x.item)) h in
    let c8 = none_last (rule_where DeclaredTwice (declares_twice d b x) ++ rule_where WrongClass
    (names_wrong_class d x.heading x.item) ++ rule_where WrongOwner (has_wrong_owner d b x) ++ rule_where WrongMember
    (has_wrong_member d b x) ++ rule_where WrongKey (has_wrong_keys d x.item)) WrongEvent
    (lacks_section d b x.item) c12.0 in
    let c6 = none_last (rule_where DeclaredTwice (declares_twice d b x) ++ rule_where WrongClass
    (names_wrong_class d x.heading x.item) ++ rule_where WrongOwner (has_wrong_owner d b x) ++ rule_where WrongMember
    (has_wrong_member d b x)) WrongKey (has_wrong_keys d x.item) c8.0 in
    let c5 = none_last (rule_where DeclaredTwice (declares_twice d b x) ++ rule_where WrongClass
    (names_wrong_class d x.heading x.item) ++ rule_where WrongOwner (has_wrong_owner d b x)) WrongMember
    (has_wrong_member d b x) c6.0 in
    let c4 = none_last (rule_where DeclaredTwice (declares_twice d b x) ++ rule_where WrongClass
    (names_wrong_class d x.heading x.item)) WrongOwner (has_wrong_owner d b x) c5.0 in
    let c2 = none_last (rule_where DeclaredTwice (declares_twice d b x)) WrongClass
    (names_wrong_class d x.heading x.item) c4.0 in
    let c1 = none_alone DeclaredTwice (declares_twice d b x) c2.0 in
    let e = neither (one_conflicts b.kinds (declarations x) || repeats b.disciplines
    (disciplined_sets x.item) || repeats b.ties (tied_events x.item))
    (repeats b.external (external_in x.item)) c1 in
    let t = neither (one_conflicts b.kinds (declarations x) || repeats b.disciplines (disciplined_sets x.item))
    (repeats b.ties (tied_events x.item)) e.0 in
    let c = neither (one_conflicts b.kinds (declarations x)) (repeats b.disciplines (disciplined_sets x.item)) t.0 in
    let w = neither (is_one_outside (names_of d.owners) (new_sets d b x.item))
    (repeats (names_of b.owners) (names_of (owners_in x.item))) c4.1 in
    let m = neither (is_one_outside (names_of d.members) (new_sets d b x.item) || repeats (names_of b.members)
    (names_of (members_in x.item))) (joins_system (class_of_item x.item) (sets_joined x.item)) c5.1 in
    let n = neither (is_one_outside (names_of d.members) (new_sets d b x.item))
    (repeats (names_of b.members) (names_of (members_in x.item))) m.0 in
    record {
      kinds = conflicts_behind b.kinds (declarations x) o.kinds ∙ c.0;
      owners = names_behind b.owners (owners_in x.item) o.owners ∙ w.1;
      members = names_behind b.members (members_in x.item) o.members ∙ n.1;
      disciplines = repeats_behind b.disciplines (disciplined_sets x.item) o.disciplines ∙ c.1;
      ties = repeats_behind b.ties (tied_events x.item) o.ties ∙ t.1;
      external = repeats_behind b.external (external_in x.item) o.external ∙ e.1;
      events = o.events;
    }

-- ---- heads

-- C1 without the parameters, by the tables with the head
head_twice_is : (b : Declared) (h : Head) → IsOnce b →
    (one_conflicts [] (with_head b h).kinds || repeats [] (with_head b h).events)
    ≡ (one_conflicts b.kinds (routine_facts h) || repeats b.events (events_in h))
unfolding with_head
head_twice_is b MainHead o = rw (o.kinds, o.events) refl
head_twice_is b (RoutineHead n given yielded) o =
    rw (conflicts_behind b.kinds (routine_facts (RoutineHead n given yielded)) o.kinds, o.events) refl
head_twice_is b (EventHead n given saving) o =
    rw (o.kinds, repeats_behind b.events (n ∷ []) o.events) refl

-- the lowest rule, by tables with the head
pub head_rule_is : (d b t : Declared) (s : Section) (declared parameter name many class second : Bool) → IsOnce b →
    t ≡ with_head b s.head →
    declared ≡ (one_conflicts [] t.kinds || repeats [] t.events) →
    parameter ≡ repeats [] (parameters s.head) →
    name ≡ list_any (is_declared d) (parameters s.head) →
    many ≡ has_too_many d s.head →
    class ≡ lacks_class d s.head →
    second ≡ (is_main s.head && b.has_main) →
    lowest (rule_where DeclaredTwice
    (declared || parameter || name) ++ rule_where WrongCount many ++ rule_where WrongEvent class ++ rule_where WrongMain
    second)
    ≡ head_rule d b s
unfolding head_rule
head_rule_is d b t s declared parameter name many class second o e e1 e2 e3 e4 e5 e6 =
    rw (e1, e2, e3, e4, e5, e6, e, head_twice_is b s.head o)
    refl

once : (b : Declared) (h : Head) → IsOnce b → one_conflicts b.kinds (routine_facts h) ≡ false →
    repeats b.events (events_in h) ≡ false → IsOnce (with_head b h)
unfolding with_head
once b MainHead o c e = record {
  kinds = o.kinds;
  owners = o.owners;
  members = o.members;
  disciplines = o.disciplines;
  ties = o.ties;
  external = o.external;
  events = o.events;
}
once b (RoutineHead n given yielded) o c e =
    record {
      kinds = conflicts_behind b.kinds (routine_facts (RoutineHead n given yielded)) o.kinds ∙ c;
      owners = o.owners;
      members = o.members;
      disciplines = o.disciplines;
      ties = o.ties;
      external = o.external;
      events = o.events;
    }
once b (EventHead n given saving) o c e =
    record {
      kinds = o.kinds;
      owners = o.owners;
      members = o.members;
      disciplines = o.disciplines;
      ties = o.ties;
      external = o.external;
      events = repeats_behind b.events (n ∷ []) o.events ∙ e;
    }

-- after a head that breaks no rule nothing is said twice
pub once_behind_head : (d b : Declared) (s : Section) → IsOnce b → head_rule d b s ≡ None → IsOnce (with_head b s.head)
unfolding head_rule
once_behind_head d b s o h =
    let c11 = none_last (rule_where DeclaredTwice (head_declares_twice d b s.head) ++ rule_where WrongCount
    (has_too_many d s.head) ++ rule_where WrongEvent (lacks_class d s.head)) WrongMain
    (is_second_main d b s.head) h in
    let c8 = none_last (rule_where DeclaredTwice (head_declares_twice d b s.head) ++ rule_where WrongCount
    (has_too_many d s.head)) WrongEvent (lacks_class d s.head) c11.0 in
    let c7 = none_last (rule_where DeclaredTwice (head_declares_twice d b s.head)) WrongCount
    (has_too_many d s.head) c8.0 in
    let c1 = none_alone DeclaredTwice (head_declares_twice d b s.head) c7.0 in
    let n = neither (one_conflicts b.kinds (routine_facts s.head) || repeats b.events
    (events_in s.head) || repeats [] (parameters s.head)) (list_any (is_declared d) (parameters s.head)) c1 in
    let p = neither (one_conflicts b.kinds (routine_facts s.head) || repeats b.events (events_in s.head))
    (repeats [] (parameters s.head)) n.0 in
    let c = neither (one_conflicts b.kinds (routine_facts s.head)) (repeats b.events (events_in s.head)) p.0 in
    once b s.head o c.0 c.1
