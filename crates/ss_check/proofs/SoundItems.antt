-- The rules that the items of a program without a breach keep, taken together.
use Rattle.std.proofs.Common.{◌≡◌, ◌⊎◌, Bool, true, false, not, ◌&&◌, cond, List, [], ◌∷◌, ◌++◌, refl, sym, ap, ◌∙◌}
use Rattle.std.proofs.Common.{subst, Option, Some, None, append_assoc}
use Rattle.std.specs.Prelude.{map}
use Rattle.std.specs.List.{flat_map, filter, list_any}
use mathlib.Core.Logic.{inl, inr}
use Rattle.std.proofs.lemmas.Bool.{true≢false, false≢true, or_parts, not-false}
use Rattle.std.proofs.lemmas.Cmp.{nat_list_eq_equiv}
use Rattle.std.proofs.lemmas.Grind.{flat_map-append}
use Rattle.std.proofs.lemmas.Map.Keys.{IsDistinct-push}
use Rattle.std.proofs.lemmas.Option.{none-some}
use Rattle.ss_words.specs.Lists.{Name}
use Rattle.ss_preamble.specs.Tree.{Key, SetDiscipline, Item}
use Rattle.ss_routines.specs.Tree.{Head, MainHead, RoutineHead, EventHead}
use Rattle.ss_check.specs.Facts.{Fact, is_among, repeats, is_one_outside, fact, fact_of, names_of}
use Rattle.ss_check.specs.NameKind.{NameKind}
use Rattle.ss_check.specs.NameKind as k
use Rattle.ss_check.specs.Declarations.{Declared}
use Rattle.ss_check.specs.NameKinds.{language_facts, conflicts, one_conflicts, is_attribute_of, names_set}
use Rattle.ss_check.specs.Declarations.{HeadedItem, declarations, disciplines_in, ties_in, sets_in, classes_in}
use Rattle.ss_check.specs.Declarations.{priority_in, routine_facts, declared_by, kind_of, is_event_class}
use Rattle.ss_check.specs.ItemRules.{new_sets, has_wrong_key, has_wrong_rank, has_wrong_keys, has_wrong_priority}
use Rattle.ss_check.specs.ItemRules.{is_without_section}
use Rattle.ss_check.specs.ResolvedNames.{names_where}
use Rattle.ss_check.proofs.SoundLists.{In, in_split, in_any, none_in, in_filter, in_among, among_in, fact_in}
use Rattle.ss_check.proofs.SoundLists.{fact_there, where_from, AreApart, in_map}
use Rattle.ss_check.proofs.SoundCompanions.{Facts, closed_entry, declared}
use Rattle.ss_check.proofs.SoundStatements.{IsItemKept, AreItemsKept}

pub nothing_more : {X : Type 0} (xs : List X) → xs ++ [] ≡ xs
nothing_more [] = refl
nothing_more (x ∷ xs) = ap (λ ys. x ∷ ys) (nothing_more xs)

-- pieces with one more piece after them
pub flat_more : {X Y : Type 0} (f : X → List Y) (xs : List X) (x : X) → flat_map f (xs ++ x ∷ []) ≡ flat_map f xs ++ f x
flat_more {Y = Y} f xs x =
    flat_map-append f xs (x ∷ []) ∙ ap (λ (ys : List Y). flat_map f xs ++ ys) (nothing_more (f x))

in_more : {X Y : Type 0} (f : X → List Y) (y : Y) (xs : List X) (x : X) → In y (flat_map f (xs ++ x ∷ [])) →
    In y (flat_map f xs) ⊎ In y (f x)
in_more f y xs x h = in_split y (flat_map f xs) (f x) (subst (λ zs. In y zs) (flat_more f xs x) h)

-- each item is kept
pub item_at : (d : Declared) (before xs : List HeadedItem) (x : HeadedItem) → AreItemsKept d before xs → In x xs →
    (b : Declared) × IsItemKept d b x
item_at d before [] x h i = absurd i
item_at d before (y ∷ ys) x h (inl e) =
    (declared_by before [], subst (λ (z : HeadedItem). IsItemKept d (declared_by before []) z) (sym e) h.0)
item_at d before (y ∷ ys) x h (inr i) = item_at d (before ++ y ∷ []) ys x h.1 i

-- ---- sets have owners and members

set_by : (n : Name) (j : Option NameKind) → names_set j ≡ true → j ≡ Some k.Set
set_by n (Some k.Set) h = refl
set_by n None h = absurd (false≢true h)
set_by n (Some k.Variable) h = absurd (false≢true h)
set_by n (Some k.ClassCount) h = absurd (false≢true h)
set_by n (Some (k.Class g)) h = absurd (false≢true h)
set_by n (Some (k.Attribute c)) h = absurd (false≢true h)
set_by n (Some (k.OwnerKept q s)) h = absurd (false≢true h)
set_by n (Some (k.MemberKept q s)) h = absurd (false≢true h)
set_by n (Some (k.Function f)) h = absurd (false≢true h)
set_by n (Some k.Clock) h = absurd (false≢true h)
set_by n (Some k.Routine) h = absurd (false≢true h)

abbrev pub names_a_set : Fact NameKind → Bool
names_a_set f = names_set (Some f.what)

-- the language declares no set
pub not_of_language : (s : Name) → In (fact s k.Set) language_facts → ⊥
not_of_language s h =
    let t : list_any names_a_set language_facts ≡ true = in_any names_a_set (fact s k.Set) language_facts h refl in
    absurd (false≢true t)

-- nothing but items declares sets
set_of_items : (xs : List HeadedItem) (s : Name) → In (fact s k.Set) (declared_by xs []).kinds →
    In (fact s k.Set) (declared xs)
set_of_items xs s h = last (in_split (fact s k.Set) (language_facts ++ declared xs) [] h)
  where
    first : In (fact s k.Set) language_facts ⊎ In (fact s k.Set) (declared xs) → In (fact s k.Set) (declared xs)
    first (inl a) = absurd (not_of_language s a)
    first (inr b) = b

    last : In (fact s k.Set) (language_facts ++ declared xs) ⊎ In (fact s k.Set) [] → In (fact s k.Set) (declared xs)
    last (inl a) = first (in_split (fact s k.Set) language_facts (declared xs) a)
    last (inr b) = absurd b

-- each set is among these names
abbrev AreSetsAmong : List Name → List HeadedItem → Type 0
AreSetsAmong ns xs = (s : Name) → In (fact s k.Set) (declared xs) → is_among s ns ≡ true

-- and so is each set at the item that first names it
abbrev AreNewAmong : Declared → List Name → List HeadedItem → List HeadedItem → Type 0
AreNewAmong d ns before [] = Unit {0}
AreNewAmong d ns before (x ∷ xs) =
    (is_one_outside ns (new_sets d (declared_by before []) x.item) ≡ false) × AreNewAmong d ns (before ++ x ∷ []) xs

module _ (d : Declared) (ns : List Name) where
  new_set : (before : List HeadedItem) (x : HeadedItem) (s : Name) → AreSetsAmong ns before →
      is_one_outside ns (new_sets d (declared_by before []) x.item) ≡ false → In s (sets_in x.item) → (b : Bool) →
      names_set (kind_of (declared_by before []) s) ≡ b → is_among s ns ≡ true
  new_set before x s m h i true e =
      m s (set_of_items before s
      (fact_in (declared_by before []).kinds s k.Set (set_by s (kind_of (declared_by before []) s) e)))
  new_set before x s m h i false e =
      let new = in_filter (λ n. not (names_set (kind_of (declared_by before []) n))) s (sets_in x.item) i (ap not e) in
      not-false (is_among s ns) (none_in (λ n. not (is_among n ns)) s (new_sets d (declared_by before []) x.item) h new)

  sets_among : (before xs : List HeadedItem) → AreNewAmong d ns before xs → AreSetsAmong ns before →
      AreSetsAmong ns (before ++ xs)
  sets_among before [] h m = subst (AreSetsAmong ns) (sym (nothing_more before)) m
  sets_among before (x ∷ xs) h m =
      subst (AreSetsAmong ns) (append_assoc before (x ∷ []) xs) (sets_among (before ++ x ∷ []) xs h.1 more)
    where
      more : AreSetsAmong ns (before ++ x ∷ [])
      more s i = by (in_more declarations (fact s k.Set) before x i)
        where
          by : In (fact s k.Set) (declared before) ⊎ In (fact s k.Set) (declarations x) → is_among s ns ≡ true
          by (inl a) = m s a
          by (inr b) =
              let named = closed_entry x (fact s k.Set) b in
              new_set before x s m h.0 named (names_set (kind_of (declared_by before []) s)) refl

owners_new : (d : Declared) (before xs : List HeadedItem) → AreItemsKept d before xs →
    AreNewAmong d (names_of d.owners) before xs
owners_new d before [] h = tt
owners_new d before (x ∷ xs) h = let i = h.0 in (i.owner, owners_new d (before ++ x ∷ []) xs h.1)

members_new : (d : Declared) (before xs : List HeadedItem) → AreItemsKept d before xs →
    AreNewAmong d (names_of d.members) before xs
members_new d before [] h = tt
members_new d before (x ∷ xs) h = let i = h.0 in (i.member, members_new d (before ++ x ∷ []) xs h.1)

-- each set that is declared has an owner, and members
pub sets_have_owners : (d : Declared) (xs : List HeadedItem) → AreItemsKept d [] xs → (s : Name) →
    In (fact s k.Set) (declared xs) → is_among s (names_of d.owners) ≡ true
sets_have_owners d xs h = sets_among d (names_of d.owners) [] xs (owners_new d [] xs h) (λ s i. absurd i)

pub sets_have_members : (d : Declared) (xs : List HeadedItem) → AreItemsKept d [] xs → (s : Name) →
    In (fact s k.Set) (declared xs) →
    is_among s (names_of d.members) ≡ true
sets_have_members d xs h = sets_among d (names_of d.members) [] xs (members_new d [] xs h) (λ s i. absurd i)

-- ---- keys

-- the keys that rank a set, and those that break ties, are attributes
pub right_ranks : (d b : Declared) (i : Item) (n : Name) (kind : SetDiscipline) → has_wrong_keys d i ≡ false →
    In (fact n kind) (disciplines_in i) → has_wrong_rank d (fact_of d.members n) kind ≡ false
right_ranks d b i n kind h x =
    let ranks = list_any (λ s. has_wrong_rank d (fact_of d.members s.name) s.what) (disciplines_in i) in
    let ties = list_any (λ s. has_wrong_key d (Some s.name) s.what) (ties_in i) in
    none_in (λ s. has_wrong_rank d (fact_of d.members s.name) s.what) (fact n kind) (disciplines_in i)
    (or_parts ranks ties h).0 x

pub right_ties : (d b : Declared) (i : Item) (n : Name) (keys : List Key) → has_wrong_keys d i ≡ false →
    In (fact n keys) (ties_in i) → has_wrong_key d (Some n) keys ≡ false
right_ties d b i n keys h x =
    let ranks = list_any (λ s. has_wrong_rank d (fact_of d.members s.name) s.what) (disciplines_in i) in
    let ties = list_any (λ s. has_wrong_key d (Some s.name) s.what) (ties_in i) in
    none_in (λ s. has_wrong_key d (Some s.name) s.what) (fact n keys) (ties_in i) (or_parts ranks ties h).1 x

-- ---- event classes have sections

abbrev named_classes : List HeadedItem → List Name
named_classes xs = flat_map (λ x. classes_in x.item) xs

abbrev HaveSections : Declared → List HeadedItem → Type 0
HaveSections d xs = (c : Name) → In c (named_classes xs) → is_event_class d c ≡ true → is_among c d.events ≡ true

section_by : (a e s : Bool) → (not a && (e && not s)) ≡ false → (a ≡ true → s ≡ true) → e ≡ true → s ≡ true
section_by true e s h f g = f refl
section_by false true true h f g = refl
section_by false true false h f g = absurd (true≢false h)
section_by false false s h f g = absurd (false≢true g)

sections_kept : (d : Declared) (before xs : List HeadedItem) → AreItemsKept d before xs → HaveSections d before →
    HaveSections d (before ++ xs)
sections_kept d before [] h m = subst (HaveSections d) (sym (nothing_more before)) m
sections_kept d before (x ∷ xs) h m =
    subst (HaveSections d) (append_assoc before (x ∷ []) xs) (sections_kept d (before ++ x ∷ []) xs h.1 more)
  where
    more : HaveSections d (before ++ x ∷ [])
    more c i e = by (in_more (λ y. classes_in y.item) c before x i)
      where
        by : In c (named_classes before) ⊎ In c (classes_in x.item) → is_among c d.events ≡ true
        by (inl a) = m c a e
        by (inr b) =
            section_by (is_among c (named_classes before)) (is_event_class d c) (is_among c d.events)
            (none_in (λ c. not (is_among c (named_classes before)) && is_without_section d c) c
            (classes_in x.item) h.0.event b)
            (λ t. m c (among_in c (named_classes before) t) e) e

-- each event class that is named has a section
pub events_have_sections : (d : Declared) (xs : List HeadedItem) → AreItemsKept d [] xs → (c : Name) →
    In c (named_classes xs) →
    is_event_class d c ≡ true → is_among c d.events ≡ true
events_have_sections d xs h = sections_kept d [] xs h (λ c i e. absurd i)

-- ---- priority

pub record IsPriority (d : Declared) (ns : List Name) : Type 0 where
  pub once : repeats [] ns ≡ false
  pub events : list_any (λ c. not (is_event_class d c)) ns ≡ false

one_priority : (d b : Declared) (before ns : List Name) → has_wrong_priority d before ns ≡ false →
    IsPriority d before →
    IsPriority d (before ++ ns)
one_priority d b before [] h p = rw (nothing_more before) p
one_priority d b (c ∷ cs) (n ∷ ns) h p = absurd (true≢false h)
one_priority d b [] (n ∷ ns) h p =
    let q = or_parts (repeats [] (n ∷ ns)) (list_any (λ c. not (is_event_class d c)) (n ∷ ns)) h in
    record { once = q.0; events = q.1 }

abbrev priorities : List HeadedItem → List Name
priorities xs = flat_map (λ x. priority_in x.item) xs

priorities_kept : (d : Declared) (before xs : List HeadedItem) → AreItemsKept d before xs →
    IsPriority d (priorities before) →
    IsPriority d (priorities (before ++ xs))
priorities_kept d before [] h p = rw (nothing_more before) p
priorities_kept d before (x ∷ xs) h p =
    let e : priorities (before ++ x ∷ []) ≡ priorities before ++ priority_in x.item =
    flat_more (λ y. priority_in y.item) before x in
    let a = h.0 in
    subst (λ (ys : List HeadedItem). IsPriority d (priorities ys)) (append_assoc before (x ∷ []) xs)
    (priorities_kept d (before ++ x ∷ []) xs h.1
    (subst (IsPriority d) (sym e)
    (one_priority d (declared_by before []) (priorities before) (priority_in x.item) a.priority p)))

pub priority_kept : (d : Declared) (xs : List HeadedItem) → AreItemsKept d [] xs → IsPriority d (priorities xs)
priority_kept d xs h = priorities_kept d [] xs h (record { once = refl; events = refl })

-- ---- attributes

module _ (c : Name) where
  abbrev attributes : Facts → List Name
  attributes fs = names_where (is_attribute_of c) fs

  pub attributes_both : (xs ys : Facts) → attributes (xs ++ ys) ≡ attributes xs ++ attributes ys
  attributes_both [] ys = refl
  attributes_both (f ∷ fs) ys = by (is_attribute_of c f.what) (attributes_both fs ys)
    where
      by : (b : Bool) → attributes (fs ++ ys) ≡ attributes fs ++ attributes ys →
          map (λ (g : Fact NameKind). g.name)
          (cond b (f ∷ filter (λ (g : Fact NameKind). is_attribute_of c g.what) (fs ++ ys))
          (filter (λ (g : Fact NameKind). is_attribute_of c g.what) (fs ++ ys)))
          ≡ map (λ (g : Fact NameKind). g.name)
          (cond b (f ∷ filter (λ (g : Fact NameKind). is_attribute_of c g.what) fs)
          (filter (λ (g : Fact NameKind). is_attribute_of c g.what) fs)) ++ attributes ys
      by true e = ap (λ (ns : List Name). f.name ∷ ns) e
      by false e = e

  -- a declaration before that conflicts with an attribute
  attribute_conflicts : (o : Option NameKind) (j : NameKind) → is_attribute_of c j ≡ true → conflicts o j ≡ false →
      o ≡ None
  attribute_conflicts None j a h = refl
  attribute_conflicts (Some i) (k.Attribute b) a h = by i h
    where
      by : (i : NameKind) → not (Rattle.ss_check.specs.NameKinds.may_repeat i (k.Attribute b)) ≡ false → Some i ≡ None
      by k.Variable h = absurd (true≢false h)
      by k.ClassCount h = absurd (true≢false h)
      by (k.Class g) h = absurd (true≢false h)
      by (k.Attribute e) h = absurd (true≢false h)
      by (k.OwnerKept q s) h = absurd (true≢false h)
      by (k.MemberKept q s) h = absurd (true≢false h)
      by (k.Function f) h = absurd (true≢false h)
      by k.Clock h = absurd (true≢false h)
      by k.Set h = absurd (true≢false h)
      by k.Routine h = absurd (true≢false h)
  attribute_conflicts (Some i) k.Variable a h = absurd (false≢true a)
  attribute_conflicts (Some i) k.ClassCount a h = absurd (false≢true a)
  attribute_conflicts (Some i) (k.Class g) a h = absurd (false≢true a)
  attribute_conflicts (Some i) (k.OwnerKept q s) a h = absurd (false≢true a)
  attribute_conflicts (Some i) (k.MemberKept q s) a h = absurd (false≢true a)
  attribute_conflicts (Some i) (k.Function f) a h = absurd (false≢true a)
  attribute_conflicts (Some i) k.Clock a h = absurd (false≢true a)
  attribute_conflicts (Some i) k.Set a h = absurd (false≢true a)
  attribute_conflicts (Some i) k.Routine a h = absurd (false≢true a)

  -- a name without a fact is no attribute
  not_attribute : (before : Facts) (n : Name) → fact_of before n ≡ None → (b : Bool) →
      is_among n (attributes before) ≡ b → b ≡ false
  not_attribute before n e false h = refl
  not_attribute before n e true h =
      let p = where_from (is_attribute_of c) n before (among_in n (attributes before) h) in
      let q = fact_there before n
      (in_among n (names_of before) (in_map (λ (f : Fact NameKind). f.name) (fact n p.what) before p.there)) in
      let z : None ≡ Some q.0 = sym e ∙ q.1 in absurd (none-some q.0 z)

  one_attribute : (before : Facts) (f : Fact NameKind) → conflicts (fact_of before f.name) f.what ≡ false →
      AreApart (attributes before) →
      AreApart (attributes (before ++ f ∷ []))
  one_attribute before f h a = rw (attributes_both before (f ∷ [])) (by (is_attribute_of c f.what) refl)
    where
      by : (b : Bool) → is_attribute_of c f.what ≡ b →
          AreApart (attributes before ++ map (λ (g : Fact NameKind). g.name) (cond b (f ∷ []) []))
      by true e =
          IsDistinct-push nat_list_eq_equiv (attributes before) f.name a
          (not_attribute before f.name (attribute_conflicts (fact_of before f.name) f.what e h)
          (is_among f.name (attributes before)) refl)
      by false e = rw (nothing_more (attributes before)) a

  attributes_kept : (fs before : Facts) → one_conflicts before fs ≡ false → AreApart (attributes before) →
      AreApart (attributes (before ++ fs))
  attributes_kept [] before h a = rw (nothing_more before) a
  attributes_kept (f ∷ fs) before h a =
      let p = or_parts (conflicts (fact_of before f.name) f.what) (one_conflicts (before ++ f ∷ []) fs) h in
      subst (λ (gs : Facts). AreApart (attributes gs)) (append_assoc before (f ∷ []) fs)
      (attributes_kept fs (before ++ f ∷ []) p.1 (one_attribute before f p.0 a))

  items_apart : (d : Declared) (before xs : List HeadedItem) → AreItemsKept d before xs →
      AreApart (attributes (language_facts ++ declared before)) →
      AreApart (attributes (language_facts ++ declared (before ++ xs)))
  items_apart d before [] h a = rw (nothing_more before) a
  items_apart d before (x ∷ xs) h a =
      let i = h.0 in
      let e : declared (before ++ x ∷ []) ≡ declared before ++ declarations x = flat_more declarations before x in
      let once : one_conflicts (language_facts ++ declared before) (declarations x) ≡ false =
      subst (λ (gs : Facts). one_conflicts gs (declarations x) ≡ false)
      (nothing_more (language_facts ++ declared before)) i.once in
      let one = attributes_kept (declarations x) (language_facts ++ declared before) once a in
      subst (λ (ys : List HeadedItem). AreApart (attributes (language_facts ++ declared ys)))
      (append_assoc before (x ∷ []) xs)
      (items_apart d (before ++ x ∷ []) xs h.1
      (subst (λ (gs : Facts). AreApart (attributes gs))
      (append_assoc language_facts (declared before) (declarations x)
      ∙ ap (λ (zs : Facts). language_facts ++ zs) (sym e)) one))

  -- routines are no attributes
  pub routines_none : (hs : List Head) → attributes (flat_map routine_facts hs) ≡ []
  routines_none [] = refl
  routines_none (MainHead ∷ hs) = routines_none hs
  routines_none (EventHead n given saving ∷ hs) = routines_none hs
  routines_none (RoutineHead n given yielded ∷ hs) = routines_none hs

  -- the attributes of a class have names of their own
  pub attributes_apart : (d : Declared) (xs : List HeadedItem) (hs : List Head) → AreItemsKept d [] xs →
      AreApart (attributes (declared_by xs hs).kinds)
  attributes_apart d xs hs h =
      rw (
        attributes_both (language_facts ++ declared xs) (flat_map routine_facts hs),
        routines_none hs,
        nothing_more (attributes (language_facts ++ declared xs)),
      )
      (items_apart d [] xs h Rattle.ss_check.proofs.SoundLists.apart_none)
