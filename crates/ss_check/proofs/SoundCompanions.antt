-- The companions that a declaration brings: an attribute its class, a kept attribute its set, N.c
-- its class, a permanent class its N.c.
use Rattle.std.proofs.Common.{◌≡◌, ◌⊎◌, List, [], ◌∷◌, ◌++◌, refl, sym, ap, subst, Option, Some, None}
use Rattle.std.specs.Prelude.{map, codes}
use Rattle.std.specs.List.{flat_map}
use mathlib.Core.Logic.{inl, inr}
use Rattle.ss_words.specs.Lists.{Name, Several, all_of}
use Rattle.ss_preamble.specs.declared.item.Heading.{Heading}
use Rattle.ss_preamble.specs.declared.item.Heading.TheVariants.{PermanentEntities, TemporaryEntities, EventNotices}
use Rattle.ss_preamble.specs.Tree.{Clause, Has, Owns, BelongsTo, Variables, Sets, Item, Normally, Headed, OfEvery}
use Rattle.ss_preamble.specs.Tree.{OfSystem, Defines, Orders}
use Rattle.ss_preamble.specs.Limits.{clause_has, class_names}
use Rattle.ss_routines.specs.Tree.{Head, MainHead, RoutineHead, EventHead}
use Rattle.ss_check.specs.Facts.{Fact, fact, names_of}
use Rattle.ss_check.specs.NameKind.{NameKind}
use Rattle.ss_check.specs.NameKind as k
use Rattle.ss_check.specs.NameKinds.{language_facts, class_facts, set_facts}
use Rattle.ss_check.specs.Declarations.{HeadedItem, class_of_item, clauses_of, included_names, clause_facts, item_facts}
use Rattle.ss_check.specs.Declarations.{declarations, owners_in, owned_in, sets_joined, members_for, members_in}
use Rattle.ss_check.specs.Declarations.{sets_of, sets_in, routine_counts, routine_facts}
use Rattle.ss_check.proofs.SoundLists.{In, in_left, in_right, in_split, map_in, in_flat, flat_in}

abbrev pub Facts : Type 0
Facts = List (Fact NameKind)

-- the names that are sets, classes, variables and routines
pub record Names : Type 0 where
  pub sets : List Name
  pub classes : List Name
  pub variables : List Name
  pub routines : List Name

-- a class that is declared
abbrev pub HasClass : Facts → Name → Type 0
HasClass L c = (h : Option Heading) × In (fact c (k.Class h)) L

-- N.c of a class that is declared
pub record IsCount (L : Facts) (n : Name) : Type 0 where
  pub class : Name
  pub named : n ≡ codes "N." ++ class
  pub there : HasClass L class

-- the companions that a name of this kind brings
abbrev pub IsClosed : Facts → Names → Name → NameKind → Type 0
IsClosed L N n (k.Attribute c) = HasClass L c
IsClosed L N n (k.OwnerKept a s) = In (fact s k.Set) L
IsClosed L N n (k.MemberKept a s) = In (fact s k.Set) L
IsClosed L N n (k.Class (Some PermanentEntities)) = In n N.classes × In (fact (codes "N." ++ n) k.ClassCount) L
IsClosed L N n (k.Class g) = In n N.classes
IsClosed L N n k.Set = In n N.sets
IsClosed L N n k.Variable = In n N.variables
IsClosed L N n k.ClassCount = IsCount L n
IsClosed L N n k.Routine = In n N.routines
IsClosed L N n _ = Unit {0}

abbrev pub AreClosed : Facts → Names → Facts → Type 0
AreClosed L N xs = (f : Fact NameKind) → In f xs → IsClosed L N f.name f.what

abbrev pub AreAmong : {X : Type 0} → List X → List X → Type 0
AreAmong {X} xs ys = (x : X) → In x xs → In x ys

pub record AreMore (N M : Names) : Type 0 where
  pub sets : AreAmong N.sets M.sets
  pub classes : AreAmong N.classes M.classes
  pub variables : AreAmong N.variables M.variables
  pub routines : AreAmong N.routines M.routines

pub has_more : (L M : Facts) (c : Name) → AreAmong L M → HasClass L c → HasClass M c
has_more L M c i h = (h.0, i (fact c (k.Class h.0)) h.1)

closed_more : (L M : Facts) (N O : Names) (n : Name) (j : NameKind) → AreAmong L M → AreMore N O → IsClosed L N n j →
    IsClosed M O n j
closed_more L M N O n (k.Attribute c) i m h = has_more L M c i h
closed_more L M N O n (k.OwnerKept a s) i m h = i (fact s k.Set) h
closed_more L M N O n (k.MemberKept a s) i m h = i (fact s k.Set) h
closed_more L M N O n (k.Class None) i m h = m.classes n h
closed_more L M N O n (k.Class (Some PermanentEntities)) i m h =
    (m.classes n h.0, i (fact (codes "N." ++ n) k.ClassCount) h.1)
closed_more L M N O n (k.Class (Some TemporaryEntities)) i m h = m.classes n h
closed_more L M N O n (k.Class (Some EventNotices)) i m h = m.classes n h
closed_more L M N O n k.Set i m h = m.sets n h
closed_more L M N O n k.Variable i m h = m.variables n h
closed_more L M N O n k.ClassCount i m h =
    record { class = h.class; named = h.named; there = has_more L M h.class i h.there }
closed_more L M N O n k.Routine i m h = m.routines n h
closed_more L M N O n (k.Function f) i m h = tt
closed_more L M N O n k.Clock i m h = tt

-- a class, and not the system
abbrev IsOf : Option Name → Type 0
IsOf None = ⊥
IsOf (Some c) = Unit {0}

module _ (L : Facts) (N : Names) where
  closed_none : AreClosed L N []
  closed_none f h = absurd h

  closed_both : (xs ys : Facts) → AreClosed L N xs → AreClosed L N ys → AreClosed L N (xs ++ ys)
  closed_both xs ys a b f h = by (in_split f xs ys h)
    where
      by : In f xs ⊎ In f ys → IsClosed L N f.name f.what
      by (inl x) = a f x
      by (inr y) = b f y

  closed_flat : {X : Type 0} (g : X → Facts) (zs : List X) → ((z : X) → In z zs → AreClosed L N (g z)) →
      AreClosed L N (flat_map g zs)
  closed_flat g zs h f x = let p = flat_in g f zs x in h p.one p.there f p.has

  closed_map : (j : NameKind) (ns : List Name) → ((n : Name) → In n ns → IsClosed L N n j) →
      AreClosed L N (map (λ n. fact n j) ns)
  closed_map j ns h f x =
      let p = map_in (λ n. fact n j) f ns x in
      subst (λ (g : Fact NameKind). IsClosed L N g.name g.what) (sym p.is) (h p.one p.there)

  is : (f : Fact NameKind) (n : Name) (j : NameKind) → f ≡ fact n j → IsClosed L N n j → IsClosed L N f.name f.what
  is f n j e h = subst (λ (g : Fact NameKind). IsClosed L N g.name g.what) (sym e) h

  closed_class : (g : Option Heading) (c : Name) → In c N.classes → AreAmong (class_facts g c) L →
      AreClosed L N (class_facts g c)
  closed_class None c n i f (inl e) = is f c (k.Class None) e n
  closed_class None c n i f (inr x) = absurd x
  closed_class (Some PermanentEntities) c n i f (inl e) =
      is f c (k.Class (Some PermanentEntities)) e (n, i (fact (codes "N." ++ c) k.ClassCount) (inr (inl refl)))
  closed_class (Some PermanentEntities) c n i f (inr (inl e)) =
      is f (codes "N." ++ c) k.ClassCount e
      (record {
        class = c;
        named = refl;
        there = (Some PermanentEntities, i (fact c (k.Class (Some PermanentEntities))) (inl refl));
      })
  closed_class (Some PermanentEntities) c n i f (inr (inr x)) = absurd x
  closed_class (Some TemporaryEntities) c n i f (inl e) = is f c (k.Class (Some TemporaryEntities)) e n
  closed_class (Some TemporaryEntities) c n i f (inr x) = absurd x
  closed_class (Some EventNotices) c n i f (inl e) = is f c (k.Class (Some EventNotices)) e n
  closed_class (Some EventNotices) c n i f (inr x) = absurd x

  closed_set : (s : Name) → In s N.sets → In (fact s k.Set) L → AreClosed L N (set_facts s)
  closed_set s n i f (inl e) = is f s k.Set e n
  closed_set s n i f (inr (inl e)) = is f _ _ e i
  closed_set s n i f (inr (inr (inl e))) = is f _ _ e i
  closed_set s n i f (inr (inr (inr (inl e)))) = is f _ _ e i
  closed_set s n i f (inr (inr (inr (inr (inl e))))) = is f _ _ e i
  closed_set s n i f (inr (inr (inr (inr (inr (inl e)))))) = is f _ _ e i
  closed_set s n i f (inr (inr (inr (inr (inr (inr (inl e))))))) = is f _ _ e i
  closed_set s n i f (inr (inr (inr (inr (inr (inr (inr x))))))) = absurd x

  closed_sets : (ss : List Name) → AreAmong ss N.sets → AreAmong (flat_map set_facts ss) L →
      AreClosed L N (flat_map set_facts ss)
  closed_sets ss n i =
      closed_flat set_facts ss
      (λ s x. closed_set s (n s x) (i (fact s k.Set) (in_flat set_facts s (fact s k.Set) ss x (inl refl))))

  -- the class whose clause it is
  abbrev OwnerDeclared : Option Name → Type 0
  OwnerDeclared None = Unit {0}
  OwnerDeclared (Some c) = HasClass L c

  closed_clause : (o : Option Name) (c : Clause) → OwnerDeclared o → AreAmong (sets_of c) N.sets →
      AreAmong (clause_has c) N.variables ⊎ IsOf o →
      AreAmong (clause_facts o c) L → AreClosed L N (clause_facts o c)
  closed_clause (Some c) (Has ns) h s v i = closed_map (k.Attribute c) (all_of ns) (λ n x. h)
  closed_clause None (Has ns) h s (inl v) i = closed_map k.Variable (all_of ns) (λ n x. v n x)
  closed_clause None (Has ns) h s (inr v) i = absurd v
  closed_clause o (Owns ns) h s v i = closed_sets (all_of ns) s i
  closed_clause o (BelongsTo ns) h s v i = closed_sets (all_of ns) s i

-- ---- items

-- the names that an item says are variables
abbrev pub variables_in : Item → List Name
variables_in (OfSystem clauses) = flat_map clause_has (all_of clauses)
variables_in (Defines (Variables names)) = all_of names
variables_in _ = []

abbrev pub names_in : Item → Names
names_in i = record { sets = sets_in i; classes = class_names i; variables = variables_in i; routines = [] }

abbrev all_facts : Option Heading → Item → Facts
all_facts h i = item_facts h i ++ flat_map (clause_facts (class_of_item i)) (clauses_of i)

same : {X : Type 0} (xs : List X) → AreAmong xs xs
same xs x h = h

included_named : (g : Heading) (ns : Option (Several Name)) (c : Name) → In c (included_names ns) →
    In c (class_names (Headed g ns))
included_named g None c x = absurd x
included_named g (Some ns) c x = x

closed_item : (h : Option Heading) (i : Item) → AreClosed (all_facts h i) (names_in i) (all_facts h i)
closed_item h Normally = λ f x. absurd x
closed_item h (Headed g ns) =
    let xs = flat_map (class_facts (Some g)) (included_names ns) in
    let L = xs ++ [] in
    let N = names_in (Headed g ns) in
    closed_both L N xs []
    (closed_flat L N (class_facts (Some g)) (included_names ns)
    (λ c x. closed_class L N (Some g) c (included_named g ns c x)
    (λ f y. in_left f xs [] (in_flat (class_facts (Some g)) c f (included_names ns) x y))))
    (closed_none L N)
closed_item h (OfEvery c cs) =
    let xs = class_facts h c in
    let ys = flat_map (clause_facts (Some c)) (all_of cs) in
    let L = xs ++ ys in
    let N = names_in (OfEvery c cs) in
    let there : HasClass L c = (h, in_left (fact c (k.Class h)) xs ys (inl refl)) in
    closed_both L N xs ys
    (closed_class L N h c (inl refl) (λ f y. in_left f xs ys y))
    (closed_flat L N (clause_facts (Some c)) (all_of cs) (λ z x. closed_clause L N (Some c) z there
    (λ s y. in_flat sets_of z s (all_of cs) x y) (inr tt)
    (λ f y. in_right f xs ys (in_flat (clause_facts (Some c)) z f (all_of cs) x y))))
closed_item h (OfSystem cs) =
    let ys = flat_map (clause_facts None) (all_of cs) in
    let N = names_in (OfSystem cs) in
    closed_flat ys N (clause_facts None) (all_of cs) (λ z x. closed_clause ys N None z tt
    (λ s y. in_flat sets_of z s (all_of cs) x y) (inl (λ n y. in_flat clause_has z n (all_of cs) x y))
    (λ f y. in_flat (clause_facts None) z f (all_of cs) x y))
closed_item h (Defines (Variables ns)) =
    let xs = map (λ n. fact n k.Variable) (all_of ns) in
    let N = names_in (Defines (Variables ns)) in
    closed_both (xs ++ []) N xs [] (closed_map (xs ++ []) N k.Variable (all_of ns) (same (all_of ns)))
    (closed_none (xs ++ []) N)
closed_item h (Defines (Sets ns kind)) =
    let xs = flat_map set_facts (all_of ns) in
    let N = names_in (Defines (Sets ns kind)) in
    closed_both (xs ++ []) N xs []
    (closed_sets (xs ++ []) N (all_of ns) (λ s y. in_left s (all_of ns) [] y) (λ f y. in_left f xs [] y))
    (closed_none (xs ++ []) N)
closed_item h (Orders r) = λ f x. absurd x

pub closed_entry : (x : HeadedItem) → AreClosed (declarations x) (names_in x.item) (declarations x)
closed_entry x = closed_item x.heading x.item

-- ---- all of a program

abbrev pub declared : List HeadedItem → Facts
declared xs = flat_map declarations xs

-- the routines that heads name
abbrev pub routine_names : Head → List Name
routine_names (RoutineHead n given yielded) = n ∷ []
routine_names _ = []

-- those that have counts
pub routine_names_are : (hs : List Head) → names_of (flat_map routine_counts hs) ≡ flat_map routine_names hs
routine_names_are [] = refl
routine_names_are (MainHead ∷ hs) = routine_names_are hs
routine_names_are (RoutineHead n given yielded ∷ hs) = ap (λ (ns : List Name). n ∷ ns) (routine_names_are hs)
routine_names_are (EventHead n given saving ∷ hs) = routine_names_are hs

abbrev pub names_all : List HeadedItem → List Head → Names
names_all xs hs = record {
  sets = flat_map (λ x. sets_in x.item) xs;
  classes = flat_map (λ x. class_names x.item) xs;
  variables = flat_map (λ x. variables_in x.item) xs;
  routines = flat_map routine_names hs;
}

abbrev pub all_kinds : List HeadedItem → List Head → Facts
all_kinds xs hs = language_facts ++ flat_map declarations xs ++ flat_map routine_facts hs

module _ (xs : List HeadedItem) (hs : List Head) where
  abbrev L : Facts
  L = all_kinds xs hs

  abbrev N : Names
  N = names_all xs hs

  closed_language : AreClosed L N language_facts
  closed_language f (inl e) = is L N f _ _ e tt
  closed_language f (inr (inl e)) = is L N f _ _ e tt
  closed_language f (inr (inr (inl e))) = is L N f _ _ e tt
  closed_language f (inr (inr (inr (inl e)))) = is L N f _ _ e tt
  closed_language f (inr (inr (inr (inr (inl e))))) = is L N f _ _ e tt
  closed_language f (inr (inr (inr (inr (inr (inl e)))))) = is L N f _ _ e tt
  closed_language f (inr (inr (inr (inr (inr (inr x)))))) = absurd x

  closed_head : (h : Head) → In h hs → AreClosed L N (routine_facts h)
  closed_head MainHead i f x = absurd x
  closed_head (EventHead n given saving) i f x = absurd x
  closed_head (RoutineHead n given yielded) i f (inl e) =
      is L N f n k.Routine e (in_flat routine_names (RoutineHead n given yielded) n hs i (inl refl))
  closed_head (RoutineHead n given yielded) i f (inr x) = absurd x

  pub declared_there : AreAmong (declared xs) L
  declared_there f x =
      in_left f (language_facts ++ declared xs) (flat_map routine_facts hs) (in_right f language_facts (declared xs) x)

  pub all_closed : AreClosed L N L
  all_closed =
      closed_both L N (language_facts ++ declared xs) (flat_map routine_facts hs)
      (closed_both L N language_facts (declared xs) closed_language
      (closed_flat L N declarations xs (λ x i f y. closed_more (declarations x) L (names_in x.item) N f.name f.what
      (λ g z. declared_there g (in_flat declarations x g xs i z))
      (record {
        sets = λ s z. in_flat (λ x. sets_in x.item) x s xs i z;
        classes = λ s z. in_flat (λ x. class_names x.item) x s xs i z;
        variables = λ s z. in_flat (λ x. variables_in x.item) x s xs i z;
        routines = λ s z. absurd z;
      })
      (closed_entry x f y))))
      (closed_flat L N routine_facts hs closed_head)

-- ---- owners and members

entry_class : (h : Option Heading) (i : Item) (c : Name) → class_of_item i ≡ Some c → HasClass (all_facts h i) c
entry_class h (OfEvery d cs) c e =
    let same_class : d ≡ c = cc in (
      h,
      in_left (fact c (k.Class h)) (class_facts h d) (flat_map (clause_facts (Some d)) (all_of cs))
          (inl (ap (λ (n : Name). fact n (k.Class h)) (sym same_class))),
    )
entry_class h Normally c e = cc
entry_class h (Headed g ns) c e = cc
entry_class h (OfSystem cs) c e = cc
entry_class h (Defines x) c e = cc
entry_class h (Orders r) c e = cc

what_is : {A : Type 0} (f g : Fact A) → f ≡ g → f.what ≡ g.what
what_is {A = A} f g e = ap (λ (h : Fact A). h.what) e

-- the owner of a set is a class that is declared
pub owner_declared : (xs : List HeadedItem) (s c : Name) → In (fact s (Some c)) (flat_map (λ x. owners_in x.item) xs) →
    HasClass (declared xs) c
owner_declared xs s c h =
    let p = flat_in (λ (x : HeadedItem). owners_in x.item) (fact s (Some c)) xs h in
    let x = p.one in
    let q = map_in (λ n. fact n (class_of_item x.item)) (fact s (Some c)) (flat_map owned_in (clauses_of x.item)) p.has
    in
    let e : Some c ≡ class_of_item x.item = what_is (fact s (Some c)) (fact q.one (class_of_item x.item)) q.is in
    has_more (declarations x) (declared xs) c (λ f y. in_flat declarations x f xs p.there y)
    (entry_class x.heading x.item c (sym e))

member_of : (o : Option Name) (ss : List Name) (s c : Name) → In (fact s c) (members_for o ss) → o ≡ Some c
member_of None ss s c h = absurd h
member_of (Some d) ss s c h =
    let q = map_in (λ n. fact n d) (fact s c) ss h in
    ap (λ (n : Name). Some n) (sym (what_is (fact s c) (fact q.one d) q.is))

-- so is the class of its members
pub member_declared : (xs : List HeadedItem) (s c : Name) → In (fact s c) (flat_map (λ x. members_in x.item) xs) →
    HasClass (declared xs) c
member_declared xs s c h =
    let p = flat_in (λ (x : HeadedItem). members_in x.item) (fact s c) xs h in
    let x = p.one in
    has_more (declarations x) (declared xs) c (λ f y. in_flat declarations x f xs p.there y)
    (entry_class x.heading x.item c (member_of (class_of_item x.item) (sets_joined x.item) s c p.has))
