-- The names of each kind in the tables are those that items write.
use Rattle.std.proofs.Common.{◌≡◌, Bool, true, false, cond, List, [], ◌∷◌, ◌++◌, refl, sym, ap, ◌∙◌, Option, Some, None}
use Rattle.std.specs.Prelude.{map, bytes_eq}
use Rattle.std.specs.List.{filter, flat_map}
use Rattle.std.proofs.lemmas.List.{append-nil, map-append}
use Rattle.std.proofs.lemmas.List.Elements.{filter-append}
use Rattle.ss_words.specs.Lists.{Name, Several, all_of}
use Rattle.ss_preamble.specs.declared.item.Heading.{Heading}
use Rattle.ss_preamble.specs.declared.item.Heading.TheVariants.{PermanentEntities, TemporaryEntities, EventNotices}
use Rattle.ss_preamble.specs.Tree.{Clause, Has, Owns, BelongsTo, Variables, Sets, Item, Normally, Headed, OfEvery}
use Rattle.ss_preamble.specs.Tree.{OfSystem, Defines, Orders, ItemAt}
use Rattle.ss_preamble.specs.Limits.{clause_has, class_names}
use Rattle.ss_routines.specs.Tree.{Head, MainHead, RoutineHead, EventHead}
use Rattle.ss_check.specs.Facts.{Fact, fact}
use Rattle.ss_check.specs.NameKind.{NameKind}
use Rattle.ss_check.specs.NameKind as k
use Rattle.ss_check.specs.NameKinds.{language_facts, class_facts, set_facts, is_class, is_global, is_attribute_of}
use Rattle.ss_check.specs.Declarations.{HeadedItem, heading_at, headed_items_under, class_of_item, clauses_of}
use Rattle.ss_check.specs.Declarations.{included_names, clause_facts, item_facts, declarations, sets_of, sets_in}
use Rattle.ss_check.specs.Declarations.{routine_facts}
use Rattle.ss_check.specs.ResolvedNames.{names_where, is_set}
use Rattle.ss_check.specs.NamedItems.{said_of, has_in, class_variables, globals_in}
use Rattle.ss_check.proofs.NamedUses.{two}
use Rattle.ss_check.proofs.SoundCompanions.{Facts, all_kinds}

-- ---- lists of pieces

flat_same : {X Y : Type 0} (f g : X → List Y) (zs : List X) → ((z : X) → f z ≡ g z) → flat_map f zs ≡ flat_map g zs
flat_same f g [] h = refl
flat_same {Y = Y} f g (z ∷ zs) h = two (λ (a b : List Y). a ++ b) (h z) (flat_same f g zs h)

flat_none : {X Y : Type 0} (f : X → List Y) (zs : List X) → ((z : X) → f z ≡ []) → flat_map f zs ≡ []
flat_none f [] h = refl
flat_none {Y = Y} f (z ∷ zs) h = two (λ (a b : List Y). a ++ b) (h z) (flat_none f zs h)

flat_each : (ns : List Name) → flat_map (λ (n : Name). n ∷ []) ns ≡ ns
flat_each [] = refl
flat_each (n ∷ ns) = ap (λ (ms : List Name). n ∷ ms) (flat_each ns)

-- names that are taken, and names that are not
each : (ns : Several Name) → flat_map (λ (n : Name). n ∷ []) (all_of ns) ≡ all_of ns
each ns = flat_each (all_of ns)

none : (ns : Several Name) → flat_map {A = Name} (λ (n : Name). []) (all_of ns) ≡ []
none ns = flat_none (λ n. []) (all_of ns) (λ n. refl)

-- a list if a test is passed, else none
abbrev where_true : {X : Type 0} → Bool → List X → List X
where_true q xs = cond q xs []

where_none : {X : Type 0} (q : Bool) → where_true {X = X} q [] ≡ []
where_none true = refl
where_none false = refl

where_both : {X : Type 0} (q : Bool) (xs ys : List X) → where_true q xs ++ where_true q ys ≡ where_true q (xs ++ ys)
where_both true xs ys = refl
where_both false xs ys = refl

where_flat : {X Y : Type 0} (q : Bool) (f : X → List Y) (zs : List X) →
    flat_map (λ z. where_true q (f z)) zs ≡ where_true q (flat_map f zs)
where_flat true f zs = refl
where_flat false f zs = flat_none (λ z. []) zs (λ z. refl)

-- the facts of items, with their headings or without
pub entries_say : {A : Type 0} (f : Item → List A) (h : Option Heading) (is : List ItemAt) →
    flat_map (λ (x : HeadedItem). f x.item) (headed_items_under h is) ≡ flat_map (λ (i : ItemAt). f i.item) is
entries_say f h [] = refl
entries_say {A = A} f h (i ∷ is) = ap (λ (ys : List A). f i.item ++ ys) (entries_say f (heading_at h i.item) is)

-- ---- the facts of a name

said_both : {A : Type 0} (n : Name) (xs ys : List (Fact A)) → said_of (xs ++ ys) n ≡ said_of xs n ++ said_of ys n
said_both {A = A} n xs ys =
    let of_name = λ (f : Fact A). bytes_eq n f.name in
    ap (map (λ (f : Fact A). f.what)) (filter-append of_name xs ys)
    ∙ map-append (λ (f : Fact A). f.what) (filter of_name xs) (filter of_name ys)

said_flat : {X A : Type 0} (n : Name) (f : X → List (Fact A)) (zs : List X) →
    said_of (flat_map f zs) n ≡ flat_map (λ z. said_of (f z) n) zs
said_flat n f [] = refl
said_flat {A = A} n f (z ∷ zs) =
    said_both n (f z) (flat_map f zs) ∙ ap (λ (ws : List A). said_of (f z) n ++ ws) (said_flat n f zs)

said_fact : {A : Type 0} (n m : Name) (w : A) → said_of (fact m w ∷ []) n ≡ where_true (bytes_eq n m) (w ∷ [])
said_fact {A = A} n m w = by (bytes_eq n m)
  where
    by : (q : Bool) → map (λ (f : Fact A). f.what) (cond q (fact m w ∷ []) []) ≡ where_true q (w ∷ [])
    by true = refl
    by false = refl

said_map : {A : Type 0} (n m : Name) (ws : List A) →
    said_of (map (λ (w : A). fact m w) ws) n ≡ where_true (bytes_eq n m) ws
said_map n m [] = sym (where_none (bytes_eq n m))
said_map {A = A} n m (w ∷ ws) =
    said_both n (fact m w ∷ []) (map (λ (v : A). fact m v) ws)
    ∙ two (λ (a b : List A). a ++ b) (said_fact n m w) (said_map n m ws)
    ∙ where_both (bytes_eq n m) (w ∷ []) ws

-- ---- the names that pass a test

-- the names that a test takes: of a class under a heading, a set, an attribute of a class and a
-- variable
record IsTaken (test : NameKind → Bool) : Type 0 where
  class : Option Heading → Name → List Name
  set : Name → List Name
  attribute : Name → Name → List Name
  variable : Name → List Name
  classes : (h : Option Heading) (c : Name) → names_where test (class_facts h c) ≡ class h c
  sets : (s : Name) → names_where test (set_facts s) ≡ set s
  attributes : (c n : Name) → names_where test (fact n (k.Attribute c) ∷ []) ≡ attribute c n
  variables : (n : Name) → names_where test (fact n k.Variable ∷ []) ≡ variable n
  language : names_where test language_facts ≡ []
  routines : (n : Name) → names_where test (fact n k.Routine ∷ []) ≡ []

module _ (test : NameKind → Bool) (T : IsTaken test) where
  abbrev taken : Facts → List Name
  taken fs = names_where test fs

  taken_both : (xs ys : Facts) → taken (xs ++ ys) ≡ taken xs ++ taken ys
  taken_both xs ys =
      let passes = λ (f : Fact NameKind). test f.what in
      ap (map (λ (f : Fact NameKind). f.name)) (filter-append passes xs ys)
      ∙ map-append (λ (f : Fact NameKind). f.name) (filter passes xs) (filter passes ys)

  taken_parts : (xs ys : Facts) (ms ns : List Name) → taken xs ≡ ms → taken ys ≡ ns → taken (xs ++ ys) ≡ ms ++ ns
  taken_parts xs ys ms ns e g = taken_both xs ys ∙ two (λ (a b : List Name). a ++ b) e g

  taken_flat : {X : Type 0} (f : X → Facts) (g : X → List Name) (zs : List X) → ((z : X) → taken (f z) ≡ g z) →
      taken (flat_map f zs) ≡ flat_map g zs
  taken_flat f g [] h = refl
  taken_flat f g (z ∷ zs) h = taken_parts (f z) (flat_map f zs) (g z) (flat_map g zs) (h z) (taken_flat f g zs h)

  taken_map : (j : NameKind) (g : Name → List Name) (ns : List Name) → ((n : Name) → taken (fact n j ∷ []) ≡ g n) →
      taken (map (λ n. fact n j) ns) ≡ flat_map g ns
  taken_map j g [] h = refl
  taken_map j g (n ∷ ns) h =
      taken_parts (fact n j ∷ []) (map (λ n. fact n j) ns) (g n) (flat_map g ns) (h n) (taken_map j g ns h)

  abbrev clause_taken : Option Name → Clause → List Name
  clause_taken (Some c) (Has ns) = flat_map (T.attribute c) (all_of ns)
  clause_taken None (Has ns) = flat_map T.variable (all_of ns)
  clause_taken o (Owns ns) = flat_map T.set (all_of ns)
  clause_taken o (BelongsTo ns) = flat_map T.set (all_of ns)

  abbrev item_taken : Option Heading → Item → List Name
  item_taken h Normally = []
  item_taken h (Headed g ns) = flat_map (T.class (Some g)) (included_names ns)
  item_taken h (OfEvery c cs) = T.class h c ++ flat_map (clause_taken (Some c)) (all_of cs)
  item_taken h (OfSystem cs) = flat_map (clause_taken None) (all_of cs)
  item_taken h (Defines (Variables ns)) = flat_map T.variable (all_of ns)
  item_taken h (Defines (Sets ns kind)) = flat_map T.set (all_of ns)
  item_taken h (Orders r) = []

  sets_taken : (ns : Several Name) → taken (flat_map set_facts (all_of ns)) ≡ flat_map T.set (all_of ns)
  sets_taken ns = taken_flat set_facts T.set (all_of ns) T.sets

  clause_is : (o : Option Name) (c : Clause) → taken (clause_facts o c) ≡ clause_taken o c
  clause_is (Some c) (Has ns) = taken_map (k.Attribute c) (T.attribute c) (all_of ns) (T.attributes c)
  clause_is None (Has ns) = taken_map k.Variable T.variable (all_of ns) T.variables
  clause_is None (Owns ns) = sets_taken ns
  clause_is (Some c) (Owns ns) = sets_taken ns
  clause_is None (BelongsTo ns) = sets_taken ns
  clause_is (Some c) (BelongsTo ns) = sets_taken ns

  clauses_are : (o : Option Name) (cs : List Clause) →
      taken (flat_map (clause_facts o) cs) ≡ flat_map (clause_taken o) cs
  clauses_are o cs = taken_flat (clause_facts o) (clause_taken o) cs (clause_is o)

  item_is : (h : Option Heading) (i : Item) →
      taken (item_facts h i ++ flat_map (clause_facts (class_of_item i)) (clauses_of i)) ≡ item_taken h i
  item_is h Normally = refl
  item_is h (Headed g ns) =
      ap taken (append-nil (flat_map (class_facts (Some g)) (included_names ns)))
      ∙ taken_flat (class_facts (Some g)) (T.class (Some g)) (included_names ns) (T.classes (Some g))
  item_is h (OfEvery c cs) =
      let clauses = all_of cs in
      taken_parts (class_facts h c) (flat_map (clause_facts (Some c)) clauses) (T.class h c)
      (flat_map (clause_taken (Some c)) clauses) (T.classes h c) (clauses_are (Some c) clauses)
  item_is h (OfSystem cs) = clauses_are None (all_of cs)
  item_is h (Defines (Variables ns)) =
      ap taken (append-nil (map (λ n. fact n k.Variable) (all_of ns)))
      ∙ taken_map k.Variable T.variable (all_of ns) T.variables
  item_is h (Defines (Sets ns kind)) = ap taken (append-nil (flat_map set_facts (all_of ns))) ∙ sets_taken ns
  item_is h (Orders r) = refl

  head_is : (h : Head) → taken (routine_facts h) ≡ []
  head_is MainHead = refl
  head_is (EventHead n given saving) = refl
  head_is (RoutineHead n given yielded) = T.routines n

  -- the names taken of all that a program declares; g gives the names taken of an item
  kinds_are : (g : Option Heading → Item → List Name) → ((h : Option Heading) (i : Item) → item_taken h i ≡ g h i) →
      (xs : List HeadedItem) (hs : List Head) → taken (all_kinds xs hs)
      ≡ flat_map (λ (x : HeadedItem). g x.heading x.item) xs
  kinds_are g e xs hs =
      let said = flat_map (λ (x : HeadedItem). g x.heading x.item) xs in
      let of_items = taken_flat declarations (λ x. g x.heading x.item) xs
      (λ x. item_is x.heading x.item ∙ e x.heading x.item) in
      let of_heads = taken_flat routine_facts (λ h. []) hs head_is ∙ flat_none (λ (h : Head). []) hs (λ h. refl) in
      taken_parts (language_facts ++ flat_map declarations xs) (flat_map routine_facts hs) said []
      (taken_parts language_facts (flat_map declarations xs) [] said T.language of_items) of_heads
      ∙ append-nil said

-- ---- classes

class_name : (h : Option Heading) (c : Name) → names_where is_class (class_facts h c) ≡ c ∷ []
class_name None c = refl
class_name (Some PermanentEntities) c = refl
class_name (Some TemporaryEntities) c = refl
class_name (Some EventNotices) c = refl

abbrev class_taken : IsTaken is_class
class_taken = record {
  class = λ h c. c ∷ [];
  set = λ s. [];
  attribute = λ c n. [];
  variable = λ n. [];
  classes = class_name;
  sets = λ s. refl;
  attributes = λ c n. refl;
  variables = λ n. refl;
  language = refl;
  routines = λ n. refl;
}

no_class : (o : Option Name) (c : Clause) → clause_taken is_class class_taken o c ≡ []
no_class (Some c) (Has ns) = none ns
no_class None (Has ns) = none ns
no_class None (Owns ns) = none ns
no_class (Some c) (Owns ns) = none ns
no_class None (BelongsTo ns) = none ns
no_class (Some c) (BelongsTo ns) = none ns

classes_of : (h : Option Heading) (i : Item) → item_taken is_class class_taken h i ≡ class_names i
classes_of h Normally = refl
classes_of h (Headed g None) = refl
classes_of h (Headed g (Some ns)) = each ns
classes_of h (OfEvery c cs) =
    ap (λ (ns : List Name). c ∷ ns)
    (flat_none (clause_taken is_class class_taken (Some c)) (all_of cs) (no_class (Some c)))
classes_of h (OfSystem cs) = flat_none (clause_taken is_class class_taken None) (all_of cs) (no_class None)
classes_of h (Defines (Variables ns)) = none ns
classes_of h (Defines (Sets ns kind)) = none ns
classes_of h (Orders r) = refl

pub class_names_are : (xs : List HeadedItem) (hs : List Head) →
    names_where is_class (all_kinds xs hs) ≡ flat_map (λ (x : HeadedItem). class_names x.item) xs
class_names_are xs hs = kinds_are is_class class_taken (λ h i. class_names i) classes_of xs hs

-- ---- sets

no_set : (h : Option Heading) (c : Name) → names_where is_set (class_facts h c) ≡ []
no_set None c = refl
no_set (Some PermanentEntities) c = refl
no_set (Some TemporaryEntities) c = refl
no_set (Some EventNotices) c = refl

abbrev set_taken : IsTaken is_set
set_taken = record {
  class = λ h c. [];
  set = λ s. s ∷ [];
  attribute = λ c n. [];
  variable = λ n. [];
  classes = no_set;
  sets = λ s. refl;
  attributes = λ c n. refl;
  variables = λ n. refl;
  language = refl;
  routines = λ n. refl;
}

clause_sets : (o : Option Name) (c : Clause) → clause_taken is_set set_taken o c ≡ sets_of c
clause_sets (Some c) (Has ns) = none ns
clause_sets None (Has ns) = none ns
clause_sets None (Owns ns) = each ns
clause_sets (Some c) (Owns ns) = each ns
clause_sets None (BelongsTo ns) = each ns
clause_sets (Some c) (BelongsTo ns) = each ns

item_sets : (h : Option Heading) (i : Item) → item_taken is_set set_taken h i ≡ sets_in i
item_sets h Normally = refl
item_sets h (Headed g ns) = flat_none (λ c. []) (included_names ns) (λ c. refl)
item_sets h (OfEvery c cs) =
    flat_same (clause_taken is_set set_taken (Some c)) sets_of (all_of cs) (clause_sets (Some c))
item_sets h (OfSystem cs) = flat_same (clause_taken is_set set_taken None) sets_of (all_of cs) (clause_sets None)
item_sets h (Defines (Variables ns)) = none ns
item_sets h (Defines (Sets ns kind)) = each ns ∙ sym (append-nil (all_of ns))
item_sets h (Orders r) = refl

pub set_names_are : (xs : List HeadedItem) (hs : List Head) →
    names_where is_set (all_kinds xs hs) ≡ flat_map (λ (x : HeadedItem). sets_in x.item) xs
set_names_are xs hs = kinds_are is_set set_taken (λ h i. sets_in i) item_sets xs hs

-- ---- global variables

class_globals : (h : Option Heading) (c : Name) → names_where is_global (class_facts h c) ≡ class_variables h c
class_globals None c = refl
class_globals (Some PermanentEntities) c = refl
class_globals (Some TemporaryEntities) c = refl
class_globals (Some EventNotices) c = refl

abbrev global_taken : IsTaken is_global
global_taken = record {
  class = class_variables;
  set = λ s. [];
  attribute = λ c n. [];
  variable = λ n. n ∷ [];
  classes = class_globals;
  sets = λ s. refl;
  attributes = λ c n. refl;
  variables = λ n. refl;
  language = refl;
  routines = λ n. refl;
}

no_global : (b : Name) (c : Clause) → clause_taken is_global global_taken (Some b) c ≡ []
no_global b (Has ns) = none ns
no_global b (Owns ns) = none ns
no_global b (BelongsTo ns) = none ns

system_globals : (c : Clause) → clause_taken is_global global_taken None c ≡ clause_has c
system_globals (Has ns) = each ns
system_globals (Owns ns) = none ns
system_globals (BelongsTo ns) = none ns

item_globals : (h : Option Heading) (i : Item) → item_taken is_global global_taken h i ≡ globals_in h i
item_globals h Normally = refl
item_globals h (Headed g ns) = refl
item_globals h (OfEvery c cs) =
    ap (λ (ns : List Name). class_variables h c ++ ns)
    (flat_none (clause_taken is_global global_taken (Some c)) (all_of cs) (no_global c))
    ∙ append-nil (class_variables h c)
item_globals h (OfSystem cs) =
    flat_same (clause_taken is_global global_taken None) clause_has (all_of cs) system_globals
item_globals h (Defines (Variables ns)) = each ns
item_globals h (Defines (Sets ns kind)) = none ns
item_globals h (Orders r) = refl

pub globals_are : (xs : List HeadedItem) (hs : List Head) →
    names_where is_global (all_kinds xs hs) ≡ flat_map (λ (x : HeadedItem). globals_in x.heading x.item) xs
globals_are xs hs = kinds_are is_global global_taken globals_in item_globals xs hs

-- ---- attributes of a class

module _ (c : Name) where
  abbrev of_c : NameKind → Bool
  of_c j = is_attribute_of c j

  no_attribute : (h : Option Heading) (b : Name) → names_where of_c (class_facts h b) ≡ []
  no_attribute None b = refl
  no_attribute (Some PermanentEntities) b = refl
  no_attribute (Some TemporaryEntities) b = refl
  no_attribute (Some EventNotices) b = refl

  one_attribute : (b n : Name) →
      names_where of_c (fact n (k.Attribute b) ∷ []) ≡ where_true (bytes_eq c b) (n ∷ [])
  one_attribute b n = by (bytes_eq c b)
    where
      by : (q : Bool) →
          map (λ (f : Fact NameKind). f.name) (cond q (fact n (k.Attribute b) ∷ []) []) ≡ where_true q (n ∷ [])
      by true = refl
      by false = refl

  abbrev attribute_taken : IsTaken of_c
  attribute_taken = record {
    class = λ h b. [];
    set = λ s. [];
    attribute = λ b n. where_true (bytes_eq c b) (n ∷ []);
    variable = λ n. [];
    classes = no_attribute;
    sets = λ s. refl;
    attributes = one_attribute;
    variables = λ n. refl;
    language = refl;
    routines = λ n. refl;
  }

  clause_attributes : (b : Name) (z : Clause) →
      clause_taken of_c attribute_taken (Some b) z ≡ where_true (bytes_eq c b) (clause_has z)
  clause_attributes b (Has ns) =
      where_flat (bytes_eq c b) (λ (n : Name). n ∷ []) (all_of ns) ∙ ap (where_true (bytes_eq c b)) (each ns)
  clause_attributes b (Owns ns) = none ns ∙ sym (where_none (bytes_eq c b))
  clause_attributes b (BelongsTo ns) = none ns ∙ sym (where_none (bytes_eq c b))

  system_attributes : (z : Clause) → clause_taken of_c attribute_taken None z ≡ []
  system_attributes (Has ns) = none ns
  system_attributes (Owns ns) = none ns
  system_attributes (BelongsTo ns) = none ns

  item_attributes : (h : Option Heading) (i : Item) → item_taken of_c attribute_taken h i ≡ said_of (has_in i) c
  item_attributes h Normally = refl
  item_attributes h (Headed g ns) = flat_none (λ b. []) (included_names ns) (λ b. refl)
  item_attributes h (OfEvery b cs) =
      let q = bytes_eq c b in
      flat_same (clause_taken of_c attribute_taken (Some b)) (λ z. where_true q (clause_has z)) (all_of cs)
      (clause_attributes b)
      ∙ where_flat q clause_has (all_of cs)
      ∙ sym (said_map c b (flat_map clause_has (all_of cs)))
  item_attributes h (OfSystem cs) =
      flat_none (clause_taken of_c attribute_taken None) (all_of cs) system_attributes
  item_attributes h (Defines (Variables ns)) = none ns
  item_attributes h (Defines (Sets ns kind)) = none ns
  item_attributes h (Orders r) = refl

  pub attributes_are_written : (xs : List HeadedItem) (hs : List Head) →
      names_where of_c (all_kinds xs hs) ≡ said_of (flat_map (λ (x : HeadedItem). has_in x.item) xs) c
  attributes_are_written xs hs =
      kinds_are of_c attribute_taken (λ h i. said_of (has_in i) c) item_attributes xs hs
      ∙ sym (said_flat c (λ (x : HeadedItem). has_in x.item) xs)
