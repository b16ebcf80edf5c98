-- How many classes, sets, attributes, keys and names a program within the limits has.
use Rattle.std.proofs.Common.{◌≡◌, ◌≤◌, ℕ, suc, ◌+◌, Bool, true, false, cond, List, [], ◌∷◌, ◌++◌, length, refl, sym}
use Rattle.std.proofs.Common.{ap, ◌∙◌, subst, arith, Option, Some, None, length-append}
use Rattle.std.specs.Prelude.{map, codes, bytes_eq, count_by, if◌then◌else◌}
use Rattle.std.specs.List.{All, flat_map, filter, sum_by}
use mathlib.Core.Logic.{inl, inr}
use Rattle.std.proofs.lemmas.Bool.{false≢true}
use Rattle.std.proofs.lemmas.List.{length-map}
use Rattle.std.proofs.lemmas.List.Sums.{sum_by-cons, sum_by-append}
use Rattle.std.proofs.lemmas.List.Elements.{All-head, All-tail}
use Rattle.ss_words.specs.Lists.{Name, all_of}
use Rattle.ss_preamble.specs.declared.item.Heading.{Heading}
use Rattle.ss_preamble.specs.declared.item.Heading.TheVariants.{PermanentEntities, TemporaryEntities, EventNotices}
use Rattle.ss_preamble.specs.Tree.{Clause, Has, Owns, BelongsTo, Variables, Sets, Item, Normally, Headed, OfEvery}
use Rattle.ss_preamble.specs.Tree.{OfSystem, Defines, Orders, ItemAt}
use Rattle.ss_preamble.specs.Limits as limits
use Rattle.ss_preamble.specs.Limits.{clause_has, clause_sets, class_names, set_names, variable_count, key_count}
use Rattle.ss_preamble.specs.Limits.{IsWithin}
use Rattle.ss_routines.specs.Tree.{Head}
use Rattle.ss_check.specs.Facts.{Fact, fact}
use Rattle.ss_check.specs.NameKind.{NameKind}
use Rattle.ss_check.specs.NameKind as k
use Rattle.ss_check.specs.NameKinds.{language_facts, class_facts, set_facts, is_attribute_of, is_class, is_global}
use Rattle.ss_check.specs.NameKinds.{names_set}
use Rattle.ss_check.specs.Declarations.{HeadedItem, headed_items, headed_items_under, heading_at, class_of_item}
use Rattle.ss_check.specs.Declarations.{clauses_of, clause_facts, item_facts, declarations, attribute_classes}
use Rattle.ss_check.specs.Declarations.{attributes_in, sets_of, sets_in, routine_facts, declared_by, attribute_count}
use Rattle.ss_check.specs.ResolvedNames.{names_where, is_set, attributes_of}
use Rattle.ss_check.proofs.SoundLists.{In, in_left, in_right, in_map, in_flat, flat_in, once_has, once_from, once_apart}
use Rattle.ss_check.proofs.SoundLists.{as_many_at_least, where_from}
use Rattle.ss_check.proofs.SoundCompanions.{Facts, IsClosed, all_closed, all_kinds, names_all, declared, variables_in}
use Rattle.ss_check.proofs.SoundItems.{nothing_more, attributes_both, routines_none}
use Rattle.ss_check.proofs.SoundStatements.{AreItemsKept}
use Rattle.ss_check.proofs.SoundNames.{d, v, class_in}

-- ---- attributes

module _ (c : Name) where
  abbrev attributes : Facts → List Name
  attributes fs = names_where (is_attribute_of c) fs

  -- as many, if it is this class
  abbrev if_class : Name → ℕ → ℕ
  if_class b n = if bytes_eq c b then n else 0

  none_of : (b : Name) → 0 ≡ if_class b 0
  none_of b = by (bytes_eq c b)
    where
      by : (t : Bool) → ◌≡◌ {A = ℕ} 0 (if t then 0 else 0)
      by true = refl
      by false = refl

  many : (b : Name) (ns : List Name) →
      length (attributes (map (λ n. fact n (k.Attribute b)) ns)) ≡ if_class b (length ns)
  many b [] = none_of b
  many b (n ∷ ns) = by (bytes_eq c b) (many b ns)
    where
      by : (t : Bool) → length (attributes (map (λ n. fact n (k.Attribute b)) ns)) ≡ (if t then length ns else 0) →
          length (map (λ (f : Fact NameKind). f.name)
          (cond t (fact n (k.Attribute b)
          ∷ filter (λ (f : Fact NameKind). is_attribute_of c f.what) (map (λ n. fact n (k.Attribute b)) ns))
          (filter (λ (f : Fact NameKind). is_attribute_of c f.what) (map (λ n. fact n (k.Attribute b)) ns))))
          ≡ (if t then suc (length ns) else 0)
      by true e = ap suc e
      by false e = e

  counted : (b : Name) (ns : List Name) → count_by (bytes_eq c) (map (λ n. b) ns) ≡ if_class b (length ns)
  counted b [] = none_of b
  counted b (n ∷ ns) =
      sum_by-cons (λ (m : Name). cond (bytes_eq c m) 1 0) b (map (λ (n : Name). b) ns)
      ∙ by (bytes_eq c b) (counted b ns)
    where
      by : (t : Bool) → count_by (bytes_eq c) (map (λ (n : Name). b) ns) ≡ (if t then length ns else 0) →
          cond t 1 0 + count_by (bytes_eq c) (map (λ (n : Name). b) ns) ≡ (if t then suc (length ns) else 0)
      by true e = omega (arith, e)
      by false e = omega (arith, e)

  no_sets : (ss : List Name) → attributes (flat_map set_facts ss) ≡ []
  no_sets [] = refl
  no_sets (s ∷ ss) = no_sets ss

  no_class : (h : Option Heading) (b : Name) → attributes (class_facts h b) ≡ []
  no_class None b = refl
  no_class (Some PermanentEntities) b = refl
  no_class (Some TemporaryEntities) b = refl
  no_class (Some EventNotices) b = refl

  no_classes : (h : Option Heading) (bs : List Name) → attributes (flat_map (class_facts h) bs) ≡ []
  no_classes h [] = refl
  no_classes h (b ∷ bs) =
      rw (attributes_both c (class_facts h b) (flat_map (class_facts h) bs), no_class h b) (no_classes h bs)

  no_variables : (ns : List Name) → attributes (map (λ n. fact n k.Variable) ns) ≡ []
  no_variables [] = refl
  no_variables (n ∷ ns) = no_variables ns

  many_clause : (b : Name) (z : Clause) →
      length (attributes (clause_facts (Some b) z)) ≡ if_class b (length (clause_has z))
  many_clause b (Has ns) = many b (all_of ns)
  many_clause b (Owns ns) = ap length (no_sets (all_of ns)) ∙ none_of b
  many_clause b (BelongsTo ns) = ap length (no_sets (all_of ns)) ∙ none_of b

  counted_clause : (b : Name) (z : Clause) →
      count_by (bytes_eq c) (attribute_classes b z) ≡ if_class b (length (clause_has z))
  counted_clause b (Has ns) = counted b (all_of ns)
  counted_clause b (Owns ns) = none_of b
  counted_clause b (BelongsTo ns) = none_of b

  sum_if : (b : Name) (i j n m : ℕ) → n ≡ if_class b i → m ≡ if_class b j → n + m ≡ if_class b (i + j)
  sum_if b i j n m e f = by (bytes_eq c b) e f
    where
      by : (t : Bool) → n ≡ (if t then i else 0) → m ≡ (if t then j else 0) → n + m ≡ (if t then i + j else 0)
      by true e f = omega (arith, e, f)
      by false e f = omega (arith, e, f)

  many_clauses : (b : Name) (zs : List Clause) →
      length (attributes (flat_map (clause_facts (Some b)) zs)) ≡ if_class b (length (flat_map clause_has zs))
  many_clauses b [] = none_of b
  many_clauses b (z ∷ zs) =
      rw (
        attributes_both c (clause_facts (Some b) z) (flat_map (clause_facts (Some b)) zs),
        length-append (attributes (clause_facts (Some b) z)) (attributes (flat_map (clause_facts (Some b)) zs)),
        length-append (clause_has z) (flat_map clause_has zs),
      )
      (sum_if b (length (clause_has z)) (length (flat_map clause_has zs))
      (length (attributes (clause_facts (Some b) z)))
      (length (attributes (flat_map (clause_facts (Some b)) zs))) (many_clause b z) (many_clauses b zs))

  counted_clauses : (b : Name) (zs : List Clause) →
      count_by (bytes_eq c) (flat_map (attribute_classes b) zs) ≡ if_class b (length (flat_map clause_has zs))
  counted_clauses b [] = none_of b
  counted_clauses b (z ∷ zs) =
      rw (
        sum_by-append (λ (m : Name). cond (bytes_eq c m) 1 0) (attribute_classes b z)
            (flat_map (attribute_classes b) zs),
        length-append (clause_has z) (flat_map clause_has zs),
      )
      (sum_if b (length (clause_has z)) (length (flat_map clause_has zs))
      (count_by (bytes_eq c) (attribute_classes b z))
      (count_by (bytes_eq c) (flat_map (attribute_classes b) zs)) (counted_clause b z) (counted_clauses b zs))

  system_clauses : (zs : List Clause) → attributes (flat_map (clause_facts None) zs) ≡ []
  system_clauses [] = refl
  system_clauses (Has ns ∷ zs) =
      rw (
        attributes_both c (map (λ n. fact n k.Variable) (all_of ns)) (flat_map (clause_facts None) zs),
        no_variables (all_of ns),
      ) (system_clauses zs)
  system_clauses (Owns ns ∷ zs) =
      rw (attributes_both c (flat_map set_facts (all_of ns)) (flat_map (clause_facts None) zs), no_sets (all_of ns))
      (system_clauses zs)
  system_clauses (BelongsTo ns ∷ zs) =
      rw (attributes_both c (flat_map set_facts (all_of ns)) (flat_map (clause_facts None) zs), no_sets (all_of ns))
      (system_clauses zs)

  abbrev facts_of : Option Heading → Item → Facts
  facts_of h i = item_facts h i ++ flat_map (clause_facts (class_of_item i)) (clauses_of i)

  -- the attributes that an item declares are those that the limits count
  many_item : (h : Option Heading) (i : Item) → length (attributes (facts_of h i)) ≡ limits.attribute_count c i
  many_item h Normally = refl
  many_item h (Headed g None) = refl
  many_item h (Headed g (Some ns)) =
      ap (λ (fs : Facts). length (attributes fs)) (nothing_more (flat_map (class_facts (Some g)) (all_of ns)))
      ∙ ap length (no_classes (Some g) (all_of ns))
  many_item h (OfEvery b zs) =
      ap length (attributes_both c (class_facts h b) (flat_map (clause_facts (Some b)) (all_of zs))
      ∙ ap (λ (ns : List Name). ns ++ attributes (flat_map (clause_facts (Some b)) (all_of zs))) (no_class h b))
      ∙ many_clauses b (all_of zs)
  many_item h (OfSystem zs) = ap length (system_clauses (all_of zs))
  many_item h (Defines (Variables ns)) =
      ap (λ (fs : Facts). length (attributes fs)) (nothing_more (map (λ n. fact n k.Variable) (all_of ns)))
      ∙ ap length (no_variables (all_of ns))
  many_item h (Defines (Sets ns kind)) =
      ap (λ (fs : Facts). length (attributes fs)) (nothing_more (flat_map set_facts (all_of ns)))
      ∙ ap length (no_sets (all_of ns))
  many_item h (Orders r) = refl

  counted_item : (i : Item) → count_by (bytes_eq c) (attributes_in i) ≡ limits.attribute_count c i
  counted_item Normally = refl
  counted_item (Headed g ns) = refl
  counted_item (OfEvery b zs) = counted_clauses b (all_of zs)
  counted_item (OfSystem zs) = refl
  counted_item (Defines x) = refl
  counted_item (Orders r) = refl

  -- of entries
  abbrev total : List HeadedItem → ℕ
  total xs = sum_by (λ x. limits.attribute_count c x.item) xs

  many_entries : (xs : List HeadedItem) → length (attributes (declared xs)) ≡ total xs
  many_entries [] = refl
  many_entries (x ∷ xs) =
      rw (
        attributes_both c (declarations x) (declared xs),
        length-append (attributes (declarations x)) (attributes (declared xs)),
        sum_by-cons (λ (y : HeadedItem). limits.attribute_count c y.item) x xs,
        many_item x.heading x.item,
        many_entries xs,
      ) refl

  counted_entries : (xs : List HeadedItem) → count_by (bytes_eq c) (flat_map (λ x. attributes_in x.item) xs) ≡ total xs
  counted_entries [] = refl
  counted_entries (x ∷ xs) =
      rw (
        sum_by-append (λ (m : Name). cond (bytes_eq c m) 1 0) (attributes_in x.item)
            (flat_map (λ y. attributes_in y.item) xs),
        sum_by-cons (λ (y : HeadedItem). limits.attribute_count c y.item) x xs,
      )
      (let a = counted_item x.item in let b = counted_entries xs in omega (arith, a, b))

  all_attributes : (xs : List HeadedItem) (hs : List Head) → length (attributes_of (declared_by xs hs) c) ≡ total xs
  all_attributes xs hs =
      rw (
        attributes_both c (language_facts ++ declared xs) (flat_map routine_facts hs),
        routines_none c hs,
        nothing_more (attributes (language_facts ++ declared xs)),
      )
      (many_entries xs)

  -- the checker counts the attributes of a class
  pub attributes_counted : (xs : List HeadedItem) (hs : List Head) →
      attribute_count (declared_by xs hs) c ≡ length (attributes_of (declared_by xs hs) c)
  attributes_counted xs hs = counted_entries xs ∙ sym (all_attributes xs hs)

  total_items : (g : Option Heading) (is : List ItemAt) →
      total (headed_items_under g is) ≡ sum_by (limits.attribute_count c) (map (λ i. i.item) is)
  total_items g [] = refl
  total_items g (i ∷ is) =
      sum_by-cons (λ (y : HeadedItem). limits.attribute_count c y.item)
      (record { line = i.line; heading = heading_at g i.item; item = i.item })
      (headed_items_under (heading_at g i.item) is)
      ∙ (let a = total_items (heading_at g i.item) is in
      let b = sum_by-cons (limits.attribute_count c) i.item (map (λ (j : ItemAt). j.item) is) in omega (arith, a, b))

  pub few_attributes : (is : List ItemAt) (hs : List Head) → IsWithin (map (λ i. i.item) is) →
      length (attributes_of (declared_by (headed_items is) hs) c) ≤ 32
  few_attributes is hs h =
      let a = all_attributes (headed_items is) hs in let b = total_items None is in let l = h.attributes c in
      omega (arith, a, b, l)

-- ---- items and entries

flat_entries : {X : Type 0} (f : Item → List X) (g : Option Heading) (is : List ItemAt) →
    flat_map (λ x. f x.item) (headed_items_under g is) ≡ flat_map f (map (λ i. i.item) is)
flat_entries f g [] = refl
flat_entries f g (i ∷ is) = ap (λ zs. f i.item ++ zs) (flat_entries f (heading_at g i.item) is)

-- each item of a preamble is in an entry
pub entry_of : (g : Option Heading) (is : List ItemAt) (i : ItemAt) → In i is →
    (x : HeadedItem) × In x (headed_items_under g is) × (x.item ≡ i.item)
entry_of g [] i h = absurd h
entry_of g (j ∷ js) i (inl e) = (
  record { line = j.line; heading = heading_at g j.item; item = j.item },
  inl refl,
  ap (λ (z : ItemAt). z.item) (sym e),
)
entry_of g (j ∷ js) i (inr h) = let p = entry_of (heading_at g j.item) js i h in (p.0, inr p.1, p.2)

all_in : {X : Type 0} (P : X → Type 0) (x : X) (xs : List X) → All P xs → In x xs → P x
all_in P x [] h i = absurd i
all_in P x (y ∷ ys) h (inl e) = subst P (sym e) (All-head P y ys h)
all_in P x (y ∷ ys) h (inr i) = all_in P x ys (All-tail P y ys h) i

-- the keys of an item are few
pub few_keys : (is : List ItemAt) (i : ItemAt) → IsWithin (map (λ i. i.item) is) → In i is → key_count i.item ≤ 8
few_keys is i h there =
    all_in (λ j. key_count j ≤ 8) i.item (map (λ j. j.item) is) h.keys (in_map (λ (j : ItemAt). j.item) i is there)

-- ---- classes, sets and variables

set_clause : (z : Clause) (s : Name) → In s (sets_of z) → In s (clause_sets z)
set_clause (Has ns) s h = absurd h
set_clause (Owns ns) s h = h
set_clause (BelongsTo ns) s h = h

set_clauses : (zs : List Clause) (s : Name) → In s (flat_map sets_of zs) → In s (flat_map clause_sets zs)
set_clauses zs s h = let p = flat_in sets_of s zs h in in_flat clause_sets p.one s zs p.there (set_clause p.one s p.has)

set_item : (i : Item) (s : Name) → In s (sets_in i) → In s (set_names i)
set_item Normally s h = absurd h
set_item (Headed g ns) s h = absurd h
set_item (OfEvery b zs) s h = set_clauses (all_of zs) s h
set_item (OfSystem zs) s h = set_clauses (all_of zs) s h
set_item (Defines (Variables ns)) s h = absurd h
set_item (Defines (Sets ns kind)) s h = subst (λ (ms : List Name). In s ms) (nothing_more (all_of ns)) h
set_item (Orders r) s h = absurd h

variables_counted : (i : Item) → length (variables_in i) ≡ variable_count i
variables_counted Normally = refl
variables_counted (Headed g ns) = refl
variables_counted (OfEvery b zs) = refl
variables_counted (OfSystem zs) = refl
variables_counted (Defines (Variables ns)) = refl
variables_counted (Defines (Sets ns kind)) = refl
variables_counted (Orders r) = refl

all_variables : (is : List Item) → length (flat_map variables_in is) ≡ sum_by variable_count is
all_variables [] = refl
all_variables (i ∷ is) =
    length-append (variables_in i) (flat_map variables_in is)
    ∙ (let a = variables_counted i in let b = all_variables is in let e =
    sum_by-cons variable_count i is in omega (arith, a, b, e))

module _ (is : List ItemAt) (hs : List Head) (h : AreItemsKept (declared_by (headed_items is) hs) [] (headed_items is))
    (w : IsWithin (map (λ i. i.item) is)) where
  abbrev items : List Item
  items = map (λ i. i.item) is

  -- the names in a class's declaration
  pub class_named : (c : Name) (g : Option Heading) → In (fact c (k.Class g)) (all_kinds (headed_items is) hs) →
      In c (flat_map class_names items)
  class_named c g i =
      subst (λ (ns : List Name). In c ns) (flat_entries class_names None is)
      (by g (all_closed (headed_items is) hs (fact c (k.Class g)) i))
    where
      by : (g : Option Heading) →
          IsClosed (all_kinds (headed_items is) hs) (names_all (headed_items is) hs) c (k.Class g) →
          In c (flat_map (λ x. class_names x.item) (headed_items is))
      by None x = x
      by (Some PermanentEntities) x = x.0
      by (Some TemporaryEntities) x = x
      by (Some EventNotices) x = x

  abbrev classes : List Name
  classes = (v (headed_items is) hs h).classes

  abbrev sets : List Name
  sets = (v (headed_items is) hs h).sets

  abbrev globals : List Name
  globals = (v (headed_items is) hs h).globals

  class_kind_of : (c : Name) (j : NameKind) → is_class j ≡ true → In (fact c j) (all_kinds (headed_items is) hs) →
      In c (flat_map class_names items)
  class_kind_of c (k.Class g) t i = class_named c g i
  class_kind_of c k.Variable t i = absurd (false≢true t)
  class_kind_of c k.ClassCount t i = absurd (false≢true t)
  class_kind_of c (k.Attribute b) t i = absurd (false≢true t)
  class_kind_of c (k.OwnerKept q s) t i = absurd (false≢true t)
  class_kind_of c (k.MemberKept q s) t i = absurd (false≢true t)
  class_kind_of c (k.Function f) t i = absurd (false≢true t)
  class_kind_of c k.Clock t i = absurd (false≢true t)
  class_kind_of c k.Set t i = absurd (false≢true t)
  class_kind_of c k.Routine t i = absurd (false≢true t)

  pub few_classes : length classes ≤ 64
  few_classes =
      let kinds = (d (headed_items is) hs h).kinds in
      let l = as_many_at_least classes (limits.distinct (flat_map class_names items))
      (once_apart (names_where is_class kinds))
      (λ c i. let p = where_from is_class c kinds (once_from c (names_where is_class kinds) i) in
      once_has c (flat_map class_names items) (class_kind_of c p.what p.passes p.there)) in
      let m = w.classes in omega (arith, l, m)

  set_kind_of : (s : Name) (j : NameKind) → names_set (Some j) ≡ true → In (fact s j) (all_kinds (headed_items is) hs) →
      In s (flat_map set_names items)
  set_kind_of s k.Set t i =
      let p = flat_in (λ (x : HeadedItem). sets_in x.item) s (headed_items is)
      (all_closed (headed_items is) hs (fact s k.Set) i) in
      let x = p.one in
      subst (λ (ns : List Name). In s ns) (flat_entries set_names None is)
      (in_flat (λ (y : HeadedItem). set_names y.item) x s (headed_items is) p.there (set_item x.item s p.has))
  set_kind_of s (k.Class g) t i = absurd (false≢true t)
  set_kind_of s k.Variable t i = absurd (false≢true t)
  set_kind_of s k.ClassCount t i = absurd (false≢true t)
  set_kind_of s (k.Attribute b) t i = absurd (false≢true t)
  set_kind_of s (k.OwnerKept q r) t i = absurd (false≢true t)
  set_kind_of s (k.MemberKept q r) t i = absurd (false≢true t)
  set_kind_of s (k.Function f) t i = absurd (false≢true t)
  set_kind_of s k.Clock t i = absurd (false≢true t)
  set_kind_of s k.Routine t i = absurd (false≢true t)

  pub few_sets : length sets ≤ 64
  few_sets =
      let kinds = (d (headed_items is) hs h).kinds in
      let l = as_many_at_least sets (limits.distinct (flat_map set_names items)) (once_apart (names_where is_set kinds))
      (λ s i. let p = where_from is_set s kinds (once_from s (names_where is_set kinds) i) in
      once_has s (flat_map set_names items) (set_kind_of s p.what p.passes p.there)) in
      let m = w.sets in omega (arith, l, m)

  -- classes, N.c of classes, and variables
  abbrev bound : List Name
  bound = classes ++ (map (λ c. codes "N." ++ c) classes ++ flat_map variables_in items)

  global_kind_of : (n : Name) (j : NameKind) → is_global j ≡ true → In (fact n j) (all_kinds (headed_items is) hs) →
      In n bound
  global_kind_of n (k.Class g) t i =
      in_left n classes (map (λ c. codes "N." ++ c) classes ++ flat_map variables_in items)
      (class_in (headed_items is) hs h n (g, i))
  global_kind_of n k.ClassCount t i =
      let p = all_closed (headed_items is) hs (fact n k.ClassCount) i in
      in_right n classes (map (λ c. codes "N." ++ c) classes ++ flat_map variables_in items)
      (in_left n (map (λ c. codes "N." ++ c) classes) (flat_map variables_in items)
      (subst (λ (m : Name). In m (map (λ c. codes "N." ++ c) classes)) (sym p.named)
      (in_map (λ c. codes "N." ++ c) p.class classes (class_in (headed_items is) hs h p.class p.there))))
  global_kind_of n k.Variable t i =
      in_right n classes (map (λ c. codes "N." ++ c) classes ++ flat_map variables_in items)
      (in_right n (map (λ c. codes "N." ++ c) classes) (flat_map variables_in items)
      (subst (λ (ns : List Name). In n ns) (flat_entries variables_in None is)
      (all_closed (headed_items is) hs (fact n k.Variable) i)))
  global_kind_of n (k.Attribute b) t i = absurd (false≢true t)
  global_kind_of n (k.OwnerKept q r) t i = absurd (false≢true t)
  global_kind_of n (k.MemberKept q r) t i = absurd (false≢true t)
  global_kind_of n (k.Function f) t i = absurd (false≢true t)
  global_kind_of n k.Clock t i = absurd (false≢true t)
  global_kind_of n k.Set t i = absurd (false≢true t)
  global_kind_of n k.Routine t i = absurd (false≢true t)

  pub few_globals : length globals ≤ 384
  few_globals =
      let kinds = (d (headed_items is) hs h).kinds in
      let l = as_many_at_least globals bound (once_apart (names_where is_global kinds))
      (λ n i. let p =
      where_from is_global n kinds (once_from n (names_where is_global kinds) i) in
      global_kind_of n p.what p.passes p.there) in
      let a = length-append classes (map (λ (c : Name). codes "N." ++ c) classes ++ flat_map variables_in items) in
      let b = length-append (map (λ (c : Name). codes "N." ++ c) classes) (flat_map variables_in items) in
      let e = length-map classes (λ (c : Name). codes "N." ++ c) in
      let f = all_variables items in
      let m = w.variables in
      let n = few_classes in
      omega (arith, l, a, b, e, f, m, n)
