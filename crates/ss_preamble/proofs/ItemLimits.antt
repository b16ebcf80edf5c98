-- The counts of the words of a preamble are within the limits exactly if its items are.
use Rattle.std.proofs.Common.{◌≡◌, ℕ, zero, suc, ◌+◌, ◌-◌, ◌≤◌, Bool, true, false, cond, not, leb, leb-true, bytes_eq}
use Rattle.std.proofs.Common.{arith}
use Rattle.std.proofs.Common.{List, [], ◌∷◌, ◌++◌, length, length-append, Option, Some, None, refl, sym, ap, subst, ◌∙◌}
use Rattle.std.specs.Prelude.{if◌then◌else◌, All}
use Rattle.std.specs.List.{flat_map, count_by, sum_by}
use Rattle.std.proofs.lemmas.Grind.{flat_map-append}
use Rattle.std.proofs.lemmas.List.{append-nil}
use Rattle.std.proofs.lemmas.List.Sums.{sum_by-cons}
use Rattle.ss_words.specs.Lists.{Name, Several, all_of}
use Rattle.ss_words.specs.declared.limits.TheConstants.{MOST_CLASSES, MOST_SETS, MOST_KEYS}
use Rattle.ss_preamble.specs.Tree.{Key, Clause, Has, Owns, BelongsTo, SetDiscipline, Fifo, Lifo, Ranked, Item, Normally}
use Rattle.ss_preamble.specs.Tree.{Variables, Sets, PriorityOrder, BreakTies, ExternalEvents, Headed, OfEvery}
use Rattle.ss_preamble.specs.Tree.{OfSystem, Defines, Orders, Preamble}
use Rattle.ss_preamble.specs.Spelling.{spell}
use Rattle.ss_preamble.specs.Roles.{Role, AClass, AVariable, ASet, AKey, Nothing, owned_role, roles}
use Rattle.ss_preamble.specs.Limits.{distinct, class_names, clause_sets, set_names, clause_has, has_count}
use Rattle.ss_preamble.specs.Limits.{attribute_count, variable_count, key_count, IsWithin}
use Rattle.ss_preamble.specs.WordLimits.{class_of, set_of, is_attribute_of, is_variable, is_late_key, AreWithin}
use Rattle.ss_preamble.specs.Laws.{WordsCountItems}
use Rattle.ss_preamble.proofs.Counting.{no_le}
use Rattle.ss_preamble.proofs.ItemRoles.{others_roles, names_roles, clause_roles, clauses_roles, other_keys_roles}
use Rattle.ss_preamble.proofs.ItemRoles.{keys_roles, kind_roles, item_roles, roles_of}

-- ---- the elements that the words of an item give, if words that count to nothing give none

module _ {A : Type 0} (g : Role → List A) (none : g Nothing ≡ []) where
  others : (f : Name → Role) (ns : List Name) → flat_map g (others_roles f ns) ≡ flat_map (λ n. g (f n)) ns
  others f [] = refl
  others f (n ∷ ns) =
      ap (λ (u : List A). u ++ (g (f n) ++ flat_map g (others_roles f ns))) none
      ∙ ap (λ (u : List A). g (f n) ++ u) (others f ns)

  names : (f : Name → Role) (ns : Several Name) → flat_map g (names_roles f ns) ≡ flat_map (λ n. g (f n)) (all_of ns)
  names f ns = ap (λ (u : List A). g (f ns.first) ++ u) (others f ns.others)

  -- a word that counts to nothing
  behind : (rs : List Role) → flat_map g (Nothing ∷ rs) ≡ flat_map g rs
  behind rs = ap (λ (u : List A). u ++ flat_map g rs) none

  behind_two : (rs : List Role) → flat_map g (Nothing ∷ Nothing ∷ rs) ≡ flat_map g rs
  behind_two rs = behind (Nothing ∷ rs) ∙ behind rs

  behind_three : (rs : List Role) → flat_map g (Nothing ∷ Nothing ∷ Nothing ∷ rs) ≡ flat_map g rs
  behind_three rs = behind (Nothing ∷ Nothing ∷ rs) ∙ behind_two rs

  -- the elements that g gives for the names of a clause, for this owner
  abbrev of_clause : Option Name → Clause → List A
  of_clause o (Has ns) = flat_map (λ n. g (owned_role o)) (all_of ns)
  of_clause o (Owns ns) = flat_map (λ n. g (ASet n)) (all_of ns)
  of_clause o (BelongsTo ns) = flat_map (λ n. g (ASet n)) (all_of ns)

  clause : (o : Option Name) (x : Clause) → flat_map g (clause_roles o x) ≡ of_clause o x
  clause o (Has ns) = behind (names_roles (λ n. owned_role o) ns) ∙ names (λ n. owned_role o) ns
  clause o (Owns ns) = behind (names_roles ASet ns) ∙ names ASet ns
  clause o (BelongsTo ns) = behind_two (names_roles ASet ns) ∙ names ASet ns

  clauses : (o : Option Name) (cs : List Clause) → flat_map g (flat_map (clause_roles o) cs) ≡ flat_map (of_clause o) cs
  clauses o [] = refl
  clauses o (x ∷ cs) =
      flat_map-append g (clause_roles o x) (flat_map (clause_roles o) cs)
      ∙ ap (λ (u : List A). u ++ flat_map g (flat_map (clause_roles o) cs)) (clause o x)
      ∙ ap (λ (u : List A). of_clause o x ++ u) (clauses o cs)

  -- the elements that g gives for the keys of a set
  abbrev of_kind : SetDiscipline → List A
  of_kind (Ranked ks) = flat_map g (keys_roles ks)
  of_kind _ = []

  kind : (x : SetDiscipline) → flat_map g (kind_roles x) ≡ of_kind x
  kind Fifo = behind_two []
  kind Lifo = behind_two []
  kind (Ranked ks) = behind_two (keys_roles ks)

  -- the elements that g gives for the names of an item
  abbrev of_item : Item → List A
  of_item Normally = []
  of_item (Headed h None) = []
  of_item (Headed h (Some ns)) = flat_map (λ n. g (AClass n)) (all_of ns)
  of_item (OfEvery n cs) = g (AClass n) ++ flat_map (of_clause (Some n)) (all_of cs)
  of_item (OfSystem cs) = flat_map (of_clause None) (all_of cs)
  of_item (Defines (Variables ns)) = flat_map (λ n. g AVariable) (all_of ns)
  of_item (Defines (Sets ns x)) = flat_map (λ n. g (ASet n)) (all_of ns) ++ of_kind x
  of_item (Orders (PriorityOrder ns)) = []
  of_item (Orders (BreakTies n ks)) = flat_map g (keys_roles ks)
  of_item (Orders (ExternalEvents ns)) = []

  no_names : (ns : List Name) → flat_map (λ (n : Name). g Nothing) ns ≡ []
  no_names [] = refl
  no_names (n ∷ ns) = ap (λ (u : List A). u ++ flat_map (λ (n : Name). g Nothing) ns) none ∙ no_names ns

  uncounted : (ns : Several Name) → flat_map g (Nothing ∷ Nothing ∷ Nothing ∷ names_roles (λ n. Nothing) ns) ≡ []
  uncounted ns =
      behind_three (names_roles (λ n. Nothing) ns) ∙ names (λ n. Nothing) ns ∙ no_names (all_of ns)

  item : (i : Item) → flat_map g (item_roles i) ≡ of_item i
  item Normally = behind_three (Nothing ∷ []) ∙ behind []
  item (Headed h None) = behind_two []
  item (Headed h (Some ns)) = behind_three (names_roles AClass ns) ∙ names AClass ns
  item (OfEvery n cs) =
      behind (AClass n ∷ clauses_roles (Some n) cs)
      ∙ ap (λ (u : List A). g (AClass n) ++ u) (clauses (Some n) (all_of cs))
  item (OfSystem cs) = behind (clauses_roles None cs) ∙ clauses None (all_of cs)
  item (Defines (Variables ns)) =
      behind (names_roles (λ n. AVariable) ns ++ Nothing ∷ Nothing ∷ Nothing ∷ [])
      ∙ flat_map-append g (names_roles (λ n. AVariable) ns) (Nothing ∷ Nothing ∷ Nothing ∷ [])
      ∙ ap (λ (u : List A). flat_map g (names_roles (λ n. AVariable) ns) ++ u) (behind_three [])
      ∙ append-nil (flat_map g (names_roles (λ n. AVariable) ns)) ∙ names (λ n. AVariable) ns
  item (Defines (Sets ns x)) =
      behind (names_roles ASet ns ++ Nothing ∷ kind_roles x)
      ∙ flat_map-append g (names_roles ASet ns) (Nothing ∷ kind_roles x)
      ∙ ap (λ (u : List A). flat_map g (names_roles ASet ns) ++ u) (behind (kind_roles x) ∙ kind x)
      ∙ ap (λ (u : List A). u ++ of_kind x) (names ASet ns)
  item (Orders (PriorityOrder ns)) = uncounted ns
  item (Orders (BreakTies n ks)) = behind_three (keys_roles ks)
  item (Orders (ExternalEvents ns)) = uncounted ns

  items : (is : List Item) → flat_map g (flat_map item_roles is) ≡ flat_map of_item is
  items [] = refl
  items (i ∷ is) =
      flat_map-append g (item_roles i) (flat_map item_roles is)
      ∙ ap (λ (u : List A). u ++ flat_map g (flat_map item_roles is)) (item i)
      ∙ ap (λ (u : List A). of_item i ++ u) (items is)

  -- the words of a preamble
  words : (is : Preamble) → flat_map g (roles (spell is)) ≡ flat_map of_item is
  words is =
      ap (flat_map g) (roles_of is) ∙ behind (flat_map item_roles is ++ Nothing ∷ [])
      ∙ flat_map-append g (flat_map item_roles is) (Nothing ∷ [])
      ∙ ap (λ (u : List A). flat_map g (flat_map item_roles is) ++ u) (behind [])
      ∙ append-nil (flat_map g (flat_map item_roles is)) ∙ items is

-- each name itself
singles : (ns : List Name) → flat_map (λ n. n ∷ []) ns ≡ ns
singles [] = refl
singles (n ∷ ns) = ap (λ (u : List Name). n ∷ u) (singles ns)

module _ {X A : Type 0} where
  -- the same of each
  alike : (f f' : X → List A) → ((x : X) → f x ≡ f' x) → (xs : List X) → flat_map f xs ≡ flat_map f' xs
  alike f f' same [] = refl
  alike f f' same (x ∷ xs) =
      ap (λ (u : List A). u ++ flat_map f xs) (same x) ∙ ap (λ (u : List A). f' x ++ u) (alike f f' same xs)

  -- nothing for each
  empty : (xs : List X) → flat_map (λ (x : X). let none : List A = [] in none) xs ≡ []
  empty [] = refl
  empty (x ∷ xs) = empty xs

  nothing : (f : X → List A) → ((x : X) → f x ≡ []) → (xs : List X) → flat_map f xs ≡ []
  nothing f none xs = alike f (λ x. []) none xs ∙ empty xs

-- ---- classes

class_clause : (o : Option Name) (x : Clause) → of_clause class_of refl o x ≡ []
class_clause None (Has ns) = empty (all_of ns)
class_clause (Some n) (Has ns) = empty (all_of ns)
class_clause o (Owns ns) = empty (all_of ns)
class_clause o (BelongsTo ns) = empty (all_of ns)

class_keys : (j : ℕ) (ks : List Key) → flat_map class_of (other_keys_roles j ks) ≡ []
class_keys j [] = refl
class_keys j (a ∷ ks) = class_keys (suc j) ks

class_item : (i : Item) → of_item class_of refl i ≡ class_names i
class_item Normally = refl
class_item (Headed h None) = refl
class_item (Headed h (Some ns)) = singles (all_of ns)
class_item (OfEvery n cs) =
    ap (λ (u : List Name). n ∷ u) (nothing (of_clause class_of refl (Some n)) (class_clause (Some n)) (all_of cs))
class_item (OfSystem cs) = nothing (of_clause class_of refl None) (class_clause None) (all_of cs)
class_item (Defines (Variables ns)) = empty (all_of ns)
class_item (Defines (Sets ns Fifo)) = append-nil _ ∙ empty (all_of ns)
class_item (Defines (Sets ns Lifo)) = append-nil _ ∙ empty (all_of ns)
class_item (Defines (Sets ns (Ranked ks))) =
    ap (λ (u : List Name). flat_map (λ (n : Name). class_of (ASet n)) (all_of ns) ++ u) (class_keys 1 ks.others)
    ∙ append-nil _ ∙ empty (all_of ns)
class_item (Orders (PriorityOrder ns)) = refl
class_item (Orders (BreakTies n ks)) = class_keys 1 ks.others
class_item (Orders (ExternalEvents ns)) = refl

class_words : (is : Preamble) → flat_map class_of (roles (spell is)) ≡ flat_map class_names is
class_words is = words class_of refl is ∙ alike (of_item class_of refl) class_names class_item is

-- ---- sets

set_clause : (o : Option Name) (x : Clause) → of_clause set_of refl o x ≡ clause_sets x
set_clause None (Has ns) = empty (all_of ns)
set_clause (Some n) (Has ns) = empty (all_of ns)
set_clause o (Owns ns) = singles (all_of ns)
set_clause o (BelongsTo ns) = singles (all_of ns)

set_keys : (j : ℕ) (ks : List Key) → flat_map set_of (other_keys_roles j ks) ≡ []
set_keys j [] = refl
set_keys j (a ∷ ks) = set_keys (suc j) ks

set_item : (i : Item) → of_item set_of refl i ≡ set_names i
set_item Normally = refl
set_item (Headed h None) = refl
set_item (Headed h (Some ns)) = empty (all_of ns)
set_item (OfEvery n cs) = alike (of_clause set_of refl (Some n)) clause_sets (set_clause (Some n)) (all_of cs)
set_item (OfSystem cs) = alike (of_clause set_of refl None) clause_sets (set_clause None) (all_of cs)
set_item (Defines (Variables ns)) = empty (all_of ns)
set_item (Defines (Sets ns Fifo)) = append-nil _ ∙ singles (all_of ns)
set_item (Defines (Sets ns Lifo)) = append-nil _ ∙ singles (all_of ns)
set_item (Defines (Sets ns (Ranked ks))) =
    ap (λ (u : List Name). flat_map (λ (n : Name). set_of (ASet n)) (all_of ns) ++ u) (set_keys 1 ks.others)
    ∙ append-nil _ ∙ singles (all_of ns)
set_item (Orders (PriorityOrder ns)) = refl
set_item (Orders (BreakTies n ks)) = set_keys 1 ks.others
set_item (Orders (ExternalEvents ns)) = refl

set_words : (is : Preamble) → flat_map set_of (roles (spell is)) ≡ flat_map set_names is
set_words is = words set_of refl is ∙ alike (of_item set_of refl) set_names set_item is

-- ---- the names that are counted as written

-- one that counts
abbrev Mark : Type 0
Mark = Unit {0}

-- one mark for each that is counted
abbrev marks : (Role → Bool) → Role → List Mark
marks p r = if p r then tt ∷ [] else []

one_mark : (b : Bool) → length (let us : List Mark = if b then tt ∷ [] else [] in us) ≡ (let k : ℕ = cond b 1 0 in k)
one_mark true = refl
one_mark false = refl

count_is : (p : Role → Bool) (rs : List Role) → count_by p rs ≡ length (flat_map (marks p) rs)
count_is p [] = refl
count_is p (r ∷ rs) =
    let h = sum_by-cons (λ x. cond (p x) 1 0) r rs in
    let k = length-append (marks p r) (flat_map (marks p) rs) in
    let one = one_mark (p r) in
    let rest = count_is p rs in
    omega (arith, h, k, one, rest)

sum_is : {X : Type 0} (f : X → List Mark) (g : X → ℕ) → ((x : X) → length (f x) ≡ g x) → (xs : List X)
    → length (flat_map f xs) ≡ sum_by g xs
sum_is f g same [] = refl
sum_is f g same (x ∷ xs) =
    let h = sum_by-cons g x xs in
    let k = length-append (f x) (flat_map f xs) in
    let one = same x in
    let rest = sum_is f g same xs in
    omega (arith, h, k, one, rest)

-- one mark for each name
each_name : (ns : List Name) → length (flat_map (λ (n : Name). let one : List Mark = tt ∷ [] in one) ns) ≡ length ns
each_name [] = refl
each_name (n ∷ ns) = ap suc (each_name ns)

-- the names after HAS, if they are counted
has_marks : (f : Clause → List Mark) → ((x : Clause) → length (f x) ≡ length (clause_has x)) → (cs : List Clause)
    → length (flat_map f cs) ≡ length (flat_map clause_has cs)
has_marks f same [] = refl
has_marks f same (x ∷ cs) =
    let h = length-append (f x) (flat_map f cs) in
    let k = length-append (clause_has x) (flat_map clause_has cs) in
    let one = same x in
    let rest = has_marks f same cs in
    omega (arith, h, k, one, rest)

none_of : {X : Type 0} (us : List X) → us ≡ [] → length us ≡ 0
none_of us e = ap length e

-- ---- variables

variable_clause : (x : Clause) → length (of_clause (marks is_variable) refl None x) ≡ length (clause_has x)
variable_clause (Has ns) = each_name (all_of ns)
variable_clause (Owns ns) = none_of _ (empty (all_of ns))
variable_clause (BelongsTo ns) = none_of _ (empty (all_of ns))

attribute_no_variable : (n : Name) (x : Clause) → of_clause (marks is_variable) refl (Some n) x ≡ []
attribute_no_variable n (Has ns) = empty (all_of ns)
attribute_no_variable n (Owns ns) = empty (all_of ns)
attribute_no_variable n (BelongsTo ns) = empty (all_of ns)

variable_keys : (j : ℕ) (ks : List Key) → flat_map (marks is_variable) (other_keys_roles j ks) ≡ []
variable_keys j [] = refl
variable_keys j (a ∷ ks) = variable_keys (suc j) ks

variable_item : (i : Item) → length (of_item (marks is_variable) refl i) ≡ variable_count i
variable_item Normally = refl
variable_item (Headed h None) = refl
variable_item (Headed h (Some ns)) = none_of _ (empty (all_of ns))
variable_item (OfEvery n cs) =
    none_of _ (nothing (of_clause (marks is_variable) refl (Some n)) (attribute_no_variable n) (all_of cs))
variable_item (OfSystem cs) = has_marks (of_clause (marks is_variable) refl None) variable_clause (all_of cs)
variable_item (Defines (Variables ns)) = each_name (all_of ns)
variable_item (Defines (Sets ns Fifo)) = none_of _ (append-nil _ ∙ empty (all_of ns))
variable_item (Defines (Sets ns Lifo)) = none_of _ (append-nil _ ∙ empty (all_of ns))
variable_item (Defines (Sets ns (Ranked ks))) = none_of _ (
    ap (λ (u : List Mark). flat_map (λ (n : Name). marks is_variable (ASet n)) (all_of ns) ++ u)
    (variable_keys 1 ks.others)
    ∙ append-nil _ ∙ empty (all_of ns))
variable_item (Orders (PriorityOrder ns)) = refl
variable_item (Orders (BreakTies n ks)) = none_of _ (variable_keys 1 ks.others)
variable_item (Orders (ExternalEvents ns)) = refl

variable_words : (is : Preamble) → count_by is_variable (roles (spell is)) ≡ sum_by variable_count is
variable_words is =
    count_is is_variable (roles (spell is)) ∙ ap length (words (marks is_variable) refl is)
    ∙ sum_is (of_item (marks is_variable) refl) variable_count variable_item is

-- ---- attributes

module _ (c : Name) where
  -- one for each attribute of c
  abbrev attribute : Role → List Mark
  attribute r = marks (is_attribute_of c) r

  attribute_clause : (n : Name) → bytes_eq c n ≡ true → (x : Clause)
      → length (of_clause attribute refl (Some n) x) ≡ length (clause_has x)
  attribute_clause n e (Has ns) =
      ap (λ (b : Bool). length (flat_map (λ (m : Name). let us : List Mark = if b then tt ∷ [] else [] in us)
      (all_of ns))) e
      ∙ each_name (all_of ns)
  attribute_clause n e (Owns ns) = none_of _ (empty (all_of ns))
  attribute_clause n e (BelongsTo ns) = none_of _ (empty (all_of ns))

  other_attribute : (n : Name) → bytes_eq c n ≡ false → (x : Clause) → of_clause attribute refl (Some n) x ≡ []
  other_attribute n e (Has ns) =
      ap (λ (b : Bool). flat_map (λ (m : Name). let us : List Mark = if b then tt ∷ [] else [] in us) (all_of ns)) e
      ∙ empty (all_of ns)
  other_attribute n e (Owns ns) = empty (all_of ns)
  other_attribute n e (BelongsTo ns) = empty (all_of ns)

  variable_no_attribute : (x : Clause) → of_clause attribute refl None x ≡ []
  variable_no_attribute (Has ns) = empty (all_of ns)
  variable_no_attribute (Owns ns) = empty (all_of ns)
  variable_no_attribute (BelongsTo ns) = empty (all_of ns)

  attribute_keys : (j : ℕ) (ks : List Key) → flat_map attribute (other_keys_roles j ks) ≡ []
  attribute_keys j [] = refl
  attribute_keys j (a ∷ ks) = attribute_keys (suc j) ks

  of_class : (n : Name) (cs : Several Clause) (b : Bool) → bytes_eq c n ≡ b
      → length (flat_map (of_clause attribute refl (Some n)) (all_of cs))
      ≡ (let k : ℕ = if b then has_count cs else 0 in k)
  of_class n cs true e = has_marks (of_clause attribute refl (Some n)) (attribute_clause n e) (all_of cs)
  of_class n cs false e = none_of _ (nothing (of_clause attribute refl (Some n)) (other_attribute n e) (all_of cs))

  attribute_item : (i : Item) → length (of_item attribute refl i) ≡ attribute_count c i
  attribute_item Normally = refl
  attribute_item (Headed h None) = refl
  attribute_item (Headed h (Some ns)) = none_of _ (empty (all_of ns))
  attribute_item (OfEvery n cs) = of_class n cs (bytes_eq c n) refl
  attribute_item (OfSystem cs) = none_of _ (nothing (of_clause attribute refl None) variable_no_attribute (all_of cs))
  attribute_item (Defines (Variables ns)) = none_of _ (empty (all_of ns))
  attribute_item (Defines (Sets ns Fifo)) = none_of _ (append-nil _ ∙ empty (all_of ns))
  attribute_item (Defines (Sets ns Lifo)) = none_of _ (append-nil _ ∙ empty (all_of ns))
  attribute_item (Defines (Sets ns (Ranked ks))) = none_of _ (
      ap (λ (u : List Mark). flat_map (λ (n : Name). attribute (ASet n)) (all_of ns) ++ u) (attribute_keys 1 ks.others)
      ∙ append-nil _ ∙ empty (all_of ns))
  attribute_item (Orders (PriorityOrder ns)) = refl
  attribute_item (Orders (BreakTies n ks)) = none_of _ (attribute_keys 1 ks.others)
  attribute_item (Orders (ExternalEvents ns)) = refl

  attribute_words : (is : Preamble) → count_by (is_attribute_of c) (roles (spell is)) ≡ sum_by (attribute_count c) is
  attribute_words is =
      count_is (is_attribute_of c) (roles (spell is)) ∙ ap length (words attribute refl is)
      ∙ sum_is (of_item attribute refl) (attribute_count c) attribute_item is

-- ---- keys

-- one for each key past its limit
abbrev late : Role → List Mark
late r = marks is_late_key r

-- whether key number k is past its limit
late_key : (k : ℕ) (b : Bool) → leb k MOST_KEYS ≡ b → length (late (AKey k)) ≡ (k - MOST_KEYS) - (k - 1 - MOST_KEYS)
late_key k true e =
    let le = leb-true k MOST_KEYS e in
    ap (λ (b : Bool). length (let us : List Mark = if not b then tt ∷ [] else [] in us)) e ∙ omega (arith, le)
late_key k false e =
    let more : k ≤ MOST_KEYS → ⊥ = no_le k MOST_KEYS e in
    ap (λ (b : Bool). length (let us : List Mark = if not b then tt ∷ [] else [] in us)) e ∙ omega (arith, more)

late_others : (j : ℕ) (ks : List Key)
    → length (flat_map late (other_keys_roles j ks)) ≡ (j + length ks - MOST_KEYS) - (j - MOST_KEYS)
late_others j [] = omega arith
late_others j (a ∷ ks) =
    let h = length-append (late (AKey (suc j))) (flat_map late (other_keys_roles (suc j) ks)) in
    let one = late_key (suc j) (leb (suc j) MOST_KEYS) refl in
    let rest = late_others (suc j) ks in
    omega (arith, h, one, rest)

late_keys : (ks : Several Key) → length (flat_map late (keys_roles ks)) ≡ length (all_of ks) - MOST_KEYS
late_keys ks = let h = late_others 1 ks.others in omega (arith, h)

late_clause : (o : Option Name) (x : Clause) → of_clause late refl o x ≡ []
late_clause None (Has ns) = empty (all_of ns)
late_clause (Some n) (Has ns) = empty (all_of ns)
late_clause o (Owns ns) = empty (all_of ns)
late_clause o (BelongsTo ns) = empty (all_of ns)

late_item : (i : Item) → length (of_item late refl i) ≡ key_count i - MOST_KEYS
late_item Normally = refl
late_item (Headed h None) = refl
late_item (Headed h (Some ns)) = none_of _ (empty (all_of ns))
late_item (OfEvery n cs) = none_of _ (nothing (of_clause late refl (Some n)) (late_clause (Some n)) (all_of cs))
late_item (OfSystem cs) = none_of _ (nothing (of_clause late refl None) (late_clause None) (all_of cs))
late_item (Defines (Variables ns)) = none_of _ (empty (all_of ns))
late_item (Defines (Sets ns Fifo)) = none_of _ (append-nil _ ∙ empty (all_of ns))
late_item (Defines (Sets ns Lifo)) = none_of _ (append-nil _ ∙ empty (all_of ns))
late_item (Defines (Sets ns (Ranked ks))) =
    ap (λ (u : List Mark). length (u ++ flat_map late (keys_roles ks))) (empty (all_of ns)) ∙ late_keys ks
late_item (Orders (PriorityOrder ns)) = refl
late_item (Orders (BreakTies n ks)) = late_keys ks
late_item (Orders (ExternalEvents ns)) = refl

late_words : (is : Preamble) → count_by is_late_key (roles (spell is)) ≡ sum_by (λ i. key_count i - MOST_KEYS) is
late_words is =
    count_is is_late_key (roles (spell is)) ∙ ap length (words late refl is)
    ∙ sum_is (of_item late refl) (λ i. key_count i - MOST_KEYS) late_item is

-- how many keys of an item are past the limit
abbrev over : Item → ℕ
over i = key_count i - MOST_KEYS

few_keys : (is : List Item) → sum_by over is ≡ 0 → All (λ i. key_count i ≤ MOST_KEYS) is
few_keys [] e k d lt = absurd (omega (arith, lt))
few_keys (i ∷ is) e zero d lt = let h = sum_by-cons over i is in omega (arith, h, e)
few_keys (i ∷ is) e (suc k) d lt =
    let h = sum_by-cons over i is in few_keys is (omega (arith, h, e)) k d (omega (arith, lt))

none_over : (is : List Item) → All (λ i. key_count i ≤ MOST_KEYS) is → sum_by over is ≡ 0
none_over [] few = refl
none_over (i ∷ is) few =
    let h = sum_by-cons over i is in
    let one : key_count i ≤ MOST_KEYS = few 0 i (omega arith) in
    let rest = none_over is (λ k d lt. few (suc k) d (omega (arith, lt))) in
    omega (arith, h, one, rest)

-- ---- within the limits

pub words_within : (is : Preamble) → IsWithin is → AreWithin (roles (spell is))
words_within is w = record {
  classes = subst (λ (ns : List Name). length (distinct ns) ≤ MOST_CLASSES) (sym (class_words is)) w.classes;
  attributes = λ c. (let h = attribute_words c is in let k = w.attributes c in omega (arith, h, k));
  variables = (let h = variable_words is in let k = w.variables in omega (arith, h, k));
  sets = subst (λ (ns : List Name). length (distinct ns) ≤ MOST_SETS) (sym (set_words is)) w.sets;
  keys = late_words is ∙ none_over is w.keys;
}

pub items_within : (is : Preamble) → AreWithin (roles (spell is)) → IsWithin is
items_within is w = record {
  classes = subst (λ (ns : List Name). length (distinct ns) ≤ MOST_CLASSES) (class_words is) w.classes;
  attributes = λ c. (let h = attribute_words c is in let k = w.attributes c in omega (arith, h, k));
  variables = (let h = variable_words is in let k = w.variables in omega (arith, h, k));
  sets = subst (λ (ns : List Name). length (distinct ns) ≤ MOST_SETS) (set_words is) w.sets;
  keys = few_keys is (sym (late_words is) ∙ w.keys);
}

pub words_count_items : WordsCountItems
words_count_items is = (words_within is, items_within is)
