-- Members of lists, names in tables and facts of names.
use Rattle.std.proofs.Common.{◌≡◌, ◌⊎◌, ◌<◌, ◌≤◌, ℕ, suc, ◌+◌, Bool, true, false, not, ◌||◌, cond, List, [], ◌∷◌, ◌++◌}
use Rattle.std.proofs.Common.{length, refl, sym, ap, ◌∙◌, arith, subst, Some}
use Rattle.std.specs.Prelude.{map, bytes_eq, slice_get, option_map}
use Rattle.std.specs.List.{All, IsDistinct, list_any, filter, find, flat_map, fold, position_or_len}
use mathlib.Core.Logic.{inl, inr}
use Rattle.std.proofs.lemmas.Bool.{or_parts}
use Rattle.std.proofs.lemmas.Cmp.{nat_list_eq_equiv}
use Rattle.std.proofs.lemmas.List.Elements.{All-nil, All-cons}
use Rattle.std.proofs.lemmas.Map.Keys.{IsDistinct-push}
use Rattle.std.proofs.lemmas.Map.Made.{length-le_from_is_member}
use Rattle.std.proofs.lemmas.Slice.Eq.{bytes_eq-Decides}
use Rattle.ss_words.specs.Lists.{Name}
use Rattle.ss_check.specs.Facts.{Fact, is_among, repeats, each_once, fact, fact_of, names_of}
use Rattle.ss_check.specs.ResolvedNames.{number, names_where}

-- ---- members

abbrev pub In : {X : Type 0} → X → List X → Type 0
In x [] = ⊥
In x (y ∷ ys) = (x ≡ y) ⊎ In x ys

pub in_left : {X : Type 0} (x : X) (xs ys : List X) → In x xs → In x (xs ++ ys)
in_left x [] ys h = absurd h
in_left x (y ∷ xs) ys (inl e) = inl e
in_left x (y ∷ xs) ys (inr h) = inr (in_left x xs ys h)

pub in_right : {X : Type 0} (x : X) (xs ys : List X) → In x ys → In x (xs ++ ys)
in_right x [] ys h = h
in_right x (y ∷ xs) ys h = inr (in_right x xs ys h)

pub in_split : {X : Type 0} (x : X) (xs ys : List X) → In x (xs ++ ys) → In x xs ⊎ In x ys
in_split x [] ys h = inr h
in_split x (y ∷ xs) ys (inl e) = inl (inl e)
in_split {X = X} x (y ∷ xs) ys (inr h) = more (in_split x xs ys h)
  where
    more : In x xs ⊎ In x ys → In x (y ∷ xs) ⊎ In x ys
    more (inl a) = inl (inr a)
    more (inr b) = inr b

pub in_map : {X Y : Type 0} (f : X → Y) (x : X) (xs : List X) → In x xs → In (f x) (map f xs)
in_map f x [] h = absurd h
in_map f x (y ∷ ys) (inl e) = inl (ap f e)
in_map f x (y ∷ ys) (inr h) = inr (in_map f x ys h)

pub record IsImage {X Y : Type 0} (f : X → Y) (y : Y) (xs : List X) : Type 0 where
  pub one : X
  pub there : In one xs
  pub is : y ≡ f one

pub map_in : {X Y : Type 0} (f : X → Y) (y : Y) (xs : List X) → In y (map f xs) → IsImage f y xs
map_in f y [] h = absurd h
map_in f y (x ∷ xs) (inl e) = record { one = x; there = inl refl; is = e }
map_in f y (x ∷ xs) (inr h) = let p = map_in f y xs h in record { one = p.one; there = inr p.there; is = p.is }

pub in_flat : {X Y : Type 0} (f : X → List Y) (x : X) (y : Y) (xs : List X) → In x xs → In y (f x) →
    In y (flat_map f xs)
in_flat f x y [] h g = absurd h
in_flat {Y = Y} f x y (z ∷ zs) (inl e) g = in_left y (f z) (flat_map f zs) (subst (λ u. In y (f u)) e g)
in_flat f x y (z ∷ zs) (inr h) g = in_right y (f z) (flat_map f zs) (in_flat f x y zs h g)

pub record IsInOne {X Y : Type 0} (f : X → List Y) (y : Y) (xs : List X) : Type 0 where
  pub one : X
  pub there : In one xs
  pub has : In y (f one)

pub flat_in : {X Y : Type 0} (f : X → List Y) (y : Y) (xs : List X) → In y (flat_map f xs) → IsInOne f y xs
flat_in f y [] h = absurd h
flat_in {X = X} f y (x ∷ xs) h = either (in_split y (f x) (flat_map f xs) h) (λ b. flat_in f y xs b)
  where
    either : In y (f x) ⊎ In y (flat_map f xs) → (In y (flat_map f xs) → IsInOne f y xs) → IsInOne f y (x ∷ xs)
    either (inl a) rec = record { one = x; there = inl refl; has = a }
    either (inr b) rec = let p = rec b in record { one = p.one; there = inr p.there; has = p.has }

or_first : (a b : Bool) → a ≡ true → (a || b) ≡ true
or_first true b e = refl
or_first false b e = cc

or_second : (a b : Bool) → b ≡ true → (a || b) ≡ true
or_second true b e = refl
or_second false b e = e

pub in_any : {X : Type 0} (test : X → Bool) (x : X) (xs : List X) → In x xs → test x ≡ true → list_any test xs ≡ true
in_any test x [] h t = absurd h
in_any test x (y ∷ ys) (inl e) t = or_first (test y) (list_any test ys) (ap test (sym e) ∙ t)
in_any test x (y ∷ ys) (inr h) t = or_second (test y) (list_any test ys) (in_any test x ys h t)

pub record IsPassed {X : Type 0} (test : X → Bool) (xs : List X) : Type 0 where
  pub one : X
  pub there : In one xs
  pub passes : test one ≡ true

pub any_in : {X : Type 0} (test : X → Bool) (xs : List X) → list_any test xs ≡ true → IsPassed test xs
any_in test [] h = cc
any_in {X = X} test (x ∷ xs) h = by (test x) refl h (λ k. any_in test xs k)
  where
    by : (b : Bool) → test x ≡ b → (b || list_any test xs) ≡ true → (list_any test xs ≡ true → IsPassed test xs) →
        IsPassed test (x ∷ xs)
    by true e k rec = record { one = x; there = inl refl; passes = e }
    by false e k rec = let p = rec k in record { one = p.one; there = inr p.there; passes = p.passes }

pub none_in : {X : Type 0} (test : X → Bool) (x : X) (xs : List X) → list_any test xs ≡ false → In x xs → test x ≡ false
none_in test x [] h g = absurd g
none_in test x (y ∷ ys) h (inl e) = ap test e ∙ (or_parts (test y) (list_any test ys) h).0
none_in test x (y ∷ ys) h (inr g) = none_in test x ys (or_parts (test y) (list_any test ys) h).1 g

pub in_filter : {X : Type 0} (test : X → Bool) (x : X) (xs : List X) → In x xs → test x ≡ true → In x (filter test xs)
in_filter test x [] h t = absurd h
in_filter {X = X} test x (y ∷ ys) (inl e) t = by (test y) (ap test (sym e) ∙ t)
  where
    by : (b : Bool) → b ≡ true → In x (cond b (y ∷ filter test ys) (filter test ys))
    by true k = inl e
    by false k = cc
in_filter {X = X} test x (y ∷ ys) (inr h) t = by (test y) (in_filter test x ys h t)
  where
    by : (b : Bool) → In x (filter test ys) → In x (cond b (y ∷ filter test ys) (filter test ys))
    by true k = inr k
    by false k = k

pub filter_in : {X : Type 0} (test : X → Bool) (x : X) (xs : List X) → In x (filter test xs) → In x xs × (test x ≡ true)
filter_in test x [] h = absurd h
filter_in {X = X} test x (y ∷ ys) h = by (test y) refl (λ k. filter_in test x ys k) h
  where
    by : (b : Bool) → test y ≡ b → (In x (filter test ys) → In x ys × (test x ≡ true)) →
        In x (cond b (y ∷ filter test ys) (filter test ys)) →
        In x (y ∷ ys) × (test x ≡ true)
    by true e rec (inl k) = (inl k, ap test k ∙ e)
    by true e rec (inr k) = let p = rec k in (inr p.0, p.1)
    by false e rec k = let p = rec k in (inr p.0, p.1)

-- a law that holds of each member
pub all_from : {X : Type 0} (P : X → Type 0) (xs : List X) → ((x : X) → In x xs → P x) → All P xs
all_from P [] h = All-nil P
all_from P (x ∷ xs) h = All-cons P x xs (h x (inl refl)) (all_from P xs (λ y i. h y (inr i)))

-- a list again, if g takes back the change of f to each member
pub same_again : {X Y : Type 0} (f : X → Y) (g : Y → X) (xs : List X) → ((x : X) → In x xs → g (f x) ≡ x) →
    map g (map f xs) ≡ xs
same_again f g [] e = refl
same_again {X = X} f g (x ∷ xs) e =
    ap (λ (y : X). y ∷ map g (map f xs)) (e x (inl refl))
    ∙ ap (λ (ys : List X). x ∷ ys) (same_again f g xs (λ y i. e y (inr i)))

-- ---- names

pub same_name : (n : Name) → bytes_eq n n ≡ true
same_name n = (bytes_eq-Decides n n).1 refl

pub in_among : (n : Name) (ns : List Name) → In n ns → is_among n ns ≡ true
in_among n ns h = in_any (bytes_eq n) n ns h (same_name n)

pub among_in : (n : Name) (ns : List Name) → is_among n ns ≡ true → In n ns
among_in n ns h =
    let p = any_in (bytes_eq n) ns h in
    subst (λ (m : Name). In m ns) (sym ((bytes_eq-Decides n p.one).0 p.passes)) p.there

at_place : (b c : Bool) (i n : ℕ) → (c ≡ true → i < n) → (b || c) ≡ true → cond (not b) (1 + i) 0 < suc n
at_place true c i n h e = omega arith
at_place false c i n h e = let l : i < n = h e in omega (arith, l)

any_position : {X : Type 0} (p : X → Bool) (xs : List X) → list_any p xs ≡ true → position_or_len p xs < length xs
any_position p [] h = cc
any_position p (x ∷ xs) h = at_place (p x) (list_any p xs) (position_or_len p xs) (length xs) (any_position p xs) h

-- a name of a table has a number in it
pub number_there : (n : Name) (ns : List Name) → In n ns → number n ns < length ns
number_there n ns h = any_position (bytes_eq n) ns (in_among n ns h)

-- the entry of a table of the names' images at the number of a name
pub image_at : {X : Type 0} (f : Name → X) (n : Name) (ns : List Name) → In n ns →
    slice_get (map f ns) (number n ns) ≡ Some (f n)
image_at f n [] h = absurd h
image_at {X = X} f n (m ∷ ms) h = by (bytes_eq n m) refl (λ k. image_at f n ms k) h
  where
    behind : (k : ℕ) → slice_get (f m ∷ map f ms) (1 + k) ≡ slice_get (map f ms) k
    behind k = let z : 1 + k ≡ suc k = omega arith in ap (slice_get (f m ∷ map f ms)) z

    by : (b : Bool) → bytes_eq n m ≡ b → (In n ms → slice_get (map f ms) (number n ms) ≡ Some (f n)) →
        (n ≡ m) ⊎ In n ms →
        slice_get (f m ∷ map f ms) (cond (not b) (1 + position_or_len (bytes_eq n) ms) 0) ≡ Some (f n)
    by true e rec k = ap (λ (o : Name). Some (f o)) (sym ((bytes_eq-Decides n m).0 e))
    by false e rec (inl k) = let t = (bytes_eq-Decides n m).1 k in cc
    by false e rec (inr k) = behind (position_or_len (bytes_eq n) ms) ∙ rec k

-- ---- each name once

one_kept : (b : Bool) (table : List Name) (m n : Name) → In n table → In n (cond b table (table ++ m ∷ []))
one_kept true table m n h = h
one_kept false table m n h = in_left n table (m ∷ []) h

one_new : (b : Bool) (table : List Name) (m : Name) → is_among m table ≡ b → In m (cond b table (table ++ m ∷ []))
one_new true table m e = among_in m table e
one_new false table m e = in_right m table (m ∷ []) (inl refl)

abbrev onto : List Name → List Name → List Name
onto table names = fold (λ ns n. cond (is_among n ns) ns (ns ++ n ∷ [])) table names

onto_keeps : (ns table : List Name) (n : Name) → In n table → In n (onto table ns)
onto_keeps [] table n h = h
onto_keeps (m ∷ ns) table n h =
    onto_keeps ns (cond (is_among m table) table (table ++ m ∷ [])) n (one_kept (is_among m table) table m n h)

onto_has : (ns table : List Name) (n : Name) → In n ns → In n (onto table ns)
onto_has [] table n h = absurd h
onto_has (m ∷ ns) table n (inl e) =
    subst (λ (o : Name). In o (onto table (m ∷ ns))) (sym e)
    (onto_keeps ns (cond (is_among m table) table (table ++ m ∷ [])) m (one_new (is_among m table) table m refl))
onto_has (m ∷ ns) table n (inr h) = onto_has ns (cond (is_among m table) table (table ++ m ∷ [])) n h

one_from : (b : Bool) (table : List Name) (m n : Name) → In n (cond b table (table ++ m ∷ [])) → In n table ⊎ (n ≡ m)
one_from true table m n h = inl h
one_from false table m n h = last (in_split n table (m ∷ []) h)
  where
    last : In n table ⊎ In n (m ∷ []) → In n table ⊎ (n ≡ m)
    last (inl a) = inl a
    last (inr (inl e)) = inr e
    last (inr (inr x)) = absurd x

onto_from : (ns table : List Name) (n : Name) → In n (onto table ns) → In n table ⊎ In n ns
onto_from [] table n h = inl h
onto_from (m ∷ ns) table n h = by (onto_from ns (cond (is_among m table) table (table ++ m ∷ [])) n h)
  where
    first : In n table ⊎ (n ≡ m) → In n table ⊎ In n (m ∷ ns)
    first (inl a) = inl a
    first (inr e) = inr (inl e)

    by : In n (cond (is_among m table) table (table ++ m ∷ [])) ⊎ In n ns → In n table ⊎ In n (m ∷ ns)
    by (inl a) = first (one_from (is_among m table) table m n a)
    by (inr b) = inr (inr b)

pub once_has : (n : Name) (ns : List Name) → In n ns → In n (each_once ns)
once_has n ns h = onto_has ns [] n h

pub once_from : (n : Name) (ns : List Name) → In n (each_once ns) → In n ns
once_from n ns h = by (onto_from ns [] n h)
  where
    by : In n [] ⊎ In n ns → In n ns
    by (inl a) = absurd a
    by (inr b) = b

abbrev pub AreApart : List Name → Type 0
AreApart ns = IsDistinct bytes_eq ns

one_apart : (b : Bool) (table : List Name) (m : Name) → is_among m table ≡ b → AreApart table →
    AreApart (cond b table (table ++ m ∷ []))
one_apart true table m e h = h
one_apart false table m e h = IsDistinct-push nat_list_eq_equiv table m h e

onto_apart : (ns table : List Name) → AreApart table → AreApart (onto table ns)
onto_apart [] table h = h
onto_apart (m ∷ ns) table h =
    onto_apart ns (cond (is_among m table) table (table ++ m ∷ [])) (one_apart (is_among m table) table m refl h)

pub apart_none : AreApart []
unfolding IsDistinct
apart_none = tt

pub once_apart : (ns : List Name) → AreApart (each_once ns)
once_apart ns = onto_apart ns [] apart_none

-- names without a repeat, after others
repeats_apart : (ns before : List Name) → AreApart before → repeats before ns ≡ false → AreApart (before ++ ns)
repeats_apart [] before a h = rw (append_none before) a
  where
    append_none : (xs : List Name) → xs ++ [] ≡ xs
    append_none [] = refl
    append_none (x ∷ xs) = ap (λ ys. x ∷ ys) (append_none xs)
repeats_apart (n ∷ ns) before a h =
    let p = or_parts (is_among n before) (repeats (before ++ n ∷ []) ns) h in
    subst AreApart (Rattle.std.proofs.Common.append_assoc before (n ∷ []) ns)
    (repeats_apart ns (before ++ n ∷ []) (IsDistinct-push nat_list_eq_equiv before n a p.0) p.1)

pub apart_from : (ns : List Name) → repeats [] ns ≡ false → AreApart ns
apart_from ns h = repeats_apart ns [] apart_none h

-- names apart are no more than names that have them all
pub as_many_at_least : (xs ys : List Name) → AreApart xs → ((n : Name) → In n xs → In n ys) → length xs ≤ length ys
as_many_at_least xs ys a h =
    length-le_from_is_member nat_list_eq_equiv xs ys a (λ q m. in_among q ys (h q (among_in q xs m)))

-- ---- facts

pub fact_in : {A : Type 0} (table : List (Fact A)) (n : Name) (w : A) → fact_of table n ≡ Some w → In (fact n w) table
fact_in [] n w h = cc
fact_in {A = A} (f ∷ fs) n w h = by (bytes_eq n f.name) refl (λ k. fact_in fs n w k) h
  where
    same : (m : Name) (x : A) → n ≡ m → w ≡ x → fact n w ≡ fact m x
    same m x e g = ap (λ (o : Name). fact o w) e ∙ ap (fact m) g

    taken : (a b : A) → Some a ≡ Some b → b ≡ a
    taken a b e = cc

    by : (b : Bool) → bytes_eq n f.name ≡ b → (fact_of fs n ≡ Some w → In (fact n w) fs) →
        option_map (λ (g : Fact A). g.what) (cond b (Some f) (find (λ (g : Fact A). bytes_eq n g.name) fs)) ≡ Some w →
        In (fact n w) (f ∷ fs)
    by true e rec k = inl (same f.name f.what ((bytes_eq-Decides n f.name).0 e) (taken f.what w k))
    by false e rec k = inr (rec k)

-- the names whose facts pass a test
pub where_has : {A : Type 0} (test : A → Bool) (n : Name) (w : A) (table : List (Fact A)) → In (fact n w) table →
    test w ≡ true →
    In n (names_where test table)
where_has {A = A} test n w table h t =
    in_map (λ (f : Fact A). f.name) (fact n w) (filter (λ f. test f.what) table)
    (in_filter (λ (f : Fact A). test f.what) (fact n w) table h t)

pub record IsFactOf {A : Type 0} (test : A → Bool) (n : Name) (table : List (Fact A)) : Type 0 where
  pub what : A
  pub there : In (fact n what) table
  pub passes : test what ≡ true

pub where_from : {A : Type 0} (test : A → Bool) (n : Name) (table : List (Fact A)) → In n (names_where test table) →
    IsFactOf test n table
where_from {A = A} test n table h =
    let p = map_in (λ (f : Fact A). f.name) n (filter (λ f. test f.what) table) h in
    let q = filter_in (λ (f : Fact A). test f.what) p.one table p.there in
    let f = p.one in
    record { what = f.what; there = subst (λ (m : Name). In (fact m f.what) table) (sym p.is) q.0; passes = q.1 }

-- a name that has a fact has a first one
pub fact_there : {A : Type 0} (table : List (Fact A)) (n : Name) → is_among n (names_of table) ≡ true →
    (w : A) × (fact_of table n ≡ Some w)
fact_there [] n h = cc
fact_there {A = A} (f ∷ fs) n h = by (bytes_eq n f.name) (λ k. fact_there fs n k) h
  where
    by : (b : Bool) → (is_among n (names_of fs) ≡ true → (w : A) × (fact_of fs n ≡ Some w)) →
        (b || is_among n (names_of fs)) ≡ true →
        (w : A) × (option_map (λ (g : Fact A). g.what) (cond b (Some f) (find (λ (g : Fact A). bytes_eq n g.name) fs))
        ≡ Some w)
    by true rec k = (f.what, refl)
    by false rec k = rec k
