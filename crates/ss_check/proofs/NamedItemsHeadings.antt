-- A class is under one kind of heading, at each place at which items name it.
use Rattle.std.proofs.Common.{◌≡◌, ◌⊎◌, Bool, true, false, not, cond, List, [], ◌∷◌, ◌++◌, refl, sym, ap, ◌∙◌, subst}
use Rattle.std.proofs.Common.{Option, Some, None, append_assoc}
use Rattle.std.specs.Prelude.{option_map}
use Rattle.std.specs.List.{flat_map, find, list_any}
use Rattle.std.specs.Option.{option_or}
use mathlib.Core.Logic.{inl, inr}
use Rattle.std.proofs.lemmas.Bool.{or_parts, not-false}
use Rattle.std.proofs.lemmas.List.{append-nil}
use Rattle.std.proofs.lemmas.List.Folds.{find-append}
use Rattle.ss_words.specs.Lists.{Name, all_of}
use Rattle.ss_preamble.specs.declared.item.Heading.{Heading}
use Rattle.ss_preamble.specs.declared.item.Heading.TheVariants.{PermanentEntities, TemporaryEntities, EventNotices}
use Rattle.ss_preamble.specs.Tree.{Item, Normally, Headed, OfEvery, OfSystem, Defines, Orders}
use Rattle.ss_routines.specs.Tree.{Head}
use Rattle.ss_check.specs.Facts.{Fact, fact, fact_of}
use Rattle.ss_check.specs.NameKind.{NameKind}
use Rattle.ss_check.specs.NameKind as k
use Rattle.ss_check.specs.Declarations.{Declared}
use Rattle.ss_check.specs.NameKinds.{language_facts, class_facts, is_class, is_same_heading, may_repeat, conflicts}
use Rattle.ss_check.specs.NameKinds.{one_conflicts}
use Rattle.ss_check.specs.Declarations.{HeadedItem, class_of_item, clauses_of, included_names, clause_facts, item_facts}
use Rattle.ss_check.specs.Declarations.{declarations, routine_facts, declared_by, kind_of}
use Rattle.ss_check.specs.ItemRules.{names_wrong_class}
use Rattle.ss_check.specs.NamedItems.{headings_in}
use Rattle.ss_check.proofs.SoundLists.{In, same_name, in_left, in_right, in_split, in_any, in_flat, map_in}
use Rattle.ss_check.proofs.SoundCompanions.{Facts, declared}
use Rattle.ss_check.proofs.SoundItems.{flat_more}
use Rattle.ss_check.proofs.SoundStatements.{AreItemsKept}
use Rattle.ss_check.proofs.NamedUses.{two}
use Rattle.ss_check.proofs.NamedItemsFacts.{of_name}

-- ---- the first fact of a name, after others

first_stays : (o q : Option (Fact NameKind)) (j : NameKind) → option_map (λ f. f.what) o ≡ Some j →
    option_map (λ f. f.what) (option_or o q) ≡ Some j
first_stays None q j e = cc
first_stays (Some f) q j e = e

second_counts : (o q : Option (Fact NameKind)) → option_map (λ f. f.what) o ≡ None →
    option_map (λ f. f.what) (option_or o q) ≡ option_map (λ f. f.what) q
second_counts None q e = refl
second_counts (Some f) q e = cc

fact_both : (fs gs : Facts) (n : Name) →
    fact_of (fs ++ gs) n ≡ option_map (λ f. f.what) (option_or (find (of_name n) fs) (find (of_name n) gs))
fact_both fs gs n = ap (option_map (λ (f : Fact NameKind). f.what)) (find-append (of_name n) fs gs)

-- a fact that is found is found with more facts after it too
fact_stays : (fs gs : Facts) (n : Name) (j : NameKind) → fact_of fs n ≡ Some j → fact_of (fs ++ gs) n ≡ Some j
fact_stays fs gs n j e = fact_both fs gs n ∙ first_stays (find (of_name n) fs) (find (of_name n) gs) j e

-- a new name is found at the place at which it is put
fact_new : (fs : Facts) (n : Name) (j : NameKind) → fact_of fs n ≡ None → fact_of (fs ++ fact n j ∷ []) n ≡ Some j
fact_new fs n j e =
    fact_both fs (fact n j ∷ []) n
    ∙ second_counts (find (of_name n) fs) (find (of_name n) (fact n j ∷ [])) e
    ∙ ap (λ (b : Bool). option_map (λ (f : Fact NameKind). f.what) (cond b (Some (fact n j)) None)) (same_name n)

-- ---- classes that are declared again

same_heading : (g h : Option Heading) → is_same_heading g h ≡ true → g ≡ h
same_heading None None e = refl
same_heading None (Some h) e = cc
same_heading (Some PermanentEntities) None e = cc
same_heading (Some TemporaryEntities) None e = cc
same_heading (Some EventNotices) None e = cc
same_heading (Some PermanentEntities) (Some PermanentEntities) e = refl
same_heading (Some PermanentEntities) (Some TemporaryEntities) e = cc
same_heading (Some PermanentEntities) (Some EventNotices) e = cc
same_heading (Some TemporaryEntities) (Some PermanentEntities) e = cc
same_heading (Some TemporaryEntities) (Some TemporaryEntities) e = refl
same_heading (Some TemporaryEntities) (Some EventNotices) e = cc
same_heading (Some EventNotices) (Some PermanentEntities) e = cc
same_heading (Some EventNotices) (Some TemporaryEntities) e = cc
same_heading (Some EventNotices) (Some EventNotices) e = refl

again : (j : NameKind) (h : Option Heading) → not (may_repeat j (k.Class h)) ≡ false → j ≡ k.Class h
again (k.Class g) h e = ap k.Class (same_heading g h (not-false (is_same_heading g h) e))
again k.Variable h e = cc
again k.ClassCount h e = cc
again (k.Attribute c) h e = cc
again (k.OwnerKept q s) h e = cc
again (k.MemberKept q s) h e = cc
again (k.Function f) h e = cc
again k.Clock h e = cc
again k.Set h e = cc
again k.Routine h e = cc

-- a class is found as it is declared, wherever it is
abbrev AreSame : Facts → Type 0
AreSame fs = (n : Name) (h : Option Heading) → In (fact n (k.Class h)) fs → fact_of fs n ≡ Some (k.Class h)

-- so it is after others, if this does not conflict with the facts before
abbrev IsFoundBehind : Facts → Name → Option Heading → Fact NameKind → Type 0
IsFoundBehind before n h f =
    conflicts (fact_of before f.name) f.what ≡ false → fact_of (before ++ f ∷ []) n ≡ Some (k.Class h)

found_behind : (before : Facts) (n : Name) (h : Option Heading) (j : Option NameKind) → fact_of before n ≡ j →
    conflicts j (k.Class h) ≡ false → fact_of (before ++ fact n (k.Class h) ∷ []) n ≡ Some (k.Class h)
found_behind before n h None e c = fact_new before n (k.Class h) e
found_behind before n h (Some j) e c =
    fact_stays before (fact n (k.Class h) ∷ []) n (k.Class h) (e ∙ ap (λ (z : NameKind). Some z) (again j h c))

one_same : (before : Facts) (f : Fact NameKind) → conflicts (fact_of before f.name) f.what ≡ false →
    AreSame before → AreSame (before ++ f ∷ [])
one_same before f c m n h i = by (in_split (fact n (k.Class h)) before (f ∷ []) i)
  where
    by : In (fact n (k.Class h)) before ⊎ In (fact n (k.Class h)) (f ∷ []) →
        fact_of (before ++ f ∷ []) n ≡ Some (k.Class h)
    by (inl a) = fact_stays before (f ∷ []) n (k.Class h) (m n h a)
    by (inr (inl e)) = subst (IsFoundBehind before n h) e (found_behind before n h (fact_of before n) refl) c
    by (inr (inr x)) = absurd x

same_kept : (fs before : Facts) → one_conflicts before fs ≡ false → AreSame before → AreSame (before ++ fs)
same_kept [] before h m = subst AreSame (sym (append-nil before)) m
same_kept (f ∷ fs) before h m =
    let p = or_parts (conflicts (fact_of before f.name) f.what) (one_conflicts (before ++ f ∷ []) fs) h in
    subst AreSame (append_assoc before (f ∷ []) fs) (same_kept fs (before ++ f ∷ []) p.1 (one_same before f p.0 m))

-- the declarations of the language and of these items
abbrev kinds : List HeadedItem → Facts
kinds xs = language_facts ++ declared xs

kinds_more : (before : List HeadedItem) (x : HeadedItem) → kinds (before ++ x ∷ []) ≡ kinds before ++ declarations x
kinds_more before x =
    ap (λ (fs : Facts). language_facts ++ fs) (flat_more declarations before x)
    ∙ sym (append_assoc language_facts (declared before) (declarations x))

items_same : (d : Declared) (before xs : List HeadedItem) → AreItemsKept d before xs → AreSame (kinds before) →
    AreSame (kinds (before ++ xs))
items_same d before [] h m = subst (λ (ys : List HeadedItem). AreSame (kinds ys)) (sym (append-nil before)) m
items_same d before (x ∷ xs) h m =
    let i = h.0 in
    let once : one_conflicts (kinds before) (declarations x) ≡ false =
    subst (λ (fs : Facts). one_conflicts fs (declarations x) ≡ false) (append-nil (kinds before)) i.once in
    let one = subst AreSame (sym (kinds_more before x)) (same_kept (declarations x) (kinds before) once m) in
    subst (λ (ys : List HeadedItem). AreSame (kinds ys)) (append_assoc before (x ∷ []) xs)
    (items_same d (before ++ x ∷ []) xs h.1 one)

abbrev names_a_class : Fact NameKind → Bool
names_a_class f = is_class f.what

-- the language declares no class
language_same : AreSame (kinds [])
language_same n h i =
    let t : list_any names_a_class (kinds []) ≡ true =
    in_any names_a_class (fact n (k.Class h)) (kinds []) i refl in cc

-- each class has the kind that any item declares
pub class_kept : (xs : List HeadedItem) (hs : List Head) → AreItemsKept (declared_by xs hs) [] xs → (x : HeadedItem) →
    In x xs →
    (n : Name) (h : Option Heading) → In (fact n (k.Class h)) (declarations x) →
    kind_of (declared_by xs hs) n ≡ Some (k.Class h)
class_kept xs hs kept x i n h j =
    let class = fact n (k.Class h) in
    let there = in_right class language_facts (declared xs) (in_flat declarations x class xs i j) in
    fact_stays (kinds xs) (flat_map routine_facts hs) n (k.Class h)
    (items_same (declared_by xs hs) [] xs kept language_same n h there)

-- ---- headings

parts : {A : Type 0} (f g : Fact A) → f ≡ g → (f.name ≡ g.name) × (f.what ≡ g.what)
parts {A = A} f g e = (ap (λ (x : Fact A). x.name) e, ap (λ (x : Fact A). x.what) e)

first_class : (c : Name) (h : Option Heading) (rest : Facts) (n : Name) (w : Option Heading) → fact n w ≡ fact c h →
    In (fact n (k.Class w)) (class_facts h c ++ rest)
first_class c h rest n w e =
    let p = parts (fact n w) (fact c h) e in
    inl (two (λ (m : Name) (v : Option Heading). fact m (k.Class v)) p.0 p.1)

-- a class that an item names is declared under its heading
pub heading_declared : (h : Option Heading) (i : Item) (n : Name) (w : Option Heading) →
    In (fact n w) (headings_in h i) →
    In (fact n (k.Class w)) (item_facts h i ++ flat_map (clause_facts (class_of_item i)) (clauses_of i))
heading_declared h Normally n w x = absurd x
heading_declared h (Headed g ns) n w x =
    let p = map_in (λ (c : Name). fact c (Some g)) (fact n w) (included_names ns) x in
    let e = parts (fact n w) (fact p.one (Some g)) p.is in
    in_left (fact n (k.Class w)) (flat_map (class_facts (Some g)) (included_names ns)) []
    (in_flat (class_facts (Some g)) p.one (fact n (k.Class w)) (included_names ns) p.there
    (inl (two (λ (m : Name) (v : Option Heading). fact m (k.Class v)) e.0 e.1)))
heading_declared h (OfEvery c cs) n w (inl e) = first_class c h (flat_map (clause_facts (Some c)) (all_of cs)) n w e
heading_declared h (OfEvery c cs) n w (inr x) = absurd x
heading_declared h (OfSystem cs) n w x = absurd x
heading_declared h (Defines z) n w x = absurd x
heading_declared h (Orders r) n w x = absurd x

-- and there is one
pub heading_there : (d b : Declared) (h : Option Heading) (i : Item) (n : Name) (w : Option Heading) →
    names_wrong_class d h i ≡ false → In (fact n w) (headings_in h i) → (g : Heading) × (w ≡ Some g)
heading_there d b h Normally n w e x = absurd x
heading_there d b h (Headed g ns) n w e x =
    let p = map_in (λ (c : Name). fact c (Some g)) (fact n w) (included_names ns) x in
    (g, (parts (fact n w) (fact p.one (Some g)) p.is).1)
heading_there d b None (OfEvery c cs) n w e x = cc
heading_there d b (Some g) (OfEvery c cs) n w e (inl y) = (g, (parts (fact n w) (fact c (Some g)) y).1)
heading_there d b (Some g) (OfEvery c cs) n w e (inr y) = absurd y
heading_there d b h (OfSystem cs) n w e x = absurd x
heading_there d b h (Defines z) n w e x = absurd x
heading_there d b h (Orders r) n w e x = absurd x
