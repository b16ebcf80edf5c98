-- Tables filled item by item and head by head are those of the part before.
use Rattle.std.proofs.Common.{◌≡◌, List, [], ◌∷◌, ◌++◌, refl, sym, ap, ◌∙◌, append_assoc}
use Rattle.std.specs.List.{flat_map, list_any}
use Rattle.std.proofs.lemmas.Grind.{flat_map-append}
use Rattle.std.proofs.lemmas.List.Folds.{list_any-append}
use Rattle.ss_routines.specs.Tree.{Head, MainHead, RoutineHead, EventHead}
use Rattle.ss_routines.specs.Places.{Section}
use Rattle.ss_check.specs.Declarations.{Declared}
use Rattle.ss_check.specs.Increments.{with_items, with_item, with_head, with_sections}
use Rattle.ss_check.specs.Declarations.{HeadedItem, attributes_in, classes_in, declarations, disciplined_sets}
use Rattle.ss_check.specs.Declarations.{events_in, external_in, heads, is_main, members_in, owners_in, priority_in}
use Rattle.ss_check.specs.Declarations.{routine_counts, routine_facts, declared_by, tied_events}
use Rattle.ss_check.specs.NameKinds.{language_facts}
use Rattle.ss_check.proofs.FactTables.{append_none, or_all, or_none}

-- the part that one element more brings
more : {X A : Type 0} (f : X → List A) (xs : List X) (x : X) → flat_map f (xs ++ x ∷ []) ≡ flat_map f xs ++ f x
more f xs x = flat_map-append f xs (x ∷ []) ∙ ap (λ ys. flat_map f xs ++ ys) (append_none (f x))

-- the middle one of the three parts of the declarations grows
middle : {A : Type 0} (xs ys zs : List A) → xs ++ ((ys ++ zs) ++ []) ≡ (xs ++ (ys ++ [])) ++ zs
middle xs ys zs = rw (append_none (ys ++ zs), append_none ys, append_assoc xs ys zs) refl

-- the last one grows
last : {A : Type 0} (xs ys zs ws : List A) → xs ++ (ys ++ (zs ++ ws)) ≡ (xs ++ (ys ++ zs)) ++ ws
last xs ys zs ws = rw (append_assoc xs (ys ++ zs) ws, append_assoc ys zs ws) refl

-- one item more, with no head after the items
pub entry_more : (xs : List HeadedItem) (x : HeadedItem) → declared_by (xs ++ x ∷ []) []
    ≡ with_item (declared_by xs []) x
unfolding with_item
entry_more xs x =
    rw (
      more declarations xs x,
      middle language_facts (flat_map declarations xs) (declarations x),
      more (λ y. attributes_in y.item) xs x,
      more (λ y. owners_in y.item) xs x,
      more (λ y. members_in y.item) xs x,
      more (λ y. disciplined_sets y.item) xs x,
      more (λ y. tied_events y.item) xs x,
      more (λ y. external_in y.item) xs x,
      more (λ y. priority_in y.item) xs x,
      more (λ y. classes_in y.item) xs x,
    )
    refl

-- one head more
pub head_more : (xs : List HeadedItem) (hs : List Head) (h : Head) →
    declared_by xs (hs ++ h ∷ []) ≡ with_head (declared_by xs hs) h
unfolding with_head
head_more xs hs MainHead =
    rw (
      more routine_facts hs MainHead,
      append_none (flat_map routine_facts hs),
      more events_in hs MainHead,
      append_none (flat_map events_in hs),
      more routine_counts hs MainHead,
      append_none (flat_map routine_counts hs),
      list_any-append is_main hs (MainHead ∷ []),
      or_all (list_any is_main hs),
    )
    refl
head_more xs hs (RoutineHead n given yielded) =
    let h = RoutineHead n given yielded in
    rw (
      more routine_facts hs h,
      last language_facts (flat_map declarations xs) (flat_map routine_facts hs) (routine_facts h),
      more events_in hs h,
      append_none (flat_map events_in hs),
      more routine_counts hs h,
      list_any-append is_main hs (h ∷ []),
      or_none (list_any is_main hs),
    )
    refl
head_more xs hs (EventHead n given saving) =
    let h = EventHead n given saving in
    rw (
      more routine_facts hs h,
      append_none (flat_map routine_facts hs),
      more events_in hs h,
      more routine_counts hs h,
      append_none (flat_map routine_counts hs),
      list_any-append is_main hs (h ∷ []),
      or_none (list_any is_main hs),
    )
    refl

-- items after others
pub entries_more : (before xs : List HeadedItem) → with_items (declared_by before []) xs ≡ declared_by (before ++ xs) []
unfolding with_items
entries_more before [] = ap (λ (ys : List HeadedItem). declared_by ys []) (sym (append_none before))
entries_more before (x ∷ xs) =
    ap (λ (t : Declared). with_items t xs) (sym (entry_more before x))
    ∙ entries_more (before ++ x ∷ []) xs
    ∙ ap (λ (ys : List HeadedItem). declared_by ys []) (append_assoc before (x ∷ []) xs)

-- sections after others
pub sections_more : (xs : List HeadedItem) (hs : List Head) (ss : List Section) →
    with_sections (declared_by xs hs) ss ≡ declared_by xs (hs ++ heads ss)
unfolding with_sections
sections_more xs hs [] = ap (declared_by xs) (sym (append_none hs))
sections_more xs hs (s ∷ ss) =
    ap (λ (t : Declared). with_sections t ss) (sym (head_more xs hs s.head))
    ∙ sections_more xs (hs ++ s.head ∷ []) ss
    ∙ ap (declared_by xs) (append_assoc hs (s.head ∷ []) (heads ss))

-- items and sections, from nothing on
pub all_more : (xs : List HeadedItem) (ss : List Section) →
    with_sections (with_items (declared_by [] []) xs) ss ≡ declared_by xs (heads ss)
all_more xs ss = ap (λ (t : Declared). with_sections t ss) (entries_more [] xs) ∙ sections_more xs [] ss
