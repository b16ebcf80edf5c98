-- The places in a map from names to their places, after each change.
use Rattle.std.proofs.Common.{◌≡◌, ◌<◌, ◌≤◌, ◌+◌, suc, ◌||◌, ◌==◌, ℕ, Bool, true, false, not, cond, List, [], ◌∷◌, ◌++◌}
use Rattle.std.proofs.Common.{length, Option, Some, None, refl, sym, ap, ◌∙◌, nat_lt, arith, subst}
use Rattle.std.specs.Prelude.{bytes_eq, position, is_some, IfSome}
use Rattle.std.specs.Option.{option_or}
use Rattle.std.specs.List.{list_any, position_or_len}
use Rattle.std.specs.Global.{Vec}
use Rattle.std.specs.BTreeMap.{BTreeMap, IsEmpty, IsUnchanged, UpdatesBy}
use Rattle.std.specs.Cmp.Lexicographic.{slice_cmp}
use Rattle.std.specs.Ordering.{nat_cmp, is_eq}
use Rattle.std.specs.Map.{lookup, KeepsOthers}
use Rattle.std.proofs.lemmas.Cmp.{eq_by_cmp_equiv, nat_list_cmp_total, nat_list_eq_equiv}
use Rattle.std.proofs.lemmas.Grind.{common_steps}
use Rattle.std.proofs.lemmas.List.{length-append}
use Rattle.std.proofs.lemmas.Map.Text.{is_eq-slice_cmp}
use Rattle.std.proofs.lemmas.Slice.Eq.{bytes_eq-Decides}
use Rattle.std.proofs.lemmas.List.Folds.{position_or_len_push}
use Rattle.ss_program.proofs.Mains.{position_or_len-le}
use Rattle.ss_program.specs.NameIndex.{entry_of, IsIndex, with_name}

-- a map without entries
pub index_none : (m : BTreeMap (Vec ℕ) ℕ) → IsEmpty m → IsIndex [] m
unfolding IsIndex
index_none m e n = ap (lookup (λ k. is_eq (slice_cmp nat_cmp n k.items))) e

-- a map with the same entries
pub index_same : (table : List (List ℕ)) (m n : BTreeMap (Vec ℕ) ℕ) → IsUnchanged m n → IsIndex table m →
    IsIndex table n
unfolding IsIndex
index_same table m n e h b = ap (lookup (λ k. is_eq (slice_cmp nat_cmp b k.items))) e ∙ h b

-- the place of a name
pub index_at : (table : List (List ℕ)) (m : BTreeMap (Vec ℕ) ℕ) (n : List ℕ) → IsIndex table m →
    entry_of m n ≡ position (bytes_eq n) table
unfolding IsIndex
index_at table m n h = h n

push_place : (a l : ℕ) (b : Bool) → a ≤ l →
    cond (nat_lt (cond (a == l) (l + cond b 0 1) a) (l + 1)) (Some (cond (a == l) (l + cond b 0 1) a)) None
    ≡ option_or (cond (nat_lt a l) (Some a) None) (cond b (Some l) None)
push_place a l true h = grind (arith, common_steps, h)
push_place a l false h = grind (arith, common_steps, h)

-- a name's place in a table with one more name at its end
position_push : (p : List ℕ → Bool) (xs : List (List ℕ)) (y : List ℕ) →
    position p (xs ++ y ∷ []) ≡ option_or (position p xs) (cond (p y) (Some (length xs)) None)
position_push p xs y =
    rw (position_or_len_push p xs y, length-append xs (y ∷ []))
    (push_place (position_or_len p xs) (length xs) (p y) (position_or_len-le p xs))

apart : (b c d : List ℕ) → bytes_eq b c ≡ false → bytes_eq b d ≡ true → bytes_eq c d ≡ false
apart b c d e t = nat_list_eq_equiv.symm c d ∙ sym (nat_list_eq_equiv.congr b d c t) ∙ e

or_none : (o : Option ℕ) → option_or o None ≡ o
or_none None = refl
or_none (Some i) = refl

entry_same : (m n : BTreeMap (Vec ℕ) ℕ) (w : Option ℕ) (k : Vec ℕ) (b : List ℕ) →
    UpdatesBy (λ x y. slice_cmp nat_cmp x.items y.items) (λ y. slice_cmp nat_cmp k.items y.items) m n w →
    bytes_eq k.items b ≡ false → entry_of n b ≡ entry_of m b
unfolding KeepsOthers
entry_same m n w k b u e =
    u.3 (λ y. is_eq (slice_cmp nat_cmp b y.items))
    (λ x y. (eq_by_cmp_equiv nat_list_cmp_total).congr b x.items y.items)
    (λ y t. is_eq-slice_cmp b y.items ∙ apart k.items b y.items e (sym (is_eq-slice_cmp k.items y.items) ∙ t))

index_push : (table : List (List ℕ)) (m n : BTreeMap (Vec ℕ) ℕ) (k : Vec ℕ) (b : List ℕ) (same : Bool) →
    bytes_eq k.items b ≡ same →
    UpdatesBy (λ x y. slice_cmp nat_cmp x.items y.items) (λ y. slice_cmp nat_cmp k.items y.items) m n
    (Some (length table)) →
    position (bytes_eq k.items) table ≡ None → entry_of m b ≡ position (bytes_eq b) table →
    entry_of n b ≡ position (bytes_eq b) (table ++ k.items ∷ [])
index_push table m n k b true e u none h =
    subst (λ (c : List ℕ). entry_of n c ≡ position (bytes_eq c) (table ++ k.items ∷ []))
    ((bytes_eq-Decides k.items b).0 e)
    (u.1 ∙ sym (position_push (bytes_eq k.items) table k.items
    ∙ rw (none, (bytes_eq-Decides k.items k.items).1 refl) refl))
index_push table m n k b false e u none h =
    entry_same m n (Some (length table)) k b u e ∙ h
    ∙ sym (position_push (bytes_eq b) table k.items
    ∙ rw (nat_list_eq_equiv.symm b k.items ∙ e) (or_none (position (bytes_eq b) table)))

-- a map with one more name, which had none
pub index_more : (table : List (List ℕ)) (m n : BTreeMap (Vec ℕ) ℕ) (k : Vec ℕ) →
    UpdatesBy (λ x y. slice_cmp nat_cmp x.items y.items) (λ y. slice_cmp nat_cmp k.items y.items) m n
    (Some (length table)) →
    position (bytes_eq k.items) table ≡ None → IsIndex table m → IsIndex (table ++ k.items ∷ []) n
unfolding IsIndex
index_more table m n k u none h b = index_push table m n k b (bytes_eq k.items b) refl u none (h b)

some_if : (b : Bool) (i : ℕ) → is_some (cond b (Some i) None) ≡ b
some_if true i = refl
some_if false i = refl

any_cons : (b c : Bool) (i l : ℕ) → c ≡ nat_lt i l → (b || c) ≡ nat_lt (cond (not b) (1 + i) 0) (suc l)
any_cons true c i l e = grind (arith, common_steps)
any_cons false c i l e = grind (arith, common_steps, e)

any_place : (p : List ℕ → Bool) (xs : List (List ℕ)) → list_any p xs ≡ nat_lt (position_or_len p xs) (length xs)
any_place p [] = refl
any_place p (x ∷ xs) = any_cons (p x) (list_any p xs) (position_or_len p xs) (length xs) (any_place p xs)

any_is : (table : List (List ℕ)) (n : List ℕ) → list_any (bytes_eq n) table ≡ is_some (position (bytes_eq n) table)
any_is table n = any_place (bytes_eq n) table ∙ sym (some_if _ _)

-- a name that is there is not put in again
pub with_name-there : (table : List (List ℕ)) (n : List ℕ) → is_some (position (bytes_eq n) table) ≡ true →
    with_name table n ≡ table
with_name-there table n h = rw (any_is table n ∙ h) refl

-- one that isn't goes to the end
pub with_name-none : (table : List (List ℕ)) (n : List ℕ) → is_some (position (bytes_eq n) table) ≡ false →
    with_name table n ≡ table ++ n ∷ []
with_name-none table n h = rw (any_is table n ∙ h) refl

pub none_is : (o : Option ℕ) → is_some o ≡ false → o ≡ None
none_is None h = refl
none_is (Some i) h = cc

-- a place is below the number of names
pub place_within : (table : List (List ℕ)) (n : List ℕ) → IfSome (position (bytes_eq n) table) (λ i. i < length table)
place_within table n =
    within (position_or_len (bytes_eq n) table) (length table)
    (nat_lt (position_or_len (bytes_eq n) table) (length table)) refl
  where
    within : (i l : ℕ) (b : Bool) → nat_lt i l ≡ b → IfSome (cond b (Some i) None) (λ j. j < l)
    within i l true e = grind (arith, common_steps, e)
    within i l false e = tt
