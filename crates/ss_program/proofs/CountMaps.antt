-- The counts in a map of counts after each change.
use Rattle.std.proofs.Common.{◌≡◌, ◌+◌, ℕ, Bool, true, false, cond, List, [], ◌∷◌, ◌++◌, Option, Some, None, refl, sym}
use Rattle.std.proofs.Common.{ap, ◌∙◌, arith, subst}
use Rattle.std.specs.Prelude.{bytes_eq, count_by, unwrap_or}
use Rattle.std.specs.Global.{Vec}
use Rattle.std.specs.BTreeMap.{BTreeMap, IsEmpty, IsUnchanged, UpdatesBy}
use Rattle.std.specs.Cmp.Lexicographic.{slice_cmp}
use Rattle.std.specs.Ordering.{nat_cmp, is_eq}
use Rattle.std.specs.Map.{lookup, KeepsOthers}
use Rattle.std.proofs.lemmas.Cmp.{eq_by_cmp_equiv, nat_list_cmp_total, nat_list_eq_equiv}
use Rattle.std.proofs.lemmas.Map.Text.{is_eq-slice_cmp}
use Rattle.std.proofs.lemmas.Slice.Eq.{bytes_eq-Decides}
use Rattle.std.proofs.lemmas.List.Sums.{sum_by_push}
use Rattle.ss_words.specs.Lists.{Name}
use Rattle.ss_program.specs.NameIndex.{entry_of}
use Rattle.ss_program.specs.CountMap.{AreCounts}

-- a map without entries
pub counts_none : (m : BTreeMap (Vec ℕ) ℕ) → IsEmpty m → AreCounts [] m
unfolding AreCounts
counts_none m e n = ap (λ (o : Option ℕ). unwrap_or o 0) (ap (lookup (λ k. is_eq (slice_cmp nat_cmp n k.items))) e)

-- a map with the same entries
pub counts_same : (names : List Name) (m n : BTreeMap (Vec ℕ) ℕ) → IsUnchanged m n → AreCounts names m →
    AreCounts names n
unfolding AreCounts
counts_same names m n e h b =
    ap (λ (o : Option ℕ). unwrap_or o 0) (ap (lookup (λ k. is_eq (slice_cmp nat_cmp b k.items))) e) ∙ h b

-- the count of a name that has an entry in the map
pub counts_some : (names : List Name) (m : BTreeMap (Vec ℕ) ℕ) (n : Name) (i : ℕ) → AreCounts names m →
    Some i ≡ entry_of m n →
    i ≡ count_by (bytes_eq n) names
unfolding AreCounts
counts_some names m n i h e = ap (λ (o : Option ℕ). unwrap_or o 0) e ∙ h n

-- the count of a name that has no entry in the map
pub counts_zero : (names : List Name) (m : BTreeMap (Vec ℕ) ℕ) (n : Name) → AreCounts names m → None ≡ entry_of m n →
    0 ≡ count_by (bytes_eq n) names
unfolding AreCounts
counts_zero names m n h e = ap (λ (o : Option ℕ). unwrap_or o 0) e ∙ h n

count_push : (n : Name) (names : List Name) (m : Name) →
    count_by (bytes_eq n) (names ++ m ∷ []) ≡ count_by (bytes_eq n) names + cond (bytes_eq n m) 1 0
count_push n names m = sum_by_push (λ (y : Name). cond (bytes_eq n y) 1 0) names m

apart : (b c d : Name) → bytes_eq b c ≡ false → bytes_eq b d ≡ true → bytes_eq c d ≡ false
apart b c d e t = nat_list_eq_equiv.symm c d ∙ sym (nat_list_eq_equiv.congr b d c t) ∙ e

entry_same : (m n : BTreeMap (Vec ℕ) ℕ) (w : Option ℕ) (k : Vec ℕ) (b : Name) →
    UpdatesBy (λ x y. slice_cmp nat_cmp x.items y.items) (λ y. slice_cmp nat_cmp k.items y.items) m n w →
    bytes_eq k.items b ≡ false → entry_of n b ≡ entry_of m b
unfolding KeepsOthers
entry_same m n w k b u e =
    u.3 (λ y. is_eq (slice_cmp nat_cmp b y.items))
    (λ x y. (eq_by_cmp_equiv nat_list_cmp_total).congr b x.items y.items)
    (λ y t. is_eq-slice_cmp b y.items ∙ apart k.items b y.items e (sym (is_eq-slice_cmp k.items y.items) ∙ t))

push : (names : List Name) (m n : BTreeMap (Vec ℕ) ℕ) (k : Vec ℕ) (i : ℕ) (b : Name) (same : Bool) →
    bytes_eq k.items b ≡ same →
    UpdatesBy (λ x y. slice_cmp nat_cmp x.items y.items) (λ y. slice_cmp nat_cmp k.items y.items) m n (Some (i + 1)) →
    i ≡ count_by (bytes_eq k.items) names → unwrap_or (entry_of m b) 0 ≡ count_by (bytes_eq b) names →
    unwrap_or (entry_of n b) 0 ≡ count_by (bytes_eq b) (names ++ k.items ∷ [])
push names m n k i b true e u c h =
    subst (λ (d : Name). unwrap_or (entry_of n d) 0 ≡ count_by (bytes_eq d) (names ++ k.items ∷ []))
    ((bytes_eq-Decides k.items b).0 e)
    (ap (λ (o : Option ℕ). unwrap_or o 0) u.1
    ∙ sym (count_push k.items names k.items ∙ rw (sym c, (bytes_eq-Decides k.items k.items).1 refl) refl))
push names m n k i b false e u c h =
    ap (λ (o : Option ℕ). unwrap_or o 0) (entry_same m n (Some (i + 1)) k b u e) ∙ h
    ∙ sym (count_push b names k.items
    ∙ rw (nat_list_eq_equiv.symm b k.items ∙ e) (plus_none (count_by (bytes_eq b) names)))
  where
    plus_none : (j : ℕ) → j + 0 ≡ j
    plus_none j = omega arith

-- a map with one more of a name
pub counts_more : (names : List Name) (m n : BTreeMap (Vec ℕ) ℕ) (k : Vec ℕ) (i : ℕ) (name : Name) → k.items ≡ name →
    UpdatesBy (λ x y. slice_cmp nat_cmp x.items y.items) (λ y. slice_cmp nat_cmp k.items y.items) m n (Some (i + 1)) →
    i ≡ count_by (bytes_eq name) names → AreCounts names m → AreCounts (names ++ name ∷ []) n
unfolding AreCounts
counts_more names m n k i name e u c h b =
    subst (λ (d : Name). unwrap_or (entry_of n b) 0 ≡ count_by (bytes_eq b) (names ++ d ∷ [])) e
    (push names m n k i b (bytes_eq k.items b) refl u (c ∙ ap (λ (d : Name). count_by (bytes_eq d) names) (sym e))
    (h b))
