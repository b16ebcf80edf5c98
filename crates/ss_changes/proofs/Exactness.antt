-- The changes of a step are shown exactly.
use Rattle.std.proofs.Common.{◌≡◌, ◌≢◌, ℕ, Bool, true, false, cond, refl, sym, ap, ◌∙◌, not, ◌&&◌, ◌||◌, List, []}
use Rattle.std.proofs.Common.{◌∷◌, ◌⊎◌, inl, inr, map, arith, zero, suc, ◌<◌, length, slice_index_or}
use Rattle.std.specs.List.{Any, filter}
use Rattle.std.proofs.lemmas.List.{get_or-map, length-map}
use Rattle.std.proofs.lemmas.List.Elements.{All-map, filter_passes}
use Rattle.std.proofs.lemmas.Bool.Decides.{Decides-int_eq, Decides-eqb}
use Rattle.std.proofs.lemmas.Slice.Eq.{bytes_eq-Decides}
use Rattle.ss_state.specs.declared.entry.Entry.{Entry}
use Rattle.ss_state.specs.declared.entry.Entry.TheVariants.{Absent, Waiting, Running}
use Rattle.ss_program.specs.Program.{ProgramTable}
use Rattle.ss_state.specs.State.{State}
use Rattle.ss_changes.specs.declared.part.Part.{Part}
use Rattle.ss_changes.specs.declared.value.PartValue.{PartValue}
use Rattle.ss_changes.specs.declared.value.PartValue.TheVariants.{Absent as Missing, Number, Count, Lives, Listed}
use Rattle.ss_changes.specs.declared.value.PartValue.TheVariants.{Entered, Bytes}
use Rattle.ss_changes.specs.Values.{is_same, is_same_entry, value_in, is_there, needs_both}
use Rattle.ss_changes.specs.Parts.{parts_of}
use Rattle.ss_changes.specs.Changes.{is_changed, told_of}
use Rattle.ss_changes.specs.Laws.{AreExact, BelongsToOne}

pub both : (a b : Bool) → (a && b) ≡ true → (a ≡ true) × (b ≡ true)
both true true e = (refl, refl)
both true false e = absurd (cc)
both false b e = absurd (cc)

entry_same : (x y : Entry) → is_same_entry x y ≡ true → x ≡ y
entry_same Absent Absent e = refl
entry_same Absent (Waiting d j) e = absurd (cc)
entry_same Absent (Running d j) e = absurd (cc)
entry_same (Waiting c k) Absent e = absurd (cc)
entry_same (Waiting c k) (Waiting d j) e =
    let f = both _ _ e in let g = (Decides-eqb c d).0 f.0 in let h = (Decides-eqb k j).0 f.1 in rw (g, h) refl
entry_same (Waiting c k) (Running d j) e = absurd (cc)
entry_same (Running c k) Absent e = absurd (cc)
entry_same (Running c k) (Waiting d j) e = absurd (cc)
entry_same (Running c k) (Running d j) e =
    let f = both _ _ e in let g = (Decides-eqb c d).0 f.0 in let h = (Decides-eqb k j).0 f.1 in rw (g, h) refl

entry_itself : (x : Entry) → is_same_entry x x ≡ true
entry_itself Absent = refl
entry_itself (Waiting c k) = rw ((Decides-eqb c c).1 refl, (Decides-eqb k k).1 refl) refl
entry_itself (Running c k) = rw ((Decides-eqb c c).1 refl, (Decides-eqb k k).1 refl) refl

-- values that are the same are equal
same_is_equal : (x y : PartValue) → is_same x y ≡ true → x ≡ y
same_is_equal Missing Missing e = refl
same_is_equal (Number x) (Number y) e = ap Number ((Decides-int_eq x y).0 e)
same_is_equal (Count n) (Count m) e = ap Count ((Decides-eqb n m).0 e)
same_is_equal Lives Lives e = refl
same_is_equal (Listed ks) (Listed js) e = ap Listed ((bytes_eq-Decides ks js).0 e)
same_is_equal (Entered x) (Entered y) e = ap Entered (entry_same x y e)
same_is_equal (Bytes n) (Bytes m) e = ap Bytes ((Decides-eqb n m).0 e)
same_is_equal _ _ e = absurd (cc)

-- and equal values are the same
itself : (x : PartValue) → is_same x x ≡ true
itself Missing = refl
itself (Number x) = (Decides-int_eq x x).1 refl
itself (Count n) = (Decides-eqb n n).1 refl
itself Lives = refl
itself (Listed ks) = (bytes_eq-Decides ks ks).1 refl
itself (Entered x) = entry_itself x
itself (Bytes n) = (Decides-eqb n n).1 refl

-- a part that is not there
absent_is : (x : PartValue) → is_there x ≡ false → x ≡ Missing
absent_is Missing e = refl
absent_is (Number x) e = absurd (cc)
absent_is (Count n) e = absurd (cc)
absent_is Lives e = absurd (cc)
absent_is (Listed ks) e = absurd (cc)
absent_is (Entered x) e = absurd (cc)
absent_is (Bytes n) e = absurd (cc)

-- an element that passes a filter is among those that it keeps
kept_at : {A : Type 0} (test : A → Bool) (y : A) (ys : List A) (d v : A) (b : Bool) →
    (j : ℕ) × (j < length (filter test ys)) × (slice_index_or (filter test ys) j d ≡ v) →
    (j : ℕ) × (j < length (cond b (y ∷ filter test ys) (filter test ys)))
    × (slice_index_or (cond b (y ∷ filter test ys) (filter test ys)) j d ≡ v)
kept_at test y ys d v true h = (suc h.0, omega arith, h.2)
kept_at test y ys d v false h = h

first_at : {A : Type 0} (y : A) (zs : List A) (d : A) (b : Bool) → b ≡ true →
    (j : ℕ) × (j < length (cond b (y ∷ zs) zs)) × (slice_index_or (cond b (y ∷ zs) zs) j d ≡ y)
first_at y zs d true e = (0, omega arith, refl)
first_at y zs d false e = absurd (cc)

pub in_filter : {A : Type 0} (test : A → Bool) (xs : List A) (k : ℕ) (d : A) → k < length xs →
    test (slice_index_or xs k d) ≡ true →
    (j : ℕ) × (j < length (filter test xs)) × (slice_index_or (filter test xs) j d ≡ slice_index_or xs k d)
in_filter test [] k d h e = absurd (omega arith)
in_filter test (y ∷ ys) zero d h e = first_at y (filter test ys) d (test y) e
in_filter test (y ∷ ys) (suc k) d h e =
    kept_at test y ys d (slice_index_or ys k d) (test y) (in_filter test ys k d (omega arith) e)

pub not_true : (b : Bool) → not b ≡ true → b ≡ false
not_true false e = refl
not_true true e = absurd (cc)

-- a part that is shown differs
told_differs : (p : ProgramTable) (s u : State) (x : Part) → is_changed p s u x ≡ true →
    value_in p s x ≢ value_in p u x
told_differs p s u x e f =
    let v = is_same (value_in p s x) (value_in p u x) in
    let w = not (needs_both x) || (is_there (value_in p s x) && is_there (value_in p u x)) in
    let g : v ≡ false = not_true v (both (not v) w e).0 in
    let h = ap (λ v. is_same (value_in p s x) v) (sym f) in
    let i = itself (value_in p s x) in
    absurd (cc)

-- a part that is not shown is the same, or one of the states lacks it
pub not_told : (same needs before after : Bool) → (not same && (not needs || (before && after))) ≡ false →
    (same ≡ true) ⊎ ((needs ≡ true) × ((before ≡ false) ⊎ (after ≡ false)))
not_told true needs before after e = inl refl
not_told false false before after e = absurd (cc)
not_told false true false after e = inr (refl, inl refl)
not_told false true true false e = inr (refl, inr refl)
not_told false true true true e = absurd (cc)

lacks : (x y : PartValue) → (is_there x ≡ false) ⊎ (is_there y ≡ false) → (x ≡ Missing) ⊎ (y ≡ Missing)
lacks x y (inl e) = inl (absent_is x e)
lacks x y (inr e) = inr (absent_is y e)

pub equal_or_lacking : (p : ProgramTable) (s u : State) (x : Part) →
    (is_same (value_in p s x) (value_in p u x) ≡ true)
    ⊎ ((needs_both x ≡ true) × ((is_there (value_in p s x) ≡ false) ⊎ (is_there (value_in p u x) ≡ false))) →
    (value_in p s x ≡ value_in p u x) ⊎ BelongsToOne p s u x
equal_or_lacking p s u x (inl e) = inl (same_is_equal _ _ e)
equal_or_lacking p s u x (inr e) = inr (e.0, lacks _ _ e.1)

told_or_not : (b : Bool) (p : ProgramTable) (s u : State) (xs : List Part) (k : ℕ) (d : Part) → k < length xs →
    is_changed p s u (slice_index_or xs k d) ≡ b →
    Any (λ c. c ≡ told_of p s u (slice_index_or xs k d)) (map (told_of p s u) (filter (is_changed p s u) xs))
    ⊎ ((value_in p s (slice_index_or xs k d) ≡ value_in p u (slice_index_or xs k d))
    ⊎ BelongsToOne p s u (slice_index_or xs k d))
told_or_not true p s u xs k d h e =
    let f = in_filter (is_changed p s u) xs k d h e in
    let c = told_of p s u (slice_index_or xs k d) in
    let ys = filter (is_changed p s u) xs in
    let n = length-map ys (told_of p s u) in
    inl (f.0, c, omega (arith, f.1, n), get_or-map (told_of p s u) ys f.0 d c f.1 ∙ ap (told_of p s u) f.2, refl)
told_or_not false p s u xs k d h e = inr (equal_or_lacking p s u (slice_index_or xs k d) (not_told _ _ _ _ e))

-- each change that is shown is one; each other part is equal or belongs to a part made or ended
pub changes_are_exact : (p : ProgramTable) (s u : State) → AreExact p s u
changes_are_exact p s u = record {
  told =
      All-map (λ c. (c ≡ told_of p s u c.part) × (value_in p s c.part ≢ value_in p u c.part)) (told_of p s u)
      (filter (is_changed p s u) (parts_of p s u))
      (λ k d h. (refl, told_differs p s u _ (filter_passes (is_changed p s u) (parts_of p s u) k d h)));
  untold = λ k d h. told_or_not _ p s u (parts_of p s u) k d h refl;
}
