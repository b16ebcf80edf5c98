-- Lists with items added at the end, and numberings changed.
use Rattle.std.proofs.Common.{◌≡◌, ◌≢◌, ◌⊎◌, inl, inr, ℕ, ℤ, zero, suc, ◌+◌, ◌<◌, List, [], ◌∷◌, ◌++◌, length}
use Rattle.std.proofs.Common.{map, take, replicate, refl, ap, sym, subst, ◌∙◌, arith, slice_get, slice_index_or, Option}
use Rattle.std.proofs.Common.{Some, None, length-append}
use Rattle.std.proofs.Math.Seq.{take-append_seam}
use Rattle.ss_store.specs.declared.rows.Row.{Row}
use Rattle.ss_store.specs.declared.shape.ClassShape.{ClassShape}
use Rattle.ss_store.specs.Lists.{change_at}
use Rattle.ss_store.specs.Tables.{class_in}
use Rattle.ss_store.specs.Rows.{RowTable, EntityTable, no_rows, rows_in}
use Rattle.ss_store.specs.Invariant.{used_of, used_made, used_in}
use Rattle.ss_store.specs.Making.{with_table, with_row}
use Rattle.ss_store.proofs.Core.{some_eq}
use Rattle.ss_store.proofs.OneListChanges.{is_or_not}

pub left : {A : Type 0} (xs ys : List A) (i : ℕ) (x : A) → slice_get xs i ≡ Some x → slice_get (xs ++ ys) i ≡ Some x
left [] ys i x e = cc
left (z ∷ xs) ys zero x e = e
left (z ∷ xs) ys (suc i) x e = left xs ys i x e

pub right : {A : Type 0} (xs ys : List A) (i : ℕ) → slice_get (xs ++ ys) (length xs + i) ≡ slice_get ys i
right [] ys i = let z : 0 + i ≡ i = omega arith in ap (slice_get ys) z
right (x ∷ xs) ys i = let z : length (x ∷ xs) + i ≡ suc (length xs + i) = omega arith in ap (slice_get (x ∷ xs ++ ys)) z
    ∙ right xs ys i

-- an item of two lists is in one of them
pub split_get : {A : Type 0} (xs ys : List A) (i : ℕ) (x : A) → slice_get (xs ++ ys) i ≡ Some x
    → (slice_get xs i ≡ Some x) ⊎ ((j : ℕ) × (i ≡ length xs + j) × (slice_get ys j ≡ Some x))
split_get [] ys i x e = inr (i, omega arith, e)
split_get (z ∷ xs) ys zero x e = inl e
split_get (z ∷ xs) ys (suc i) x e = elim (split_get xs ys i x e) [
  | inl f ↦ inl f
  | inr f ↦ let at = f.1 in
      inr (f.0, omega (arith, at), f.2)
]

pub more_get : {A : Type 0} (xs : List A) (y : A) (i : ℕ) (x : A) → slice_get (xs ++ y ∷ []) i ≡ Some x
    → (slice_get xs i ≡ Some x) ⊎ ((i ≡ length xs) × (y ≡ x))
more_get [] y zero x e = inr (refl, some_eq e)
more_get [] y (suc i) x e = cc
more_get (z ∷ xs) y zero x e = inl e
more_get (z ∷ xs) y (suc i) x e = elim (more_get xs y i x e) [ inl f ↦ inl f | inr f ↦ inr (ap suc f.0, f.1) ]

pub length_more : {A : Type 0} (xs : List A) (y : A) → length (xs ++ y ∷ []) ≡ suc (length xs)
length_more xs y = let e = length-append xs (y ∷ []) in omega (arith, e)

-- the parts before two equal ends are equal
pub same_fronts : {A : Type 0} (xs ys zs : List A) → length xs ≡ length ys → xs ++ zs ≡ ys ++ zs → xs ≡ ys
same_fronts xs ys zs l e = sym (take-append_seam xs zs) ∙ (λ i. take (l i) (e i)) ∙ take-append_seam ys zs

-- a list is its front and then these items
pub tail_is : {A : Type 0} (xs ys : List A) (h : ℕ) → length xs ≡ h + length ys
    → ((k : ℕ) (y : A) → slice_get ys k ≡ Some y → slice_get xs (h + k) ≡ Some y) → xs ≡ take h xs ++ ys
tail_is [] [] zero l s = refl
tail_is [] (y ∷ ys) zero l s = absurd (omega (arith, l))
tail_is (x ∷ xs) [] zero l s = absurd (omega (arith, l))
tail_is {A} (x ∷ xs) (y ∷ ys) zero l s =
    let z : 0 + 0 ≡ 0 = omega arith in
    let head : x ≡ y = some_eq (ap (slice_get (x ∷ xs)) (sym z) ∙ s 0 y refl) in
    let down : xs ≡ ys = tail_is xs ys 0 (omega (arith, l)) (λ k u e. let w : suc (0 + k) ≡ 0 + suc k = omega arith in
    ap (slice_get (x ∷ xs)) w ∙ s (suc k) u e) in
    λ i. head i ∷ down i
tail_is [] ys (suc h) l s = absurd (omega (arith, l))
tail_is (x ∷ xs) ys (suc h) l s = ap (λ t. x ∷ t)
    (tail_is xs ys h (omega (arith, l)) (λ k u e. let w : suc (h + k) ≡ suc h + k = omega arith in
    ap (slice_get (x ∷ xs)) w ∙ s k u e))

pub length_rep : {A : Type 0} (n : ℕ) (x : A) → length (replicate n x) ≡ n
length_rep zero x = refl
length_rep (suc n) x = ap suc (length_rep n x)

-- ---- one item changed

pub length_change : {A : Type 0} (f : A → A) (xs : List A) (c : ℕ) → length (change_at f xs c) ≡ length xs
length_change f [] c = refl
length_change f (x ∷ xs) zero = refl
length_change f (x ∷ xs) (suc c) = ap suc (length_change f xs c)

pub index_change : {A : Type 0} (f : A → A) (xs : List A) (c : ℕ) (d : A) → c < length xs
    → slice_index_or (change_at f xs c) c d ≡ f (slice_index_or xs c d)
index_change f [] c d lt = absurd (omega (arith, lt))
index_change f (x ∷ xs) zero d lt = refl
index_change f (x ∷ xs) (suc c) d lt = index_change f xs c d (omega (arith, lt))

pub index_other : {A : Type 0} (f : A → A) (xs : List A) (c j : ℕ) (d : A) → j ≢ c
    → slice_index_or (change_at f xs c) j d ≡ slice_index_or xs j d
index_other f [] c j d far = refl
index_other f (x ∷ xs) zero zero d far = absurd (far refl)
index_other f (x ∷ xs) zero (suc j) d far = refl
index_other f (x ∷ xs) (suc c) zero d far = refl
index_other f (x ∷ xs) (suc c) (suc j) d far = index_other f xs c j d (λ e. far (ap suc e))

pub change_change : {A : Type 0} (f g h : A → A) (xs : List A) (c : ℕ)
    → ((x : A) → slice_get xs c ≡ Some x → g (f x) ≡ h x) → change_at g (change_at f xs c) c ≡ change_at h xs c
change_change f g h [] c s = refl
change_change f g h (x ∷ xs) zero s = ap (λ z. z ∷ xs) (s x refl)
change_change f g h (x ∷ xs) (suc c) s = ap (λ z. x ∷ z) (change_change f g h xs c s)

pub change_none : {A : Type 0} (f : A → A) (xs : List A) (c : ℕ) → ((x : A) → slice_get xs c ≡ Some x → f x ≡ x)
    → change_at f xs c ≡ xs
change_none f [] c s = refl
change_none f (x ∷ xs) zero s = ap (λ z. z ∷ xs) (s x refl)
change_none f (x ∷ xs) (suc c) s = ap (λ z. x ∷ z) (change_none f xs c s)

pub map_change : {A B : Type 0} (m : A → B) (f : A → A) (g : B → B) (xs : List A) (c : ℕ)
    → ((x : A) → slice_get xs c ≡ Some x → m (f x) ≡ g (m x)) → map m (change_at f xs c) ≡ change_at g (map m xs) c
map_change m f g [] c s = refl
map_change m f g (x ∷ xs) zero s = ap (λ z. z ∷ map m xs) (s x refl)
map_change m f g (x ∷ xs) (suc c) s = ap (λ z. m x ∷ z) (map_change m f g xs c s)

pub index_get : {A : Type 0} (xs : List A) (c : ℕ) (d x : A) → slice_get xs c ≡ Some x → slice_index_or xs c d ≡ x
index_get [] c d x e = cc
index_get (y ∷ xs) zero d x e = some_eq e
index_get (y ∷ xs) (suc c) d x e = index_get xs c d x e

-- ---- a numbering changed

-- a numbering that there is
abbrev pub IsTable : EntityTable → Option ℕ → Type 0
IsTable es None = Unit {0}
IsTable es (Some c) = c < length es.made

pub table_same : (u w : Option ℕ) → (u ≡ w) ⊎ (u ≢ w)
table_same None None = inl refl
table_same None (Some c) = inr (λ e. cc)
table_same (Some d) None = inr (λ e. cc)
table_same (Some d) (Some c) = elim (is_or_not d c) [ inl e ↦ inl (ap Some e) | inr e ↦ inr (λ f. e (some_eq f)) ]

pub table_here : (ch : RowTable → RowTable) (es : EntityTable) (w : Option ℕ) → IsTable es w
    → rows_in (with_table ch es w) w ≡ ch (rows_in es w)
table_here ch es None is = refl
table_here ch es (Some c) is = index_change ch es.made c no_rows is

pub table_other : (ch : RowTable → RowTable) (es : EntityTable) (w u : Option ℕ) → u ≢ w
    → rows_in (with_table ch es w) u ≡ rows_in es u
table_other ch es None None far = absurd (far refl)
table_other ch es None (Some d) far = refl
table_other ch es (Some c) None far = refl
table_other ch es (Some c) (Some d) far = index_other ch es.made c d no_rows (λ e. far (ap Some e))

-- each numbering is the changed one or as before
pub table_case : (ch : RowTable → RowTable) (es : EntityTable) (w u : Option ℕ) → IsTable es w
    → ((u ≡ w) × (rows_in (with_table ch es w) u ≡ ch (rows_in es u)))
    ⊎ ((u ≢ w) × (rows_in (with_table ch es w) u ≡ rows_in es u))
table_case ch es w u is = elim (table_same u w) [
  | inl e ↦ inl (e, subst (λ z. rows_in (with_table ch es w) z ≡ ch (rows_in es z)) (sym e) (table_here ch es w is))
  | inr e ↦ inr (e, table_other ch es w u e)
]

pub table_made : (ch : RowTable → RowTable) (es : EntityTable) (w : Option ℕ)
    → length (with_table ch es w).made ≡ length es.made
table_made ch es None = refl
table_made ch es (Some c) = length_change ch es.made c

-- ---- how many heads and seats

used_more : (f : ClassShape → ℕ) (cs : List ClassShape) (rs : List Row) (r : Row)
    → used_of f cs (rs ++ r ∷ []) ≡ used_of f cs rs + f (class_in cs r.class)
used_more f cs [] r = omega arith
used_more f cs (q ∷ rs) r = let d = used_more f cs rs r in omega (arith, d)

used_change : (f : ClassShape → ℕ) (cs : List ClassShape) (ts : List RowTable) (c : ℕ) (r : Row) (v : List ℤ)
    → c < length ts → used_made f cs (change_at (with_row r v) ts c) ≡ used_made f cs ts + f (class_in cs r.class)
used_change f cs [] c r v lt = absurd (omega (arith, lt))
used_change f cs (t ∷ ts) zero r v lt = let d = used_more f cs t.rows r in omega (arith, d)
used_change f cs (t ∷ ts) (suc c) r v lt = let d = used_change f cs ts c r v (omega (arith, lt)) in omega (arith, d)

pub used_grown : (f : ClassShape → ℕ) (cs : List ClassShape) (es : EntityTable) (w : Option ℕ) (r : Row) (v : List ℤ)
    → IsTable es w → used_in f cs (with_table (with_row r v) es w) ≡ used_in f cs es + f (class_in cs r.class)
used_grown f cs es None r v is = let d = used_more f cs es.references.rows r in omega (arith, d)
used_grown f cs es (Some c) r v is = let d = used_change f cs es.made c r v is in omega (arith, d)
