-- An entity made: the parts are a store still, and the state has one entity more.
use Rattle.std.proofs.lemmas.Bool.Decides.{nat_tests}
use Rattle.std.proofs.Common.{◌≡◌, ◌⊎◌, inl, inr, ℕ, ℤ, zero, suc, ◌+◌, ◌<◌, ◌≤◌, ◌==◌, List, [], ◌∷◌, ◌++◌}
use Rattle.std.proofs.Common.{length, map, replicate, refl, ap, sym, subst, ◌∙◌, arith, slice_get}
use Rattle.std.proofs.Common.{Option, Some, None, true, false, cond, length-append}
use Rattle.std.specs.Option.{option_map, option_or}
use Rattle.ss_links.specs.Board.{IsSound, list_at}
use Rattle.ss_links.specs.Seats.{has}
use Rattle.ss_program.specs.declared.kinds.Owner.{Owner}
use Rattle.ss_program.specs.declared.kinds.Owner.TheVariants.{System, OwnedBy}
use Rattle.ss_store.specs.declared.rows.Row.{Row}
use Rattle.ss_store.specs.declared.shape.ClassShape.{ClassShape}
use Rattle.ss_store.specs.declared.shape.SetShape.{SetShape}
use Rattle.ss_store.specs.Tables.{class_of}
use Rattle.ss_store.specs.Rows.{RowTable, EntityTable, rows_in, row_in, row_of}
use Rattle.ss_store.specs.Store.{AreInRange}
use Rattle.ss_store.specs.declared.limits.TheConstants.{MOST_ENTITIES}
use Rattle.ss_words.specs.declared.limits.TheConstants.{MOST_REFERENCES}
use Rattle.ss_store.specs.Invariant.{IsStore, IsRow}
use Rattle.ss_store.specs.Parts.{StoreParts, HeadEntry, SeatEntry, head_by, seat_at}
use Rattle.ss_store.specs.Making.{with_row, heads_for, seats_for, next_number, next_row, with_next_entity}
use Rattle.ss_store.proofs.Core.{some_eq, found, map_some, made_none}
use Rattle.ss_store.proofs.Agree.{get_below}
use Rattle.ss_store.proofs.More.{left, right, more_get, length_more, length_rep}
use Rattle.ss_store.proofs.More.{IsTable, table_case, table_made, used_grown}

-- an entity of class c with these attributes, in its numbering
pub record Grows (g : StoreParts) (w : Option ℕ) (c : ℕ) (shape : ClassShape) (v : List ℤ) : Type 0 where
  pub class : c < length g.tables.classes
  pub is : class_of g.tables c ≡ shape
  pub table : IsTable g.rows w
  pub which : ((w ≡ Some c) × (shape.permanent ≡ true)) ⊎ ((w ≡ None) × (shape.permanent ≡ false))
  pub value_counts : length v ≡ shape.attributes
  pub values_in_range : AreInRange v
  pub few_made : (d : ℕ) → w ≡ Some d → length (rows_in g.rows w).rows < MOST_ENTITIES
  pub few_given : w ≡ None → length (rows_in g.rows w).rows < MOST_REFERENCES

pub length_heads : (c x k n : ℕ) → length (heads_for c x k n) ≡ n
length_heads c x k zero = refl
length_heads c x k (suc n) = ap suc (length_heads c x (suc k) n)

pub length_seats : (c x k n : ℕ) → length (seats_for c x k n) ≡ n
length_seats c x k zero = refl
length_seats c x k (suc n) = ap suc (length_seats c x (suc k) n)

pub get_heads : (c x k n i : ℕ) → i < n → slice_get (heads_for c x k n) i
    ≡ Some (record { owner = OwnedBy c; list = k + i; number = x })
get_heads c x k zero i lt = absurd (omega (arith, lt))
get_heads c x k (suc n) zero lt = let z : k ≡ k + 0 = omega arith in
    λ i. Some (record { owner = OwnedBy c; list = z i; number = x })
get_heads c x k (suc n) (suc i) lt = let z : suc k + i ≡ k + suc i = omega arith in
    get_heads c x (suc k) n i (omega (arith, lt)) ∙ λ j. Some (record { owner = OwnedBy c; list = z j; number = x })

pub get_seats : (c x k n i : ℕ) → i < n → slice_get (seats_for c x k n) i
    ≡ Some (record { member = c; slot = k + i; number = x })
get_seats c x k zero i lt = absurd (omega (arith, lt))
get_seats c x k (suc n) zero lt = let z : k ≡ k + 0 = omega arith in
    λ i. Some (record { member = c; slot = z i; number = x })
get_seats c x k (suc n) (suc i) lt = let z : suc k + i ≡ k + suc i = omega arith in
    get_seats c x (suc k) n i (omega (arith, lt)) ∙ λ j. Some (record { member = c; slot = z j; number = x })

-- whose they are
pub heads_of_one : (c x k n i : ℕ) (e : HeadEntry) → slice_get (heads_for c x k n) i ≡ Some e
    → (e.owner ≡ OwnedBy c) × (e.number ≡ x)
heads_of_one c x k zero i e f = cc
heads_of_one c x k (suc n) zero e f = (
  sym (ap (λ (z : HeadEntry). z.owner) (some_eq f)),
  sym (ap (λ (z : HeadEntry). z.number) (some_eq f)),
)
heads_of_one c x k (suc n) (suc i) e f = heads_of_one c x (suc k) n i e f

pub seats_of_one : (c x k n i : ℕ) (e : SeatEntry) → slice_get (seats_for c x k n) i ≡ Some e
    → (e.member ≡ c) × (e.number ≡ x)
seats_of_one c x k zero i e f = cc
seats_of_one c x k (suc n) zero e f = (
  sym (ap (λ (z : SeatEntry). z.member) (some_eq f)),
  sym (ap (λ (z : SeatEntry). z.number) (some_eq f)),
)
seats_of_one c x k (suc n) (suc i) e f = seats_of_one c x (suc k) n i e f

pub seat_numbers : (c x k n : ℕ) → map (λ (m : SeatEntry). m.number) (seats_for c x k n) ≡ replicate n x
seat_numbers c x k zero = refl
seat_numbers c x k (suc n) = ap (λ z. x ∷ z) (seat_numbers c x (suc k) n)

pub map_both : {A B : Type 0} (f : A → B) (xs ys : List A) → map f (xs ++ ys) ≡ map f xs ++ map f ys
map_both f [] ys = refl
map_both f (x ∷ xs) ys = ap (λ z. f x ∷ z) (map_both f xs ys)

-- empty lists at the end change no list
list_rep : (n j : ℕ) → list_at (replicate n []) j ≡ []
list_rep zero j = refl
list_rep (suc n) zero = refl
list_rep (suc n) (suc j) = list_rep n j

pub list_more : (ls : List (List ℕ)) (n j : ℕ) → list_at (ls ++ replicate n []) j ≡ list_at ls j
list_more [] n j = list_rep n j
list_more (l ∷ ls) n zero = refl
list_more (l ∷ ls) n (suc j) = list_more ls n j

pub list_past : (ls : List (List ℕ)) (j : ℕ) → length ls ≤ j → list_at ls j ≡ []
list_past [] j le = refl
list_past (l ∷ ls) zero le = absurd (omega (arith, le))
list_past (l ∷ ls) (suc j) le = list_past ls j (omega (arith, le))

-- ---- rows

-- a row of the old numbering is one of the new
pub row_kept : (g : StoreParts) (w : Option ℕ) (c : ℕ) (shape : ClassShape) (v : List ℤ) → IsTable g.rows w
    → (u : Option ℕ) (i : ℕ) (r : Row) → slice_get (rows_in g.rows u).rows i ≡ Some r
    → slice_get (rows_in (with_next_entity g w c shape v).rows u).rows i ≡ Some r
row_kept g w c shape v t u i r e = elim (table_case (with_row (next_row g c) v) g.rows w u t) [
  | inl k ↦ ap (λ (z : RowTable). slice_get z.rows i) k.1 ∙ left (rows_in g.rows u).rows (next_row g c ∷ []) i r e
  | inr k ↦ ap (λ (z : RowTable). slice_get z.rows i) k.1 ∙ e
]

pub value_kept : (g : StoreParts) (w : Option ℕ) (c : ℕ) (shape : ClassShape) (v : List ℤ) → IsTable g.rows w
    → (u : Option ℕ) (i : ℕ) (x : Option (List ℤ)) → slice_get (rows_in g.rows u).values i ≡ Some x
    → slice_get (rows_in (with_next_entity g w c shape v).rows u).values i ≡ Some x
value_kept g w c shape v t u i x e = elim (table_case (with_row (next_row g c) v) g.rows w u t) [
  | inl k ↦ ap (λ (z : RowTable). slice_get z.values i) k.1 ∙ left (rows_in g.rows u).values (Some v ∷ []) i x e
  | inr k ↦ ap (λ (z : RowTable). slice_get z.values i) k.1 ∙ e
]

-- a row of the new numbering is one of the old, or the new one
abbrev pub IsNew : StoreParts → Option ℕ → ℕ → Option ℕ → ℕ → Row → Type 0
IsNew g w c u i r = (u ≡ w) × (i ≡ length (rows_in g.rows w).rows) × (next_row g c ≡ r)

pub row_was : (g : StoreParts) (w : Option ℕ) (c : ℕ) (shape : ClassShape) (v : List ℤ) → IsTable g.rows w
    → (u : Option ℕ) (i : ℕ) (r : Row) → slice_get (rows_in (with_next_entity g w c shape v).rows u).rows i ≡ Some r
    → (slice_get (rows_in g.rows u).rows i ≡ Some r) ⊎ IsNew g w c u i r
row_was g w c shape v t u i r e = elim (table_case (with_row (next_row g c) v) g.rows w u t) [
  | inl k ↦ elim (more_get (rows_in g.rows u).rows (next_row g c) i r
      (ap (λ (z : RowTable). slice_get z.rows i) (sym k.1) ∙ e)) [
        | inl f ↦ inl f
        | inr f ↦ inr (k.0, f.0 ∙ ap (λ z. length (rows_in g.rows z).rows) k.0, f.1)
      ]
  | inr k ↦ inl (ap (λ (z : RowTable). slice_get z.rows i) (sym k.1) ∙ e)
]

pub value_was : (g : StoreParts) (w : Option ℕ) (c : ℕ) (shape : ClassShape) (v : List ℤ) → IsTable g.rows w
    → (u : Option ℕ) (i : ℕ) (x : Option (List ℤ))
    → slice_get (rows_in (with_next_entity g w c shape v).rows u).values i ≡ Some x
    → (slice_get (rows_in g.rows u).values i ≡ Some x)
    ⊎ ((u ≡ w) × (i ≡ length (rows_in g.rows w).values) × (Some v ≡ x))
value_was g w c shape v t u i x e = elim (table_case (with_row (next_row g c) v) g.rows w u t) [
  | inl k ↦ elim (more_get (rows_in g.rows u).values (Some v) i x (ap (λ (z : RowTable). slice_get z.values i) (sym k.1)
      ∙ e)) [
        | inl f ↦ inl f
        | inr f ↦ inr (k.0, f.0 ∙ ap (λ z. length (rows_in g.rows z).values) k.0, f.1)
      ]
  | inr k ↦ inl (ap (λ (z : RowTable). slice_get z.values i) (sym k.1) ∙ e)
]

-- ---- entities found

pub living_from : (t : RowTable) (c i : ℕ) (r : Row) (v : List ℤ) → slice_get t.rows i ≡ Some r
    → slice_get t.values i ≡ Some (Some v) → r.class ≡ c → row_in t c i ≡ Some r
living_from t c i r v er ev ec = rw (er, ev)
    (subst (λ z. cond (r.class == z) (Some r) None ≡ Some r) ec (let same : (r.class == r.class) ≡ true =
    grind (arith, nat_tests) in rw same refl))

living_none : (t : RowTable) (c i : ℕ) → slice_get t.rows i ≡ None → row_in t c i ≡ None
living_none t c i e = rw e refl

pub refound : (es : EntityTable) (d i : ℕ) (q : Row) (v : List ℤ) (u : Option ℕ) → ((u ≡ Some d) ⊎ (u ≡ None))
    → slice_get (rows_in es u).rows i ≡ Some q → slice_get (rows_in es u).values i ≡ Some (Some v) → q.class ≡ d
    → (u ≡ None → slice_get (rows_in es (Some d)).rows i ≡ None) → row_of es d (suc i) ≡ Some q
refound es d i q v u (inl is) er ev ec later =
    ap (λ z. option_or z (row_in es.references d i))
    (living_from (rows_in es (Some d)) d i q v (ap (λ z. slice_get (rows_in es z).rows i) (sym is)
    ∙ er) (ap (λ z. slice_get (rows_in es z).values i) (sym is) ∙ ev) ec)
refound es d i q v u (inr is) er ev ec later =
    ap (λ z. option_or z (row_in es.references d i)) (living_none (rows_in es (Some d)) d i (later is))
    ∙ living_from es.references d i q v (ap (λ z. slice_get (rows_in es z).rows i) (sym is)
    ∙ er) (ap (λ z. slice_get (rows_in es z).values i) (sym is) ∙ ev) ec

-- a class of references has no rows of its own then, either
pub given_none : (g : StoreParts) (w : Option ℕ) (c : ℕ) (shape : ClassShape) (v : List ℤ) → Grows g w c shape v → (d i : ℕ)
    → (class_of g.tables d).permanent ≡ false → slice_get (rows_in g.rows (Some d)).rows i ≡ None
    → slice_get (rows_in (with_next_entity g w c shape v).rows (Some d)).rows i ≡ None
given_none g w c shape v k d i f e = elim (table_case (with_row (next_row g c) v) g.rows w (Some d) k.table) [
  | inl a ↦ absurd (elim k.which [
    | inl b ↦
        let same : d ≡ c = some_eq (a.0 ∙ b.0) in
        let yes : (class_of g.tables d).permanent ≡ true = ap (λ z. (class_of g.tables z).permanent) same
        ∙ ap (λ (z : ClassShape). z.permanent) k.is ∙ b.1 in
        let bad : true ≡ false = sym yes ∙ f in cc
    | inr b ↦ let bad : Some d ≡ None = a.0 ∙ b.0 in cc
  ])
  | inr a ↦ ap (λ (z : RowTable). slice_get z.rows i) a.1 ∙ e
]

pub row_of_kept : (g : StoreParts) (w : Option ℕ) (c : ℕ) (shape : ClassShape) (v : List ℤ) → IsStore g
    → Grows g w c shape v
    → (d k : ℕ) (q : Row) → row_of g.rows d k ≡ Some q → row_of (with_next_entity g w c shape v).rows d k ≡ Some q
row_of_kept g w c shape v s gr d k q e =
    let l = found g.rows d k q e in
    subst (λ z. row_of (with_next_entity g w c shape v).rows d z ≡ Some q) (sym l.number)
    (refound (with_next_entity g w c shape v).rows d l.index q l.value l.table l.which
    (row_kept g w c shape v gr.table l.table l.index q l.row)
    (value_kept g w c shape v gr.table l.table l.index (Some l.value) l.there) l.class
    (λ is.
    let row : slice_get g.rows.references.rows l.index ≡ Some q =
    ap (λ z. slice_get (rows_in g.rows z).rows l.index) (sym is) ∙ l.row in
    given_none g w c shape v gr d l.index (ap (λ z. (class_of g.tables z).permanent) (sym l.class)
    ∙ s.not_permanent l.index q row)
    (ap (λ z. slice_get (rows_in g.rows (Some z)).rows l.index) (sym l.class) ∙ made_none g l.index l.index q s row)))

head_kept : (g : StoreParts) (w : Option ℕ) (c : ℕ) (shape : ClassShape) (v : List ℤ) → IsStore g → Grows g w c shape v
    → (o : Owner) (p : SetShape) (x h : ℕ) → head_by o g.rows p x ≡ Some h
    → head_by o (with_next_entity g w c shape v).rows p x ≡ Some h
head_kept g w c shape v s gr System p x h e = e
head_kept g w c shape v s gr (OwnedBy d) p x h e =
    let q = map_some (row_of g.rows d x) (λ r. r.head + p.list) h e in
    ap (option_map (λ (r : Row). r.head + p.list)) (row_of_kept g w c shape v s gr d x q.0 q.1) ∙ ap Some q.2

seat_kept : (g : StoreParts) (w : Option ℕ) (c : ℕ) (shape : ClassShape) (v : List ℤ) → IsStore g → Grows g w c shape v
    → (p : SetShape) (x t : ℕ) → seat_at g.rows p x ≡ Some t → seat_at (with_next_entity g w c shape v).rows p x
    ≡ Some t
seat_kept g w c shape v s gr p x t e =
    let q = map_some (row_of g.rows p.member x) (λ r. r.seat + p.slot) t e in
    ap (option_map (λ (r : Row). r.seat + p.slot)) (row_of_kept g w c shape v s gr p.member x q.0 q.1) ∙ ap Some q.2

-- ---- the store

grown_row : (g : StoreParts) (w : Option ℕ) (c : ℕ) (shape : ClassShape) (v : List ℤ) → IsStore g → Grows g w c shape v
    → (u : Option ℕ) (i : ℕ) (r : Row) → (slice_get (rows_in g.rows u).rows i ≡ Some r) ⊎ IsNew g w c u i r
    → IsRow (with_next_entity g w c shape v) i r
grown_row g w c shape v s k u i r (inl f) =
    let d = s.each u i r f in
    record {
      class = d.class;
      heads = λ j l. left g.owners _ _ _ (d.heads j l);
      seats = λ j l. left g.members _ _ _ (d.seats j l);
    }
grown_row g w c shape v s k u i r (inr f) =
    let at = f.1 in
    let x = next_number g w in
    let number : x ≡ suc i = omega (arith, at) in
    subst (λ (z : Row). IsRow (with_next_entity g w c shape v) i z) f.2 (record {
      class = k.class;
      heads = λ j l.
          let lt : j < shape.owned = subst (λ (z : ClassShape). j < z.owned) k.is l in
          let z : 0 + j ≡ j = omega arith in
          ap (λ n. slice_get (g.owners ++ heads_for c x 0 shape.owned) (n + j)) (sym s.heads)
          ∙ right g.owners (heads_for c x 0 shape.owned) j ∙ get_heads c x 0 shape.owned j lt
          ∙ λ a. Some (record { owner = OwnedBy c; list = z a; number = number a });
      seats = λ j l.
          let lt : j < shape.joined = subst (λ (z : ClassShape). j < z.joined) k.is l in
          let z : 0 + j ≡ j = omega arith in
          ap (λ n. slice_get (g.members ++ seats_for c x 0 shape.joined) (n + j)) (sym s.seats)
          ∙ right g.members (seats_for c x 0 shape.joined) j ∙ get_seats c x 0 shape.joined j lt
          ∙ λ a. Some (record { member = c; slot = z a; number = number a });
    })

grown_valued : (g : StoreParts) (w : Option ℕ) (c : ℕ) (shape : ClassShape) (v : List ℤ) → IsStore g
    → Grows g w c shape v
    → (u : Option ℕ) (i : ℕ) (r : Row) (x : List ℤ) → slice_get (rows_in (with_next_entity g w c shape v).rows u).rows i
    ≡ Some r
    → slice_get (rows_in (with_next_entity g w c shape v).rows u).values i ≡ Some (Some x)
    → length x ≡ (class_of g.tables r.class).attributes
grown_valued g w c shape v s k u i r x er ev =
    elim (row_was g w c shape v k.table u i r er) [
      | inl a ↦ elim (value_was g w c shape v k.table u i (Some x) ev) [
        | inl b ↦ s.value_counts u i r x a b
        | inr b ↦ absurd (let lt = get_below (rows_in g.rows u).rows i r a in let at = b.1 in let same = s.rows w in
            let is : length (rows_in g.rows u).rows ≡ length (rows_in g.rows w).rows =
            ap (λ z. length (rows_in g.rows z).rows) b.0 in omega (arith, lt, at, same, is))
      ]
      | inr a ↦ elim (value_was g w c shape v k.table u i (Some x) ev) [
        | inl b ↦ absurd (let lt = get_below (rows_in g.rows u).values i (Some x) b in let at = a.1 in
            let same = s.rows w in let is : length (rows_in g.rows u).values ≡ length (rows_in g.rows w).values =
            ap (λ z. length (rows_in g.rows z).values) a.0 in omega (arith, lt, at, same, is))
        | inr b ↦ ap (length {A = ℤ}) (sym (some_eq b.2)) ∙ k.value_counts
            ∙ ap (λ (z : ClassShape). z.attributes) (sym k.is)
            ∙ ap (λ (z : Row). (class_of g.tables z.class).attributes) a.2
      ]
    ]

pub grown_store : (g : StoreParts) (w : Option ℕ) (c : ℕ) (shape : ClassShape) (v : List ℤ) → IsStore g
    → Grows g w c shape v
    → IsSound (with_next_entity g w c shape v).board → IsStore (with_next_entity g w c shape v)
grown_store g w c shape v s k sound = let x = next_number g w in record {
  tables = s.tables;
  sound = sound;
  heads = length-append g.owners (heads_for c x 0 shape.owned)
      ∙ (λ i. s.heads i + (length_heads c x 0 shape.owned ∙ sym (length_rep {A = List ℕ} shape.owned [])) i)
      ∙ sym (length-append g.board.lists (replicate shape.owned []));
  seats = length-append g.members (seats_for c x 0 shape.joined) ∙ (λ i. s.seats i + length_seats c x 0 shape.joined i);
  numbers = (λ i. s.numbers i ++ sym (seat_numbers c x 0 shape.joined) i)
      ∙ sym (map_both (λ (m : SeatEntry). m.number) g.members (seats_for c x 0 shape.joined));
  classes = table_made (with_row (next_row g c) v) g.rows w ∙ s.classes;
  rows = λ u. elim (table_case (with_row (next_row g c) v) g.rows w u k.table) [
    | inl a ↦ ap (λ (z : RowTable). length z.rows) a.1 ∙ length_more (rows_in g.rows u).rows (next_row g c)
        ∙ ap suc (s.rows u) ∙ sym (length_more (rows_in g.rows u).values (Some v))
        ∙ ap (λ (z : RowTable). length z.values) (sym a.1)
    | inr a ↦ ap (λ (z : RowTable). length z.rows) a.1 ∙ s.rows u ∙ ap (λ (z : RowTable). length z.values) (sym a.1)
  ];
  each = λ u i r e. grown_row g w c shape v s k u i r (row_was g w c shape v k.table u i r e);
  value_counts = λ u i r y er ev. grown_valued g w c shape v s k u i r y er ev;
  values_in_range = λ u i y e. elim (value_was g w c shape v k.table u i (Some y) e) [
    | inl a ↦ s.values_in_range u i y a
    | inr a ↦ subst AreInRange (some_eq a.2) k.values_in_range
  ];
  made = λ d i r e. elim (row_was g w c shape v k.table (Some d) i r e) [
    | inl a ↦ s.made d i r a
    | inr a ↦ elim k.which [
      | inl b ↦ let same : d ≡ c = some_eq (a.0 ∙ b.0) in (
        ap (λ (z : Row). z.class) (sym a.2) ∙ sym same,
        ap (λ z. (class_of g.tables z).permanent) same
            ∙ ap (λ (z : ClassShape). z.permanent) k.is ∙ b.1,
      )
      | inr b ↦ absurd (let bad : Some d ≡ None = a.0 ∙ b.0 in cc)
    ]
  ];
  stays = λ d i e. elim (value_was g w c shape v k.table (Some d) i None e) [
    | inl a ↦ s.stays d i a
    | inr a ↦ let bad = a.2 in cc
  ];
  not_permanent = λ i r e. elim (row_was g w c shape v k.table None i r e) [
    | inl a ↦ s.not_permanent i r a
    | inr a ↦ elim k.which [
      | inl b ↦ absurd (let bad : None ≡ Some c = a.0 ∙ b.0 in cc)
      | inr b ↦ ap (λ (z : Row). (class_of g.tables z.class).permanent) (sym a.2)
          ∙ ap (λ (z : ClassShape). z.permanent) k.is ∙ b.1
    ]
  ];
  system = λ j l. left g.owners _ j _ (s.system j l);
  are_members = λ h t f.
      let d = s.are_members h t (ap (λ l. has l t) (sym (list_more g.board.lists shape.owned h)) ∙ f) in
      record {
        set = d.set;
        owner = d.owner;
        member = d.member;
        is_set = d.is_set;
        head = head_kept g w c shape v s k d.set.owner d.set d.owner h d.head;
        seat = seat_kept g w c shape v s k d.set d.member t d.seat;
      };
  few_made = λ d. elim (table_case (with_row (next_row g c) v) g.rows w (Some d) k.table) [
    | inl a ↦
        let l = k.few_made d (sym a.0) in
        let n : length (rows_in (with_next_entity g w c shape v).rows (Some d)).rows
        ≡ suc (length (rows_in g.rows w).rows) =
        ap (λ (z : RowTable). length z.rows) a.1 ∙ length_more (rows_in g.rows (Some d)).rows (next_row g c)
        ∙ ap (λ z. suc (length (rows_in g.rows z).rows)) a.0 in
        omega (arith, l, n)
    | inr a ↦ let l = s.few_made d in let n : length (rows_in (with_next_entity g w c shape v).rows (Some d)).rows
        ≡ length (rows_in g.rows (Some d)).rows = ap (λ (z : RowTable). length z.rows) a.1 in omega (arith, l, n)
  ];
  few_references = elim (table_case (with_row (next_row g c) v) g.rows w None k.table) [
    | inl a ↦
        let l = k.few_given (sym a.0) in
        let n : length (rows_in (with_next_entity g w c shape v).rows None).rows
        ≡ suc (length (rows_in g.rows w).rows) =
        ap (λ (z : RowTable). length z.rows) a.1 ∙ length_more (rows_in g.rows None).rows (next_row g c)
        ∙ ap (λ z. suc (length (rows_in g.rows z).rows)) a.0 in
        omega (arith, l, n)
    | inr a ↦ let l = s.few_references in let n : length (rows_in (with_next_entity g w c shape v).rows None).rows
        ≡ length (rows_in g.rows None).rows = ap (λ (z : RowTable). length z.rows) a.1 in omega (arith, l, n)
  ];
  used_heads =
      let a = length-append g.owners (heads_for c x 0 shape.owned) in
      let b = length_heads c x 0 shape.owned in
      let u = used_grown (λ (z : ClassShape). z.owned) g.tables.classes g.rows w (next_row g c) v k.table in
      let o : (class_of g.tables c).owned ≡ shape.owned = ap (λ (z : ClassShape). z.owned) k.is in
      let p = s.used_heads in omega (arith, a, b, u, o, p);
  used_seats =
      let a = length-append g.members (seats_for c x 0 shape.joined) in
      let b = length_seats c x 0 shape.joined in
      let u = used_grown (λ (z : ClassShape). z.joined) g.tables.classes g.rows w (next_row g c) v k.table in
      let o : (class_of g.tables c).joined ≡ shape.joined = ap (λ (z : ClassShape). z.joined) k.is in
      let p = s.used_seats in omega (arith, a, b, u, o, p);
}
