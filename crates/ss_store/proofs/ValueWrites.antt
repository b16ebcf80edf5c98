-- Values written: the parts are a store still, and the state has the entity changed.
use Rattle.std.proofs.lemmas.Bool.Decides.{nat_tests}
use Rattle.std.proofs.Common.{Bool, negsuc, ◌^◌, ◌≡◌, ◌≢◌, ◌⊎◌, inl, inr, ℕ, ℤ, pos, zero, suc, ◌+◌, ◌-◌, ◌<◌, ◌==◌}
use Rattle.std.proofs.Common.{List, []}
use Rattle.std.proofs.Common.{◌∷◌}
use Rattle.std.proofs.Common.{length, map, refl, ap, sym, subst, ◌∙◌, arith, slice_get, slice_index_or}
use Rattle.std.proofs.Common.{Option, Some, None, true, false, set, length-set}
use Rattle.std.proofs.lemmas.List.{set-get_or}
use Rattle.std.specs.Prelude.{is_some, Result, Ok, Err}
use Rattle.std.specs.Option.{option_map}
use Rattle.ss_words.specs.declared.fault.RunFault.{RunFault}
use Rattle.ss_words.specs.declared.fault.RunFault.TheVariants.{NoEntity}
use Rattle.ss_store.specs.Order.{AreInOrder}
use Rattle.ss_store.specs.declared.change.StoreChange.{StoreChange}
use Rattle.ss_program.specs.declared.kinds.Owner.{Owner}
use Rattle.ss_program.specs.declared.kinds.Owner.TheVariants.{System, OwnedBy}
use Rattle.ss_store.specs.declared.rows.Row.{Row}
use Rattle.ss_store.specs.declared.shape.ClassShape.{ClassShape}
use Rattle.ss_store.specs.declared.shape.SetShape.{SetShape}
use Rattle.ss_store.specs.declared.change.StoreChange.TheVariants.{AttributeSet}
use Rattle.ss_store.specs.Lists.{change_at}
use Rattle.ss_store.specs.Tables.{class_of}
use Rattle.ss_store.specs.Rows.{RowTable, EntityTable, no_rows, rows_in, row_of}
use Rattle.std.specs.Int.Signed.{mag}
use Rattle.ss_store.specs.Store.{Entity, Store, AreInRange, exists, with_value, with_changed}
use Rattle.ss_words.specs.Ranges.{in_range}
use Rattle.ss_store.specs.Store.{changed_reference}
use Rattle.ss_store.specs.Store.{with_attribute}
use Rattle.ss_store.specs.Change.{IsOutcome, Leaves, unapply_store}
use Rattle.ss_store.specs.Invariant.{IsStore, used_of, used_made}
use Rattle.ss_store.specs.Parts.{StoreParts, HeadEntry, SeatEntry}
use Rattle.ss_store.specs.Value.{StoreValue}
use Rattle.ss_store.specs.Invariant.{used_in}
use Rattle.ss_store.specs.Parts.{head_by, numbers_under, reference_with}
use Rattle.ss_store.specs.Parts.{made_with, zip_rows, zip_table, layout_of, state_of, state_at, value_of}
use Rattle.ss_store.specs.Making.{numbering_by, with_table}
use Rattle.ss_store.specs.Writing.{with_values}
use Rattle.ss_store.proofs.Core.{some_eq, found, map_some, made_none}
use Rattle.ss_store.proofs.OneListChanges.{is_or_not, zipped_some, reference_class, reference_other, index_map}
use Rattle.ss_store.proofs.OneListChanges.{change_same}
use Rattle.ss_store.proofs.OneListChanges.{zipped_none}
use Rattle.ss_store.proofs.Agree.{entity_is}
use Rattle.ss_store.proofs.More.{change_change, change_none, map_change, index_get, IsTable, table_case, table_here}
use Rattle.ss_store.proofs.More.{table_made}
use Rattle.ss_store.proofs.OneMoreEntity.{refound}
use Rattle.ss_store.proofs.MakingAnswers.{At, table_there, which_numbering}
use Rattle.ss_store.proofs.TakingOffAnswers.{its_table, row_some}

pub get_other : {A : Type 0} (xs : List A) (i j : ℕ) (y : A) → j ≢ i → slice_get (set xs i y) j ≡ slice_get xs j
get_other [] i j y far = refl
get_other (x ∷ xs) zero zero y far = absurd (far refl)
get_other (x ∷ xs) zero (suc j) y far = refl
get_other (x ∷ xs) (suc i) zero y far = refl
get_other (x ∷ xs) (suc i) (suc j) y far = get_other xs i j y (λ e. far (ap suc e))

pub get_set : {A : Type 0} (xs : List A) (i : ℕ) (y z : A) → slice_get xs i ≡ Some z → slice_get (set xs i y) i ≡ Some y
get_set [] i y z e = cc
get_set (x ∷ xs) zero y z e = refl
get_set (x ∷ xs) (suc i) y z e = get_set xs i y z e

-- a value written in a row of a numbering
pub record Writes (g : StoreParts) (w : Option ℕ) (c i : ℕ) (r : Row) (before after : List ℤ) : Type 0 where
  pub table : IsTable g.rows w
  pub row : slice_get (rows_in g.rows w).rows i ≡ Some r
  pub class : r.class ≡ c
  pub was : slice_get (rows_in g.rows w).values i ≡ Some (Some before)
  pub long : length after ≡ length before
  pub values_in_range : AreInRange after

abbrev pub wrote : StoreParts → Option ℕ → ℕ → List ℤ → StoreParts
wrote g w i v = record g { rows = with_table (with_values i (Some v)) g.rows w }

rows_same : (g : StoreParts) (w : Option ℕ) (i : ℕ) (v : List ℤ) → IsTable g.rows w → (u : Option ℕ)
    → (rows_in (wrote g w i v).rows u).rows ≡ (rows_in g.rows u).rows
rows_same g w i v t u = elim (table_case (with_values i (Some v)) g.rows w u t) [
  | inl a ↦ ap (λ (z : RowTable). z.rows) a.1
  | inr a ↦ ap (λ (z : RowTable). z.rows) a.1
]

values_long : (g : StoreParts) (w : Option ℕ) (i : ℕ) (v : List ℤ) → IsTable g.rows w → (u : Option ℕ)
    → length (rows_in (wrote g w i v).rows u).values ≡ length (rows_in g.rows u).values
values_long g w i v t u = elim (table_case (with_values i (Some v)) g.rows w u t) [
  | inl a ↦ ap (λ (z : RowTable). length z.values) a.1 ∙ length-set (rows_in g.rows u).values i (Some v)
  | inr a ↦ ap (λ (z : RowTable). length z.values) a.1
]

-- a value there is the new one or an old one
value_now : (g : StoreParts) (w : Option ℕ) (c i : ℕ) (r : Row) (before v : List ℤ) → Writes g w c i r before v
    → (u : Option ℕ) (j : ℕ) (x : Option (List ℤ)) → slice_get (rows_in (wrote g w i v).rows u).values j ≡ Some x
    → ((u ≡ w) × (j ≡ i) × (x ≡ Some v)) ⊎ (slice_get (rows_in g.rows u).values j ≡ Some x)
value_now g w c i r before v k u j x e = elim (table_case (with_values i (Some v)) g.rows w u k.table) [
  | inl a ↦ elim (is_or_not j i) [
    | inl is ↦ inl (
      a.0,
      is,
      some_eq (sym e ∙ ap (λ (z : RowTable). slice_get z.values j) a.1
          ∙ ap (slice_get (set (rows_in g.rows u).values i (Some v))) is
          ∙ get_set (rows_in g.rows u).values i (Some v) (Some before)
          (ap (λ z. slice_get (rows_in g.rows z).values i) a.0 ∙ k.was)),
    )
    | inr far ↦ inr (sym (get_other (rows_in g.rows u).values i j (Some v) far)
        ∙ ap (λ (z : RowTable). slice_get z.values j) (sym a.1) ∙ e)
  ]
  | inr a ↦ inr (ap (λ (z : RowTable). slice_get z.values j) (sym a.1) ∙ e)
]

-- and an entity that has values has values still
value_stays : (g : StoreParts) (w : Option ℕ) (i : ℕ) (v : List ℤ) → IsTable g.rows w
    → (u : Option ℕ) (j : ℕ) (x : List ℤ)
    → slice_get (rows_in g.rows u).values j ≡ Some (Some x)
    → (y : List ℤ) × (slice_get (rows_in (wrote g w i v).rows u).values j ≡ Some (Some y))
value_stays g w i v t u j x e = elim (table_case (with_values i (Some v)) g.rows w u t) [
  | inl a ↦ elim (is_or_not j i) [
    | inl is ↦ (
      v,
      ap (λ (z : RowTable). slice_get z.values j) a.1
          ∙ ap (slice_get (set (rows_in g.rows u).values i (Some v))) is
          ∙ get_set (rows_in g.rows u).values i (Some v) (Some x) (ap (slice_get (rows_in g.rows u).values) (sym is)
          ∙ e),
    )
    | inr far ↦ (
      x,
      ap (λ (z : RowTable). slice_get z.values j) a.1
          ∙ get_other (rows_in g.rows u).values i j (Some v) far ∙ e,
    )
  ]
  | inr a ↦ (x, ap (λ (z : RowTable). slice_get z.values j) a.1 ∙ e)
]

row_of_stays : (g : StoreParts) (w : Option ℕ) (i : ℕ) (v : List ℤ) → IsStore g → IsTable g.rows w → (d x : ℕ) (q : Row)
    → row_of g.rows d x ≡ Some q → row_of (wrote g w i v).rows d x ≡ Some q
row_of_stays g w i v s t d x q e =
    let l = found g.rows d x q e in
    let y = value_stays g w i v t l.table l.index l.value l.there in
    subst (λ z. row_of (wrote g w i v).rows d z ≡ Some q) (sym l.number)
    (refound (wrote g w i v).rows d l.index q y.0 l.table l.which
    (ap (λ z. slice_get z l.index) (rows_same g w i v t l.table) ∙ l.row) y.1 l.class
    (λ is.
    let row : slice_get g.rows.references.rows l.index ≡ Some q =
    ap (λ z. slice_get (rows_in g.rows z).rows l.index) (sym is) ∙ l.row in
    ap (λ z. slice_get z l.index) (rows_same g w i v t (Some d))
    ∙ ap (λ z. slice_get (rows_in g.rows (Some z)).rows l.index) (sym l.class)
    ∙ made_none g l.index l.index q s row))

head_stays : (g : StoreParts) (w : Option ℕ) (i : ℕ) (v : List ℤ) → IsStore g → IsTable g.rows w
    → (o : Owner) (p : SetShape) (x h : ℕ) → head_by o g.rows p x ≡ Some h → head_by o (wrote g w i v).rows p x ≡ Some h
head_stays g w i v s t System p x h e = e
head_stays g w i v s t (OwnedBy d) p x h e =
    let q = map_some (row_of g.rows d x) (λ r. r.head + p.list) h e in
    ap (option_map (λ (r : Row). r.head + p.list)) (row_of_stays g w i v s t d x q.0 q.1) ∙ ap Some q.2

used_change : (f : ClassShape → ℕ) (cs : List ClassShape) (ts : List RowTable) (c i : ℕ) (v : Option (List ℤ))
    → used_made f cs (change_at (with_values i v) ts c) ≡ used_made f cs ts
used_change f cs [] c i v = refl
used_change f cs (t ∷ ts) zero i v = refl
used_change f cs (t ∷ ts) (suc c) i v = ap (λ z. used_of f cs t.rows + z) (used_change f cs ts c i v)

used_stays : (f : ClassShape → ℕ) (cs : List ClassShape) (es : EntityTable) (w : Option ℕ) (i : ℕ) (v : Option (List ℤ))
    → used_in f cs (with_table (with_values i v) es w) ≡ used_in f cs es
used_stays f cs es None i v = refl
used_stays f cs es (Some c) i v = ap (λ z. z + used_of f cs es.references.rows) (used_change f cs es.made c i v)

pub wrote_store : (g : StoreParts) (w : Option ℕ) (c i : ℕ) (r : Row) (before v : List ℤ) → IsStore g
    → Writes g w c i r before v → IsStore (wrote g w i v)
wrote_store g w c i r before v s k = record {
  tables = s.tables;
  sound = s.sound;
  heads = s.heads;
  seats = s.seats;
  numbers = s.numbers;
  classes = table_made (with_values i (Some v)) g.rows w ∙ s.classes;
  rows = λ u. ap (length {A = Row}) (rows_same g w i v k.table u) ∙ s.rows u ∙ sym (values_long g w i v k.table u);
  each = λ u j q e. let d = s.each u j q (ap (λ z. slice_get z j) (sym (rows_same g w i v k.table u)) ∙ e) in
      record { class = d.class; heads = d.heads; seats = d.seats };
  value_counts = λ u j q x eq ex.
      let there : slice_get (rows_in g.rows u).rows j ≡ Some q =
      ap (λ z. slice_get z j) (sym (rows_same g w i v k.table u)) ∙ eq in
      elim (value_now g w c i r before v k u j (Some x) ex) [
        | inl a ↦
            let was : slice_get (rows_in g.rows u).values j ≡ Some (Some before) =
            (λ n. slice_get (rows_in g.rows (a.0 n)).values (a.1 n)) ∙ k.was in
            ap (length {A = ℤ}) (some_eq a.2) ∙ k.long ∙ s.value_counts u j q before there was
        | inr a ↦ s.value_counts u j q x there a
      ];
  values_in_range = λ u j x e. elim (value_now g w c i r before v k u j (Some x) e) [
    | inl a ↦ subst AreInRange (sym (some_eq a.2)) k.values_in_range
    | inr a ↦ s.values_in_range u j x a
  ];
  made = λ d j q e. s.made d j q (ap (λ z. slice_get z j) (sym (rows_same g w i v k.table (Some d))) ∙ e);
  stays = λ d j e. elim (value_now g w c i r before v k (Some d) j None e) [
    | inl a ↦ let bad = a.2 in cc
    | inr a ↦ s.stays d j a
  ];
  not_permanent = λ j q e. s.not_permanent j q (ap (λ z. slice_get z j) (sym (rows_same g w i v k.table None)) ∙ e);
  system = s.system;
  are_members = λ h t e.
      let d = s.are_members h t e in
      let p = map_some (row_of g.rows d.set.member d.member) (λ (z : Row). z.seat + d.set.slot) t d.seat in
      record {
        set = d.set;
        owner = d.owner;
        member = d.member;
        is_set = d.is_set;
        head = head_stays g w i v s k.table d.set.owner d.set d.owner h d.head;
        seat = ap (option_map (λ (z : Row). z.seat + d.set.slot))
            (row_of_stays g w i v s k.table d.set.member d.member p.0 p.1) ∙ ap Some p.2;
      };
  few_made = λ d. let e = s.few_made d in let n : length (rows_in (wrote g w i v).rows (Some d)).rows
      ≡ length (rows_in g.rows (Some d)).rows = ap (length {A = Row}) (rows_same g w i v k.table (Some d)) in
      omega (arith, e, n);
  few_references = let e = s.few_references in
      let n : length (rows_in (wrote g w i v).rows None).rows ≡ length (rows_in g.rows None).rows =
      ap (length {A = Row}) (rows_same g w i v k.table None) in omega (arith, e, n);
  used_heads = s.used_heads ∙ ap (λ z. g.tables.system + z)
      (sym (used_stays (λ (z : ClassShape). z.owned) g.tables.classes g.rows w i (Some v)));
  used_seats = s.used_seats ∙ sym (used_stays (λ (z : ClassShape). z.joined) g.tables.classes g.rows w i (Some v));
}

-- ---- the state

zipped_put : {A : Type 0} (f : Row → Option (List ℤ) → A) (ch : A → A) (rs : List Row) (vs : List (Option (List ℤ)))
    (i : ℕ) (r : Row) (v u : Option (List ℤ)) → slice_get rs i ≡ Some r → slice_get vs i ≡ Some v → f r u ≡ ch (f r v)
    → zip_rows f rs (set vs i u) ≡ change_at ch (zip_rows f rs vs) i
zipped_put f ch [] vs i r v u er ev s = cc
zipped_put f ch (q ∷ rs) [] i r v u er ev s = refl
zipped_put f ch (q ∷ rs) (z ∷ vs) zero r v u er ev s =
    ap (λ y. y ∷ zip_rows f rs vs) (ap (λ y. f y u) (some_eq er) ∙ s
    ∙ (λ n. ch (f (sym (some_eq er) n) (sym (some_eq ev) n))))
zipped_put f ch (q ∷ rs) (z ∷ vs) (suc i) r v u er ev s = ap (λ y. f q z ∷ y) (zipped_put f ch rs vs i r v u er ev s)

pub wrote_state : (g : StoreParts) (w : Option ℕ) (c i : ℕ) (r : Row) (before : List ℤ) (a : ℕ) (x : ℤ) → IsStore g
    → ((w ≡ Some c) ⊎ (w ≡ None)) → Writes g w c i r before (set before a x)
    → state_of (wrote g w i (set before a x)) ≡ with_changed (with_value a x) (state_of g) c (suc i)
wrote_state g None c i r before a x s which k =
    let cs = g.tables.classes in
    let at = numbers_under g.board g.numbers in
    let ch : Entity → Entity = with_value a x in
    let same : (r.class == c) ≡ true = subst (λ z. (r.class == z) ≡ true) k.class (grind (arith, nat_tests)) in
    let here : reference_with cs at r (Some (set before a x))
    ≡ changed_reference ch c (reference_with cs at r (Some before)) = rw same refl in
    let none : change_at (λ row. change_at ch row i) (state_of g).made c ≡ (state_of g).made =
    change_same (λ row. change_at ch row i) (state_of g).made c (λ row e.
    change_same ch row i (λ y f.
    let this : zip_table (made_with cs at) (rows_in g.rows (Some c)) ≡ row =
    sym (index_map (zip_table (made_with cs at)) g.rows.made c no_rows) ∙ index_get (state_of g).made c [] row e in
    let gone : slice_get row i ≡ None = ap (λ z. slice_get z i) (sym this)
    ∙ zipped_none (made_with cs at) (rows_in g.rows (Some c)).rows (rows_in g.rows (Some c)).values i
    (ap (λ z. slice_get (rows_in g.rows (Some z)).rows i) (sym k.class) ∙ made_none g i i r s k.row) in
    absurd (let bad : None ≡ Some y = sym gone ∙ f in cc))) in
    λ n. record {
      made = sym none n;
      references = zipped_put (reference_with cs at) (changed_reference ch c) g.rows.references.rows
          g.rows.references.values i r (Some before) (Some (set before a x)) k.row k.was here n;
      system = (state_of g).system;
    }
wrote_state g (Some d) c i r before a x s which k =
    let cs = g.tables.classes in
    let at = numbers_under g.board g.numbers in
    let ch : Entity → Entity = with_value a x in
    let dc : d ≡ c = elim which [ inl e ↦ some_eq e | inr e ↦ absurd cc ] in
    let m = s.made d i r k.row in
    let made : map (zip_table (made_with cs at)) (change_at (with_values i (Some (set before a x))) g.rows.made d)
    ≡ change_at (λ row. change_at ch row i) (map (zip_table (made_with cs at)) g.rows.made) d =
    map_change (zip_table (made_with cs at)) (with_values i (Some (set before a x))) (λ row. change_at ch row i)
    g.rows.made d (λ t e.
    let is : rows_in g.rows (Some d) ≡ t = index_get g.rows.made d no_rows t e in
    zipped_put (made_with cs at) ch t.rows t.values i r (Some before) (Some (set before a x))
    (ap (λ (z : RowTable). slice_get z.rows i) (sym is)
    ∙ k.row) (ap (λ (z : RowTable). slice_get z.values i) (sym is) ∙ k.was) refl) in
    let none : change_at (changed_reference ch c) (state_of g).references i ≡ (state_of g).references =
    change_same (changed_reference ch c) (state_of g).references i (λ y f.
    reference_other ch c y (λ e ey same.
    let z = zipped_some (reference_with cs at) g.rows.references.rows g.rows.references.values i y f in
    let class : z.0.class ≡ d = reference_class cs at z.0 z.1 e (z.4 ∙ ey) ∙ same ∙ sym dc in
    let yes : (class_of g.tables z.0.class).permanent ≡ true = ap (λ q. (class_of g.tables q).permanent) class ∙ m.1 in
    let bad = s.not_permanent i z.0 z.2 in cc)) in
    λ n. record {
      made = (made ∙ ap (λ z. change_at (λ row. change_at ch row i) (state_of g).made z) dc) n;
      references = sym none n;
      system = (state_of g).system;
    }

pub wrote_kept : (g : StoreParts) (w : Option ℕ) (i : ℕ) (v : List ℤ) → layout_of (wrote g w i v) ≡ layout_of g
wrote_kept g None i v = refl
wrote_kept g (Some c) i v = ap (λ z. record (layout_of g) { made = z })
    (map_change (λ (t : RowTable). t.rows) (with_values i (Some v)) (λ z. z) g.rows.made c (λ x e. refl)
    ∙ change_none (λ z. z) (map (λ (t : RowTable). t.rows) g.rows.made) c (λ x e. refl))

-- ---- written back

pub set_twice : {A : Type 0} (xs : List A) (i : ℕ) (x y : A) → set (set xs i x) i y ≡ set xs i y
set_twice [] i x y = refl
set_twice (z ∷ xs) zero x y = refl
set_twice (z ∷ xs) (suc i) x y = ap (λ q. z ∷ q) (set_twice xs i x y)

pub set_same : {A : Type 0} (xs : List A) (i : ℕ) (x : A) → slice_get xs i ≡ Some x → set xs i x ≡ xs
set_same [] i x e = refl
set_same (z ∷ xs) zero x e = ap (λ q. q ∷ xs) (sym (some_eq e))
set_same (z ∷ xs) (suc i) x e = ap (λ q. z ∷ q) (set_same xs i x e)

table_back : (es : EntityTable) (w : Option ℕ) (i : ℕ) (u v : Option (List ℤ))
    → slice_get (rows_in es w).values i ≡ Some v
    → with_table (with_values i v) (with_table (with_values i u) es w) w ≡ es
table_back es None i u v e = λ n. record es {
  references =
      record {
        rows = es.references.rows;
        values =
            (set_twice es.references.values i u v ∙ set_same es.references.values i v e) n;
      };
}
table_back es (Some c) i u v e = λ n. record es {
  made = (change_change (with_values i u) (with_values i v) (λ z. z) es.made c
      (λ t f. λ m. record {
        rows = t.rows;
        values =
            (set_twice t.values i u v ∙ set_same t.values i v
            (ap (λ (z : RowTable). slice_get z.values i) (sym (index_get es.made c no_rows t f)) ∙ e)) m;
      })
      ∙ change_none (λ z. z) es.made c (λ t f. refl)) n;
}

back_value : (before : List ℤ) (a : ℕ) (x : ℤ) → set (set before a x) a (slice_index_or before a (pos 0)) ≡ before
back_value before a x = set_twice before a x (slice_index_or before a (pos 0)) ∙ set-get_or before a (pos 0)

-- written back, the state is as before
pub wrote_back : (g : StoreParts) (w : Option ℕ) (c i : ℕ) (r : Row) (before : List ℤ) (a : ℕ) (x : ℤ) → IsStore g
    → ((w ≡ Some c) ⊎ (w ≡ None)) → Writes g w c i r before (set before a x)
    → with_changed (with_value a (slice_index_or before a (pos 0))) (state_of (wrote g w i (set before a x))) c (suc i)
    ≡ state_of g
wrote_back g w c i r before a x s which k =
    let g2 = wrote g w i (set before a x) in
    let s2 = wrote_store g w c i r before (set before a x) s k in
    let old = slice_index_or before a (pos 0) in
    let was : slice_get (rows_in g2.rows w).values i ≡ Some (Some (set before a x)) =
    ap (λ (z : RowTable). slice_get z.values i)
    (table_here (with_values i (Some (set before a x))) g.rows w k.table)
    ∙ get_set (rows_in g.rows w).values i (Some (set before a x)) (Some before) k.was in
    let again : Writes g2 w c i r (set before a x) (set (set before a x) a old) = record {
      table = (elim w as (λ z. IsTable g.rows z
          → IsTable (with_table (with_values i (Some (set before a x))) g.rows z) z) [
            | None ↦ λ f. tt
            | Some q ↦ λ f. subst (λ z. q < z) (sym (table_made (with_values i (Some (set before a x))) g.rows
                (Some q)))
                f
          ]) k.table;
      row = ap (λ z. slice_get z i) (rows_same g w i (set before a x) k.table w) ∙ k.row;
      class = k.class;
      was = was;
      long = length-set (set before a x) a old;
      values_in_range = subst AreInRange (sym (back_value before a x)) (s.values_in_range w i before k.was);
    } in
    sym (wrote_state g2 w c i r (set before a x) a old s2 which again)
    ∙ (λ n. state_at g.tables (numbers_under g.board g.numbers)
    ((ap (λ z. with_table (with_values i (Some z)) g2.rows w) (back_value before a x)
    ∙ table_back g.rows w i (Some (set before a x)) (Some before) k.was) n))

-- ---- the calls

-- an entity that exists, and its row and values
pub record Lies (g : StoreParts) (c k : ℕ) (shape : ClassShape) : Type 0 where
  pub index : ℕ
  pub number : k ≡ suc index
  pub row : Row
  pub value : List ℤ
  pub table : IsTable g.rows (numbering_by shape.permanent c)
  pub there : slice_get (rows_in g.rows (numbering_by shape.permanent c)).rows index ≡ Some row
  pub class : row.class ≡ c
  pub was : slice_get (rows_in g.rows (numbering_by shape.permanent c)).values index ≡ Some (Some value)
  pub which : (numbering_by shape.permanent c ≡ Some c) ⊎ (numbering_by shape.permanent c ≡ None)

pub lies : (g : StoreParts) (v : StoreValue) (c k : ℕ) (shape : ClassShape) (r : Row) → At g v c shape
    → row_of g.rows c k ≡ Some r → Lies g c k shape
lies g v c k shape r a e =
    let l = found g.rows c k r e in
    let t = its_table g v c k shape r a l in record {
      index = l.index;
      number = l.number;
      row = r;
      value = l.value;
      table = table_there g v c shape a;
      there = ap (λ z. slice_get (rows_in g.rows z).rows l.index) (sym t) ∙ l.row;
      class = l.class;
      was = ap (λ z. slice_get (rows_in g.rows z).values l.index) (sym t) ∙ l.there;
      which = elim (which_numbering c shape.permanent) [ inl b ↦ inl b.0 | inr b ↦ inr b.0 ];
    }

-- an entity that exists has a row
pub row_there : (g : StoreParts) (v : StoreValue) (c k : ℕ) (shape : ClassShape) → At g v c shape → exists v.state c k
    ≡ true
    → (r : Row) × (row_of g.rows c k ≡ Some r)
row_there g v c k shape a e = row_some (row_of g.rows c k) (sym (entity_is g c k a.store)
    ∙ ap (λ (z : StoreValue). exists z.state c k) a.is ∙ e)

-- the index that the call writes at
index_is : (g : StoreParts) (c k : ℕ) (shape : ClassShape) (l : Lies g c k shape) → k - 1 ≡ l.index
index_is g c k shape l = let e = l.number in omega (arith, e)

pub living_at : (g : StoreParts) (c k n : ℕ) (shape : ClassShape) (l : Lies g c k shape) → n ≡ k - 1
    → slice_get (rows_in g.rows (numbering_by shape.permanent c)).values n ≡ Some (Some l.value)
living_at g c k n shape l e = ap (slice_get (rows_in g.rows (numbering_by shape.permanent c)).values) (e
    ∙ index_is g c k shape l) ∙ l.was

-- a list of values in range with one more of them written
set_ranged : (xs : List ℤ) (a : ℕ) (x : ℤ) → AreInRange xs → in_range x ≡ true → AreInRange (set xs a x)
set_ranged [] a x s e = s
set_ranged (y ∷ xs) zero x s e = (e, s.1)
set_ranged (y ∷ xs) (suc a) x s e = (s.0, set_ranged xs a x s.1 e)

-- a number of 64 bits is in range
pub signed_range : (x : ℤ) → mag x < 2 ^ 63 → in_range x ≡ true
signed_range (pos n) lt = grind (arith, nat_tests, lt)
signed_range (negsuc n) lt = grind (arith, nat_tests, lt)

writes : (g : StoreParts) (c k a : ℕ) (x : ℤ) (shape : ClassShape) → IsStore g → in_range x ≡ true
    → (l : Lies g c k shape)
    → Writes g (numbering_by shape.permanent c) c l.index l.row l.value (set l.value a x)
writes g c k a x shape s e l = record {
  table = l.table;
  row = l.there;
  class = l.class;
  was = l.was;
  long = length-set l.value a x;
  values_in_range = set_ranged l.value a x (s.values_in_range (numbering_by shape.permanent c) l.index l.value l.was) e;
}

-- the parts after the call
wrote_is : (g : StoreParts) (c k n a : ℕ) (x : ℤ) (shape : ClassShape) (es : EntityTable) (l : Lies g c k shape) → n
    ≡ k - 1
    → es ≡ with_table (with_values n (Some (set l.value a x))) g.rows (numbering_by shape.permanent c)
    → record g { rows = es } ≡ wrote g (numbering_by shape.permanent c) l.index (set l.value a x)
wrote_is g c k n a x shape es l e f = λ i. record g {
  rows =
      (f ∙ ap (λ z. with_table (with_values z (Some (set l.value a x))) g.rows (numbering_by shape.permanent c)) (e
      ∙ index_is g c k shape l)) i;
}

pub set_pair : (g : StoreParts) (v : StoreValue) (c k n a : ℕ) (x : ℤ) (shape : ClassShape) (es : EntityTable)
    → At g v c shape → in_range x ≡ true → (l : Lies g c k shape) → n ≡ k - 1
    → es ≡ with_table (with_values n (Some (set l.value a x))) g.rows (numbering_by shape.permanent c)
    → (fs : List Bool) → AreInOrder (record g { rows = es }) fs
    → (ws : List HeadEntry) × (ms : List SeatEntry)
    × IsStore (record {
      tables = g.tables;
      rows = es;
      numbers = g.numbers;
      owners = ws;
      members = ms;
      board = g.board;
    }) × AreInOrder (record {
      tables = g.tables;
      rows = es;
      numbers = g.numbers;
      owners = ws;
      members = ms;
      board = g.board;
    }) fs
set_pair g v c k n a x shape es at ix l e f fs o = (
  g.owners,
  g.members,
  subst IsStore (sym (wrote_is g c k n a x shape es l e f))
      (wrote_store g (numbering_by shape.permanent c) c l.index l.row l.value (set l.value a x) at.store
      (writes g c k a x shape at.store ix l)),
  o,
)

pub set_value : (g : StoreParts) (v : StoreValue) (c k n a : ℕ) (x : ℤ) (shape : ClassShape) (es : EntityTable)
    → value_of g ≡ v → IsStore g → At g v c shape → in_range x ≡ true → (l : Lies g c k shape) → n ≡ k - 1
    → es ≡ with_table (with_values n (Some (set l.value a x))) g.rows (numbering_by shape.permanent c)
    → value_of (record {
      tables = g.tables;
      rows = es;
      numbers = g.numbers;
      owners = g.owners;
      members = g.members;
      board = g.board;
    }) ≡ record {
      tables = v.tables;
      state = with_changed (with_value a x) v.state c k;
      kept = v.kept;
    }
set_value g v c k n a x shape es is s at ix l e f =
    ap value_of (wrote_is g c k n a x shape es l e f)
    ∙ (λ i. record {
      tables = g.tables;
      state =
          (wrote_state g (numbering_by shape.permanent c) c l.index l.row l.value a x at.store l.which
          (writes g c k a x shape at.store ix l) ∙ ap (with_changed (with_value a x) (state_of g) c) (sym l.number)) i;
      kept = wrote_kept g (numbering_by shape.permanent c) l.index (set l.value a x) i;
    })
    ∙ ap (λ (z : StoreValue). record {
      tables = z.tables;
      state = with_changed (with_value a x) z.state c k;
      kept = z.kept;
    }) is

set_leaves : (g : StoreParts) (c k a : ℕ) (x old : ℤ) (shape : ClassShape) (r : Row) → IsStore g → c
    < length g.tables.classes
    → in_range x ≡ true → (l : Lies g c k shape) → row_of g.rows c k ≡ Some r → old ≡ slice_index_or l.value a (pos 0)
    → Leaves (AttributeSet c a k old) (with_changed (with_value a x) (state_of g) c k) (value_of g)
    (value_of (wrote g (numbering_by shape.permanent c) l.index (set l.value a x)))
set_leaves g c k a x old shape r s lt ix l er eo =
    let w = numbering_by shape.permanent c in
    let g2 = wrote g w l.index (set l.value a x) in
    let k2 = writes g c k a x shape s ix l in
    let s2 = wrote_store g w c l.index l.row l.value (set l.value a x) s k2 in
    record {
      state = wrote_state g w c l.index l.row l.value a x s l.which k2
          ∙ ap (with_changed (with_value a x) (state_of g) c) (sym l.number);
      fits = record {
        is_class = lt;
        there = entity_is g2 c k s2 ∙ ap is_some (row_of_stays g w l.index (set l.value a x) s l.table c k r er);
      };
      back = λ i. record {
        tables = g.tables;
        state = ((λ n. with_changed (with_value a (eo n)) (state_of g2) c (l.number n))
            ∙ wrote_back g w c l.index l.row l.value a x s l.which k2) i;
        kept = wrote_kept g w l.index (set l.value a x) i;
      };
    }

pub set_outcome : (g : StoreParts) (v : StoreValue) (c k n a : ℕ) (x old : ℤ) (shape : ClassShape) (r : Row)
    (es : EntityTable) → value_of g ≡ v → IsStore g → At g v c shape → in_range x ≡ true → (l : Lies g c k shape)
    → row_of g.rows c k ≡ Some r → n ≡ k - 1
    → es ≡ with_table (with_values n (Some (set l.value a x))) g.rows (numbering_by shape.permanent c)
    → old ≡ slice_index_or l.value a (pos 0)
    → IsOutcome (Ok (AttributeSet c a k old)) (with_attribute v.state c a k x) v
    (value_of (record {
      tables = g.tables;
      rows = es;
      numbers = g.numbers;
      owners = g.owners;
      members = g.members;
      board = g.board;
    }))
set_outcome g v c k n a x old shape r es is s at ix l er en ee eo =
    let there : exists v.state c k ≡ true = ap (λ (z : StoreValue). exists z.state c k) (sym is) ∙ entity_is g c k s
    ∙ ap is_some er in
    let all = set_leaves g c k a x old shape r s at.below ix l er eo in
    let here = subst
    (λ (z : StoreParts). Leaves (AttributeSet c a k old) (with_changed (with_value a x) (state_of g) c k)
    (value_of g) (value_of z)) (sym (wrote_is g c k n a x shape es l en ee)) all in
    rw there (subst (λ (z : StoreValue). Leaves (AttributeSet c a k old) (with_changed (with_value a x) z.state c k) z
    (value_of (record {
      tables = g.tables;
      rows = es;
      numbers = g.numbers;
      owners = g.owners;
      members = g.members;
      board = g.board;
    }))) is here)

pub set_none : (g : StoreParts) (v : StoreValue) (c k a : ℕ) (x : ℤ) → value_of g ≡ v → IsStore g → row_of g.rows c k
    ≡ None
    → IsOutcome (Err NoEntity) (with_attribute v.state c a k x) v v
set_none g v c k a x is s e =
    let there : exists v.state c k ≡ false = ap (λ (z : StoreValue). exists z.state c k) (sym is) ∙ entity_is g c k s
    ∙ ap is_some e in
    rw there (refl, refl)

pub set_to : (q : Result StoreChange RunFault) (v w : StoreValue) (c k m a : ℕ) (x : ℤ) → k ≡ m
    → IsOutcome q (with_attribute v.state c a k x) v w → IsOutcome q (with_attribute v.state c a m x) v w
set_to q v w c k m a x e d = subst (λ z. IsOutcome q (with_attribute v.state c a z x) v w) e d

-- an entity that exists has a number from 1 on
pub positive : (st : Store) (c k : ℕ) → exists st c k ≡ true → 0 < k
positive st c zero e = cc
positive st c (suc k) e = omega arith

-- ---- values as the calls hand them on

pub as_value : (es old : EntityTable) (w : Option ℕ) (n a : ℕ) (u : List ℤ) (x y : ℤ)
    → es ≡ with_table (with_values n (Some (set u a y))) old w → y ≡ x
    → es ≡ with_table (with_values n (Some (set u a x))) old w
as_value es old w n a u x y e f = e ∙ ap (λ (z : ℤ). with_table (with_values n (Some (set u a z))) old w) f

pub set_outcome_to : (g : StoreParts) (v : StoreValue) (c k m n a : ℕ) (x old : ℤ) (shape : ClassShape) (r : Row)
    (es : EntityTable) → value_of g ≡ v → IsStore g → At g v c shape → in_range x ≡ true → (l : Lies g c k shape)
    → row_of g.rows c k ≡ Some r → n ≡ k - 1
    → es ≡ with_table (with_values n (Some (set l.value a x))) g.rows (numbering_by shape.permanent c)
    → old ≡ slice_index_or l.value a (pos 0) → k ≡ m
    → IsOutcome (Ok (AttributeSet c a k old)) (with_attribute v.state c a m x) v
    (value_of (record {
      tables = g.tables;
      rows = es;
      numbers = g.numbers;
      owners = g.owners;
      members = g.members;
      board = g.board;
    }))
set_outcome_to g v c k m n a x old shape r es is s at ix l er en ee eo em =
    set_to (Ok (AttributeSet c a k old)) v _ c k m a x em
    (set_outcome g v c k n a x old shape r es is s at ix l er en ee eo)

pub set_none_to : (g : StoreParts) (v : StoreValue) (c k m a : ℕ) (x : ℤ) → value_of g ≡ v → IsStore g
    → row_of g.rows c k ≡ None → k ≡ m → IsOutcome (Err NoEntity) (with_attribute v.state c a m x) v v
set_none_to g v c k m a x is s e em = set_to (Err NoEntity) v v c k m a x em (set_none g v c k a x is s e)

pub reset_back : (new v : StoreValue) (c a k : ℕ) (x y : ℤ)
    → new ≡ record { tables = v.tables; state = with_changed (with_value a y) v.state c k; kept = v.kept } → y ≡ x
    → new ≡ unapply_store (AttributeSet c a k x) v
reset_back new v c a k x y e f = e ∙ ap (λ (z : ℤ). record {
  tables = v.tables;
  state = with_changed (with_value a z) v.state c k;
  kept = v.kept;
}) f
