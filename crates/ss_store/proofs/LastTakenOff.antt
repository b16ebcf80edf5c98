-- The last entity taken off: the parts were the rest and that entity.
use Rattle.std.proofs.lemmas.Bool.Decides.{nat_tests}
use Rattle.std.proofs.Common.{◌≡◌, ◌⊎◌, inl, inr, ℕ, ℤ, zero, suc, ◌+◌, ◌-◌, ◌<◌, ◌≤◌, List, [], ◌∷◌, ◌++◌}
use Rattle.std.proofs.Common.{length, map, take, replicate, refl, ap, sym, subst, ◌∙◌, arith, slice_get}
use Rattle.std.proofs.Common.{Option, Some, None, true, false, length-append}
use Rattle.std.proofs.Math.Seq.{take-append_seam}
use Rattle.std.proofs.lemmas.List.{length-take-le}
use Rattle.std.specs.Option.{option_map}
use Rattle.ss_links.specs.Board.{IsSound, list_at}
use Rattle.ss_links.specs.Seats.{has}
use Rattle.ss_links.proofs.BoardLaws.{times-list_at}
use Rattle.ss_links.proofs.SeatLaws.{times_in-present}
use Rattle.ss_program.specs.declared.kinds.Owner.{Owner}
use Rattle.ss_program.specs.declared.kinds.Owner.TheVariants.{System, OwnedBy}
use Rattle.ss_store.specs.declared.rows.Row.{Row}
use Rattle.ss_store.specs.declared.shape.ClassShape.{ClassShape}
use Rattle.ss_store.specs.declared.shape.SetShape.{SetShape}
use Rattle.ss_store.specs.Tables.{class_of}
use Rattle.ss_store.specs.Rows.{RowTable, EntityTable, no_rows, rows_in, row_of}
use Rattle.ss_store.specs.Invariant.{IsStore, IsRow}
use Rattle.ss_store.specs.Parts.{StoreParts, SeatEntry, head_by, seat_at}
use Rattle.ss_store.specs.Making.{with_row, without_last_row, with_table, heads_for, seats_for, next_number, next_row}
use Rattle.ss_store.specs.Making.{with_next_entity, without_last_entity}
use Rattle.ss_store.proofs.Core.{found, map_some, made_none}
use Rattle.ss_store.proofs.Agree.{get_below, length_mapped}
use Rattle.ss_store.proofs.More.{split_get, length_more, same_fronts, tail_is, length_rep, change_change}
use Rattle.ss_store.proofs.More.{change_none, index_get, IsTable, table_case, table_here, table_made, used_grown}
use Rattle.ss_store.proofs.OneMoreEntity.{Grows, length_heads, length_seats, get_heads, get_seats, heads_of_one}
use Rattle.ss_store.proofs.OneMoreEntity.{seats_of_one, seat_numbers, map_both, list_more, list_past, row_kept}
use Rattle.ss_store.proofs.OneMoreEntity.{value_kept}
use Rattle.ss_store.proofs.OneMoreEntity.{row_was, value_was, refound}

-- ---- the parts before an entity was made are a store

-- a row of class c is in its numbering
which_table : (g : StoreParts) (w : Option ℕ) (c : ℕ) (shape : ClassShape) (v : List ℤ)
    → IsStore (with_next_entity g w c shape v)
    → Grows g w c shape v → (u : Option ℕ) (i : ℕ) (r : Row)
    → slice_get (rows_in (with_next_entity g w c shape v).rows u).rows i ≡ Some r → r.class ≡ c → u ≡ w
which_table g w c shape v s k None i r e f = elim k.which [
  | inl a ↦ absurd (
      let no : (class_of g.tables r.class).permanent ≡ false = s.not_permanent i r e in
      let yes : (class_of g.tables r.class).permanent ≡ true = ap (λ z. (class_of g.tables z).permanent) f
      ∙ ap (λ (z : ClassShape). z.permanent) k.is ∙ a.1 in
      let bad : true ≡ false = sym yes ∙ no in cc)
  | inr a ↦ sym a.0
]
which_table g w c shape v s k (Some d) i r e f = elim k.which [
  | inl a ↦ ap Some (sym (s.made d i r e).0 ∙ f) ∙ sym a.0
  | inr a ↦ absurd (
      let m = s.made d i r e in
      let no : (class_of g.tables d).permanent ≡ false = ap (λ z. (class_of g.tables z).permanent) (sym m.0 ∙ f)
      ∙ ap (λ (z : ClassShape). z.permanent) k.is ∙ a.1 in
      let bad : true ≡ false = sym m.1 ∙ no in cc)
]

ungrown_row : (g : StoreParts) (w : Option ℕ) (c : ℕ) (shape : ClassShape) (v : List ℤ)
    → IsStore (with_next_entity g w c shape v)
    → Grows g w c shape v → (u : Option ℕ) (i : ℕ) (r : Row) → slice_get (rows_in g.rows u).rows i ≡ Some r
    → IsRow g i r
ungrown_row g w c shape v s k u i r e =
    let er = row_kept g w c shape v k.table u i r e in
    let row = s.each u i r er in
    let no_one : (d : ℕ) → d ≡ c → r.class ≡ d → suc i ≡ next_number g w → ⊥ = λ d f h n. (
    let is = which_table g w c shape v s k u i r er (h ∙ f) in
    let lt = get_below (rows_in g.rows u).rows i r e in
    let same : length (rows_in g.rows u).rows ≡ length (rows_in g.rows w).rows =
    ap (λ z. length (rows_in g.rows z).rows) is in
    omega (arith, lt, same, n)) in
    record {
      class = row.class;
      heads = λ j l. elim (split_get g.owners (heads_for c (next_number g w) 0 shape.owned) (r.head + j) _
          (row.heads j l)) [
            | inl a ↦ a
            | inr a ↦ absurd (
                let o = heads_of_one c (next_number g w) 0 shape.owned a.0 _ a.2 in
                let same : OwnedBy r.class ≡ OwnedBy c = o.0 in
                let is : r.class ≡ c = cc in
                no_one c refl is o.1)
          ];
      seats = λ j l. elim (split_get g.members (seats_for c (next_number g w) 0 shape.joined) (r.seat + j) _
          (row.seats j l)) [
            | inl a ↦ a
            | inr a ↦ absurd (
                let o = seats_of_one c (next_number g w) 0 shape.joined a.0 _ a.2 in
                no_one c refl o.0 o.1)
          ];
    }

-- an entity found then was there, or is the new one
row_of_was : (g : StoreParts) (w : Option ℕ) (c : ℕ) (shape : ClassShape) (v : List ℤ)
    → IsStore (with_next_entity g w c shape v)
    → Grows g w c shape v → length (rows_in g.rows w).rows ≡ length (rows_in g.rows w).values → (d x : ℕ) (q : Row)
    → row_of (with_next_entity g w c shape v).rows d x ≡ Some q
    → (row_of g.rows d x ≡ Some q) ⊎ (q ≡ next_row g c)
row_of_was g w c shape v s k same d x q e =
    let l = found (with_next_entity g w c shape v).rows d x q e in
    elim (row_was g w c shape v k.table l.table l.index q l.row) [
      | inl a ↦ elim (value_was g w c shape v k.table l.table l.index (Some l.value) l.there) [
        | inl b ↦ inl (subst (λ z. row_of g.rows d z ≡ Some q) (sym l.number)
            (refound g.rows d l.index q l.value l.table l.which a b l.class (λ is.
            (elim (slice_get (rows_in g.rows (Some d)).rows l.index) as (λ o. slice_get (rows_in g.rows (Some d)).rows
            l.index ≡ o → o ≡ None) [
              | None ↦ λ f. refl
              | Some z ↦ λ f. absurd (
                  let there = row_kept g w c shape v k.table (Some d) l.index z f in
                  let row : slice_get (with_next_entity g w c shape v).rows.references.rows l.index ≡ Some q =
                  ap (λ y. slice_get (rows_in (with_next_entity g w c shape v).rows y).rows l.index) (sym is) ∙ l.row in
                  let gone = made_none (with_next_entity g w c shape v) l.index l.index q s row in
                  let bad : None ≡ Some z = sym gone ∙ ap (λ y. slice_get
                  (rows_in (with_next_entity g w c shape v).rows (Some y)).rows l.index) l.class ∙ there in cc)
            ]) refl)))
        | inr b ↦ absurd (let lt = get_below (rows_in g.rows l.table).rows l.index q a in let at = b.1 in
            let is : length (rows_in g.rows l.table).rows ≡ length (rows_in g.rows w).rows =
            ap (λ z. length (rows_in g.rows z).rows) b.0 in omega (arith, lt, at, same, is))
      ]
      | inr a ↦ inr (sym a.2)
    ]

head_was : (g : StoreParts) (w : Option ℕ) (c : ℕ) (shape : ClassShape) (v : List ℤ)
    → IsStore (with_next_entity g w c shape v)
    → Grows g w c shape v → length (rows_in g.rows w).rows ≡ length (rows_in g.rows w).values
    → (o : Owner) (p : SetShape) (x h : ℕ) → h < length g.board.lists
    → head_by o (with_next_entity g w c shape v).rows p x ≡ Some h → head_by o g.rows p x ≡ Some h
head_was g w c shape v s k same System p x h lt e = e
head_was g w c shape v s k same (OwnedBy d) p x h lt e =
    let q = map_some (row_of (with_next_entity g w c shape v).rows d x) (λ r. r.head + p.list) h e in
    elim (row_of_was g w c shape v s k same d x q.0 q.1) [
      | inl a ↦ ap (option_map (λ (r : Row). r.head + p.list)) a ∙ ap Some q.2
      | inr a ↦ absurd (let is : length g.board.lists + p.list ≡ h = ap (λ (r : Row). r.head + p.list) (sym a) ∙ q.2 in
          omega (arith, is, lt))
    ]

seat_was : (g : StoreParts) (w : Option ℕ) (c : ℕ) (shape : ClassShape) (v : List ℤ)
    → IsStore (with_next_entity g w c shape v)
    → Grows g w c shape v → length (rows_in g.rows w).rows ≡ length (rows_in g.rows w).values → (p : SetShape) (x t : ℕ)
    → t < g.board.seats → seat_at (with_next_entity g w c shape v).rows p x ≡ Some t → seat_at g.rows p x ≡ Some t
seat_was g w c shape v s k same p x t lt e =
    let q = map_some (row_of (with_next_entity g w c shape v).rows p.member x) (λ r. r.seat + p.slot) t e in
    elim (row_of_was g w c shape v s k same p.member x q.0 q.1) [
      | inl a ↦ ap (option_map (λ (r : Row). r.seat + p.slot)) a ∙ ap Some q.2
      | inr a ↦ absurd (let is : g.board.seats + p.slot ≡ t = ap (λ (r : Row). r.seat + p.slot) (sym a) ∙ q.2 in
          omega (arith, is, lt))
    ]

nat_below : (i n : ℕ) → (n ≤ i → ⊥) → i < n
nat_below zero zero f = absurd (f (omega arith))
nat_below zero (suc n) f = omega arith
nat_below (suc i) zero f = absurd (f (omega arith))
nat_below (suc i) (suc n) f = let d = nat_below i n (λ le. f (omega (arith, le))) in omega (arith, d)

pub ungrown_store : (g : StoreParts) (w : Option ℕ) (c : ℕ) (shape : ClassShape) (v : List ℤ)
    → IsStore (with_next_entity g w c shape v)
    → Grows g w c shape v → IsSound g.board → IsStore g
ungrown_store g w c shape v s k sound =
    let x = next_number g w in
    let rows : (u : Option ℕ) → length (rows_in g.rows u).rows ≡ length (rows_in g.rows u).values =
    λ u. elim (table_case (with_row (next_row g c) v) g.rows w u k.table) [
      | inl a ↦
          let e : length (rows_in (with_next_entity g w c shape v).rows u).rows ≡ suc (length (rows_in g.rows u).rows) =
          ap (λ (z : RowTable). length z.rows) a.1 ∙ length_more (rows_in g.rows u).rows (next_row g c) in
          let f : length (rows_in (with_next_entity g w c shape v).rows u).values
          ≡ suc (length (rows_in g.rows u).values) =
          ap (λ (z : RowTable). length z.values) a.1 ∙ length_more (rows_in g.rows u).values (Some v) in
          let b = s.rows u in omega (arith, e, f, b)
      | inr a ↦ ap (λ (z : RowTable). length z.rows) (sym a.1) ∙ s.rows u ∙ ap (λ (z : RowTable). length z.values) a.1
    ] in
    let heads : length g.owners ≡ length g.board.lists =
    (let a = length-append g.owners (heads_for c x 0 shape.owned) in let b = length_heads c x 0 shape.owned in
    let d = length-append g.board.lists (replicate shape.owned []) in
    let e = length_rep {A = List ℕ} shape.owned [] in let f = s.heads in omega (arith, a, b, d, e, f)) in
    let seats : length g.members ≡ g.board.seats =
    (let a = length-append g.members (seats_for c x 0 shape.joined) in let b = length_seats c x 0 shape.joined in
    let f = s.seats in omega (arith, a, b, f)) in
    let all : g.numbers ++ replicate shape.joined x
    ≡ map (λ (m : SeatEntry). m.number) g.members ++ replicate shape.joined x =
    s.numbers ∙ map_both (λ (m : SeatEntry). m.number) g.members (seats_for c x 0 shape.joined)
    ∙ ap (λ z. map (λ (m : SeatEntry). m.number) g.members ++ z) (seat_numbers c x 0 shape.joined) in
    let long : length g.numbers ≡ length (map (λ (m : SeatEntry). m.number) g.members) =
    (let a = length-append g.numbers (replicate shape.joined x) in
    let b = length-append (map (λ (m : SeatEntry). m.number) g.members) (replicate shape.joined x) in
    let e = ap (length {A = ℕ}) all in omega (arith, a, b, e)) in
    record {
      tables = s.tables;
      sound = sound;
      heads = heads;
      seats = seats;
      numbers = same_fronts g.numbers (map (λ (m : SeatEntry). m.number) g.members) (replicate shape.joined x) long all;
      classes = sym (table_made (with_row (next_row g c) v) g.rows w) ∙ s.classes;
      rows = rows;
      each = λ u i r e. ungrown_row g w c shape v s k u i r e;
      value_counts = λ u i r y er ev. s.value_counts u i r y (row_kept g w c shape v k.table u i r er)
          (value_kept g w c shape v k.table u i (Some y) ev);
      values_in_range = λ u i y e. s.values_in_range u i y (value_kept g w c shape v k.table u i (Some y) e);
      made = λ d i r e. s.made d i r (row_kept g w c shape v k.table (Some d) i r e);
      stays = λ d i e. s.stays d i (value_kept g w c shape v k.table (Some d) i None e);
      not_permanent = λ i r e. s.not_permanent i r (row_kept g w c shape v k.table None i r e);
      system = λ j l. elim (split_get g.owners (heads_for c x 0 shape.owned) j _ (s.system j l)) [
        | inl a ↦ a
        | inr a ↦ absurd (let o = heads_of_one c x 0 shape.owned a.0 _ a.2 in let bad : System ≡ OwnedBy c = o.0 in cc)
      ];
      are_members = λ h t f.
          let d = s.are_members h t (ap (λ l. has l t) (list_more g.board.lists shape.owned h) ∙ f) in
          let head : h < length g.board.lists = nat_below h (length g.board.lists) (λ le. let none : has [] t ≡ true =
          ap (λ l. has l t) (sym (list_past g.board.lists h le)) ∙ f in cc) in
          let seat : t < g.board.seats = nat_below t g.board.seats (λ le.
          let none = sound.below t le in let some = times-list_at g.board.lists h t in
          grind (arith, nat_tests, none, some, f, times_in-present (list_at g.board.lists h) t)) in
          record {
            set = d.set;
            owner = d.owner;
            member = d.member;
            is_set = d.is_set;
            head = head_was g w c shape v s k (rows w) d.set.owner d.set d.owner h head d.head;
            seat = seat_was g w c shape v s k (rows w) d.set d.member t seat d.seat;
          };
      few_made = λ d. elim (table_case (with_row (next_row g c) v) g.rows w (Some d) k.table) [
        | inl a ↦ let n : length (rows_in (with_next_entity g w c shape v).rows (Some d)).rows
            ≡ suc (length (rows_in g.rows (Some d)).rows) = ap (λ (z : RowTable). length z.rows) a.1
            ∙ length_more (rows_in g.rows (Some d)).rows (next_row g c) in let l = s.few_made d in omega (arith, l, n)
        | inr a ↦ let n : length (rows_in (with_next_entity g w c shape v).rows (Some d)).rows
            ≡ length (rows_in g.rows (Some d)).rows = ap (λ (z : RowTable). length z.rows) a.1 in
            let l = s.few_made d in omega (arith, l, n)
      ];
      few_references = elim (table_case (with_row (next_row g c) v) g.rows w None k.table) [
        | inl a ↦ let n : length (rows_in (with_next_entity g w c shape v).rows None).rows
            ≡ suc (length (rows_in g.rows None).rows) = ap (λ (z : RowTable). length z.rows) a.1
            ∙ length_more (rows_in g.rows None).rows (next_row g c) in let l = s.few_references in omega (arith, l, n)
        | inr a ↦ let n : length (rows_in (with_next_entity g w c shape v).rows None).rows
            ≡ length (rows_in g.rows None).rows =
            ap (λ (z : RowTable). length z.rows) a.1 in let l = s.few_references in omega (arith, l, n)
      ];
      used_heads =
          let a = length-append g.owners (heads_for c x 0 shape.owned) in
          let b = length_heads c x 0 shape.owned in
          let u = used_grown (λ (z : ClassShape). z.owned) g.tables.classes g.rows w (next_row g c) v k.table in
          let o : (class_of g.tables c).owned ≡ shape.owned = ap (λ (z : ClassShape). z.owned) k.is in
          let p = s.used_heads in omega (arith, a, b, u, o, p);
      used_seats =
          let a = length-append g.members (seats_for c x 0 shape.joined) in
          let b = length_seats c x 0 shape.joined in
          let u = used_grown (λ (z : ClassShape). z.joined) g.tables.classes g.rows w (next_row g c) v k.table in
          let o : (class_of g.tables c).joined ≡ shape.joined = ap (λ (z : ClassShape). z.joined) k.is in
          let p = s.used_seats in omega (arith, a, b, u, o, p);
    }

-- ---- a store is its rest, grown by the last entity

pub record Last (g : StoreParts) (w : Option ℕ) (c : ℕ) (shape : ClassShape) (n h t : ℕ) (v : List ℤ) : Type 0 where
  pub class : c < length g.tables.classes
  pub is : class_of g.tables c ≡ shape
  pub table : IsTable g.rows w
  pub which : ((w ≡ Some c) × (shape.permanent ≡ true)) ⊎ ((w ≡ None) × (shape.permanent ≡ false))
  pub last : length (rows_in g.rows w).rows ≡ suc n
  pub row : slice_get (rows_in g.rows w).rows n ≡ Some (record { class = c; head = h; seat = t })
  pub value : slice_get (rows_in g.rows w).values n ≡ Some (Some v)
  pub heads : h + shape.owned ≡ length g.board.lists
  pub seats : t + shape.joined ≡ g.board.seats
  pub empty : (k : ℕ) → k < shape.owned → list_at g.board.lists (h + k) ≡ []

tail_same : {A : Type 0} (xs ys : List A) (h : ℕ) → length xs ≡ h + length ys
    → ((k : ℕ) → k < length ys → slice_get xs (h + k) ≡ slice_get ys k) → xs ≡ take h xs ++ ys
tail_same xs ys h l s = tail_is xs ys h l (λ k y e. s k (get_below ys k y e) ∙ e)

last_is : {A : Type 0} (xs : List A) (n : ℕ) (x : A) → length xs ≡ suc n → slice_get xs n ≡ Some x
    → xs ≡ take (length xs - 1) xs ++ x ∷ []
last_is xs n x l e =
    let m : length xs - 1 ≡ n = omega (arith, l) in
    tail_is xs (x ∷ []) (length xs - 1) (omega (arith, l))
    (λ k y f. (elim k as (λ z. slice_get (x ∷ []) z ≡ Some y → slice_get xs (length xs - 1 + z) ≡ Some y) [
      | zero ↦ λ w. (let z : length xs - 1 + 0 ≡ n = omega (arith, m) in ap (slice_get xs) z ∙ e ∙ w)
      | suc z ↦ λ w. cc
    ]) f)

rows_back : (ch : RowTable → RowTable) (es : EntityTable) (w : Option ℕ) → ch (without_last_row (rows_in es w))
    ≡ rows_in es w
    → with_table ch (with_table without_last_row es w) w ≡ es
rows_back ch es None e = λ i. record es { references = e i }
rows_back ch es (Some c) e = λ i. record es {
  made =
      (change_change without_last_row ch (λ z. z) es.made c
      (λ x f. subst (λ (z : RowTable). ch (without_last_row z) ≡ z) (index_get es.made c no_rows x f) e)
      ∙ change_none (λ z. z) es.made c (λ x f. refl)) i;
}

get_at : (ls : List (List ℕ)) (j : ℕ) → j < length ls → slice_get ls j ≡ Some (list_at ls j)
get_at [] j lt = absurd (omega (arith, lt))
get_at (l ∷ ls) zero lt = refl
get_at (l ∷ ls) (suc j) lt = get_at ls j (omega (arith, lt))

rep_at : {A : Type 0} (n k : ℕ) (x : A) → k < n → slice_get (replicate n x) k ≡ Some x
rep_at zero k x lt = absurd (omega (arith, lt))
rep_at (suc n) zero x lt = refl
rep_at (suc n) (suc k) x lt = rep_at n k x (omega (arith, lt))

cut_length : (g : StoreParts) (w : Option ℕ) (c : ℕ) (shape : ClassShape) (n h t : ℕ) (v : List ℤ)
    → Last g w c shape n h t v
    → length (rows_in (without_last_entity g w h t).rows w).rows ≡ n
cut_length g w c shape n h t v d =
    let l = d.last in
    ap (λ (z : RowTable). length z.rows) (table_here without_last_row g.rows w d.table)
    ∙ length-take-le (length (rows_in g.rows w).rows - 1) (rows_in g.rows w).rows (omega (arith, l))
    ∙ omega (arith, l)

pub cut_heads : (g : StoreParts) (w : Option ℕ) (c : ℕ) (shape : ClassShape) (n h t : ℕ) (v : List ℤ)
    → Last g w c shape n h t v → length (without_last_entity g w h t).board.lists ≡ h
cut_heads g w c shape n h t v d = let e = d.heads in length-take-le h g.board.lists (omega (arith, e))

pub cut_grown : (g : StoreParts) (w : Option ℕ) (c : ℕ) (shape : ClassShape) (n h t : ℕ) (v : List ℤ) → IsStore g
    → Last g w c shape n h t v → g ≡ with_next_entity (without_last_entity g w h t) w c shape v
cut_grown g w c shape n h t v s d =
    let x = next_number (without_last_entity g w h t) w in
    let number : x ≡ suc n = ap suc (cut_length g w c shape n h t v d) in
    let hs = s.heads in let ss = s.seats in let hl = d.heads in let sl = d.seats in
    let row = s.each w n _ d.row in
    let values : length (rows_in g.rows w).values ≡ suc n =
    (let a = s.rows w in let b = d.last in omega (arith, a, b)) in
    let lh = length_heads c x 0 shape.owned in
    let ls = length_seats c x 0 shape.joined in
    let le = length_rep {A = List ℕ} shape.owned [] in
    let owners : g.owners ≡ take h g.owners ++ heads_for c x 0 shape.owned =
    tail_same g.owners (heads_for c x 0 shape.owned) h (omega (arith, hs, hl, lh)) (λ k lt.
    let below : k < shape.owned = omega (arith, lt, lh) in
    let z : 0 + k ≡ k = omega arith in
    row.heads k (subst (λ (y : ClassShape). k < y.owned) (sym d.is) below)
    ∙ (λ i. Some (record { owner = OwnedBy c; list = sym z i; number = sym number i }))
    ∙ sym (get_heads c x 0 shape.owned k below)) in
    let members : g.members ≡ take t g.members ++ seats_for c x 0 shape.joined =
    tail_same g.members (seats_for c x 0 shape.joined) t (omega (arith, ss, sl, ls)) (λ k lt.
    let below : k < shape.joined = omega (arith, lt, ls) in
    let z : 0 + k ≡ k = omega arith in
    row.seats k (subst (λ (y : ClassShape). k < y.joined) (sym d.is) below)
    ∙ (λ i. Some (record { member = c; slot = sym z i; number = sym number i }))
    ∙ sym (get_seats c x 0 shape.joined k below)) in
    let lists : g.board.lists ≡ take h g.board.lists ++ replicate shape.owned [] =
    tail_same g.board.lists (replicate shape.owned []) h (omega (arith, hl, le)) (λ k lt.
    let below : k < shape.owned = omega (arith, lt, le) in
    get_at g.board.lists (h + k) (omega (arith, below, hl)) ∙ ap Some (d.empty k below)
    ∙ sym (rep_at shape.owned k [] below)) in
    let front = map (λ (m : SeatEntry). m.number) (take t g.members) in
    let numbered : g.numbers ≡ front ++ replicate shape.joined x =
    s.numbers ∙ ap (map (λ (m : SeatEntry). m.number)) members
    ∙ map_both (λ (m : SeatEntry). m.number) (take t g.members) (seats_for c x 0 shape.joined)
    ∙ ap (λ z. front ++ z) (seat_numbers c x 0 shape.joined) in
    let long : t ≡ length front = sym (length_mapped _ (take t g.members)
    ∙ length-take-le t g.members (omega (arith, ss, sl))) in
    let fronts : take t g.numbers ≡ front = (λ i. take (long i) (numbered i))
    ∙ take-append_seam front (replicate shape.joined x) in
    let rows : with_table (with_row (next_row (without_last_entity g w h t) c) v)
    (with_table without_last_row g.rows w) w ≡ g.rows =
    ap (λ z.
    with_table (with_row (record { class = c; head = z; seat = t }) v) (with_table without_last_row g.rows w) w)
    (cut_heads g w c shape n h t v d)
    ∙ rows_back (with_row (record { class = c; head = h; seat = t }) v) g.rows w (λ i. record {
      rows = sym (last_is (rows_in g.rows w).rows n (record { class = c; head = h; seat = t }) d.last d.row) i;
      values = (ap (λ z. take (z - 1) (rows_in g.rows w).values ++ Some v ∷ []) (s.rows w)
          ∙ sym (last_is (rows_in g.rows w).values n (Some v) values d.value)) i;
    }) in
    λ i. record {
      tables = g.tables;
      rows = sym rows i;
      numbers = (numbered ∙ ap (λ z. z ++ replicate shape.joined x) (sym fronts)) i;
      owners = owners i;
      members = members i;
      board = record { lists = lists i; seats = sym sl i };
    }

-- the rest grows by it
pub cut_grows : (g : StoreParts) (w : Option ℕ) (c : ℕ) (shape : ClassShape) (n h t : ℕ) (v : List ℤ) → IsStore g
    → Last g w c shape n h t v → Grows (without_last_entity g w h t) w c shape v
cut_grows g w c shape n h t v s d =
    let m = cut_length g w c shape n h t v d in
    let l = d.last in record {
      class = d.class;
      is = d.is;
      table = (elim w as (λ z. IsTable g.rows z → IsTable (with_table without_last_row g.rows z) z) [
        | None ↦ λ f. tt
        | Some q ↦ λ f. subst (λ z. q < z) (sym (table_made without_last_row g.rows (Some q))) f
      ]) d.table;
      which = d.which;
      value_counts = s.value_counts w n _ v d.row d.value ∙ ap (λ (z : ClassShape). z.attributes) d.is;
      values_in_range = s.values_in_range w n v d.value;
      few_made = λ q e. let f = s.few_made q in
          let a : length (rows_in g.rows (Some q)).rows ≡ length (rows_in g.rows w).rows =
          ap (λ z. length (rows_in g.rows z).rows) (sym e) in omega (arith, f, a, l, m);
      few_given = λ e. let f = s.few_references in
          let a : length (rows_in g.rows None).rows ≡ length (rows_in g.rows w).rows =
          ap (λ z. length (rows_in g.rows z).rows) (sym e) in omega (arith, f, a, l, m);
    }

pub cut_store : (g : StoreParts) (w : Option ℕ) (c : ℕ) (shape : ClassShape) (n h t : ℕ) (v : List ℤ) → IsStore g
    → Last g w c shape n h t v → IsSound (without_last_entity g w h t).board → IsStore (without_last_entity g w h t)
cut_store g w c shape n h t v s d sound =
    ungrown_store (without_last_entity g w h t) w c shape v (subst IsStore (cut_grown g w c shape n h t v s d) s)
    (cut_grows g w c shape n h t v s d) sound
