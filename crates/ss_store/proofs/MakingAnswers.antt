-- The results of the calls that make an entity.
use Rattle.std.proofs.lemmas.Bool.Decides.{nat_tests}
use Rattle.std.proofs.Common.{◌≡◌, ◌⊎◌, inl, inr, ℕ, ℤ, pos, zero, suc, ◌+◌, ◌-◌, ◌*◌, ◌<◌, ◌≤◌, ◌==◌, ◌||◌, ◌&&◌}
use Rattle.std.proofs.Common.{◌^◌, List, [], ◌∷◌, ◌++◌, length, map, replicate, refl, ap, sym, subst, ◌∙◌, arith}
use Rattle.std.proofs.Common.{slice_get, slice_index_or, Option, Some, None, Bool, true, false, cond, eqb→eq, T}
use Rattle.std.proofs.Common.{length-append}
use Rattle.std.specs.Prelude.{is_some}
use Rattle.std.specs.Option.{option_map}
use Rattle.std.specs.List.{list_any}
use Rattle.ss_links.specs.Board.{Board, IsSound, list_at, head_of}
use Rattle.ss_links.specs.Seats.{has}
use Rattle.ss_links.proofs.BoardLaws.{head_of-found, times-list_at}
use Rattle.ss_links.proofs.SeatLaws.{times_in-present}
use Rattle.ss_store.specs.Order.{AreInOrder}
use Rattle.ss_store.specs.declared.rows.Row.{Row}
use Rattle.ss_store.specs.declared.shape.ClassShape.{ClassShape}
use Rattle.ss_store.specs.declared.shape.SetShape.{SetShape}
use Rattle.ss_store.specs.Tables.{class_in, class_of}
use Rattle.ss_store.specs.Rows.{RowTable, EntityTable, rows_in, row_of}
use Rattle.ss_store.specs.Store.{AreInRange, Store, Entity, entity, made_of, exists, is_filed, is_member, is_filled}
use Rattle.ss_store.specs.Store.{owns_members}
use Rattle.ss_store.specs.declared.limits.TheConstants.{MOST_ENTITIES}
use Rattle.ss_words.specs.declared.limits.TheConstants.{MOST_REFERENCES}
use Rattle.ss_store.specs.Invariant.{IsStore, used_of, used_made}
use Rattle.ss_store.specs.Parts.{StoreParts, HeadEntry, SeatEntry}
use Rattle.ss_store.specs.Value.{StoreValue}
use Rattle.ss_store.specs.Invariant.{used_in}
use Rattle.ss_store.specs.Parts.{seat_at, number_at, numbers_under, owned_from, reference_with, made_with, zip_rows}
use Rattle.ss_store.specs.Parts.{layout_of, state_of, value_of}
use Rattle.ss_store.specs.Making.{numbering_by, numbering, numbering_limit, with_row, with_table, heads_for, seats_for}
use Rattle.ss_store.specs.Making.{with_places, next_row, with_next_entity, rows_of_numbering}
use Rattle.ss_store.specs.Making.{FitsLast, HasRoom, Makes}
use Rattle.ss_store.proofs.Core.{found}
use Rattle.ss_store.proofs.Agree.{made_is, get_read, entity_some, entity_is, is_filed_is}
use Rattle.ss_store.proofs.More.{right, length_more, length_rep, index_get, IsTable, table_here}
use Rattle.ss_store.proofs.OneMoreEntity.{Grows, refound, list_more, list_past, grown_store}
use Rattle.ss_store.proofs.OneMoreInState.{look_more, kept_rows_are, numbering_is, grown_value, less_value}

-- a call on a class of a store
pub record At (g : StoreParts) (v : StoreValue) (c : ℕ) (shape : ClassShape) : Type 0 where
  pub is : value_of g ≡ v
  pub store : IsStore g
  pub below : c < length g.tables.classes
  pub shaped : class_of g.tables c ≡ shape

pub at_of : (g : StoreParts) (v : StoreValue) (c : ℕ) (shape : ClassShape) → value_of g ≡ v → IsStore g
    → c < length v.tables.classes → shape ≡ slice_index_or g.tables.classes c shape → At g v c shape
at_of g v c shape w s lt e =
    let below : c < length g.tables.classes = subst (λ (z : StoreValue). c < length z.tables.classes) (sym w) lt in
    record { is = w; store = s; below = below; shaped = rw (get_read g.tables.classes c shape below e) refl }

-- ---- counts

used_below : (f : ClassShape → ℕ) (cs : List ClassShape) (rs : List Row) → ((c : ℕ) → f (class_in cs c) ≤ 64)
    → used_of f cs rs ≤ length rs * 64
used_below f cs [] s = omega arith
used_below f cs (r ∷ rs) s = let a = used_below f cs rs s in let b = s r.class in omega (arith, a, b)

made_below : (f : ClassShape → ℕ) (cs : List ClassShape) (ts : List RowTable) → ((c : ℕ) → f (class_in cs c) ≤ 64)
    → ((i : ℕ) (t : RowTable) → slice_get ts i ≡ Some t → length t.rows ≤ 10000)
    → used_made f cs ts ≤ length ts * 640000
made_below f cs [] s l = omega arith
made_below f cs (t ∷ ts) s l = let a = made_below f cs ts s (λ i u e. l (suc i) u e) in
    let b = used_below f cs t.rows s in let d = l 0 t refl in omega (arith, a, b, d)

used_few : (g : StoreParts) (f : ClassShape → ℕ) → IsStore g → ((c : ℕ) → f (class_of g.tables c) ≤ 64)
    → used_in f g.tables.classes g.rows ≤ 104960000
used_few g f s l =
    let a = made_below f g.tables.classes g.rows.made l
    (λ i t e. subst (λ (z : RowTable). length z.rows ≤ 10000) (index_get g.rows.made i _ t e) (s.few_made i)) in
    let b = used_below f g.tables.classes g.rows.references.rows l in
    let d = s.classes in let e = s.tables.few_classes in let r = s.few_references in
    omega (arith, a, b, d, e, r)

pub heads_fit : (g : StoreParts) (v : StoreValue) (c : ℕ) (shape : ClassShape) → At g v c shape
    → length g.board.lists + shape.owned < 2 ^ 32
heads_fit g v c shape k =
    let a = used_few g (λ (z : ClassShape). z.owned) k.store k.store.tables.few_owned in
    let u = k.store.used_heads in let h = k.store.heads in let y = k.store.tables.few_system in
    let o = k.store.tables.few_owned c in let e : (class_of g.tables c).owned ≡ shape.owned =
    ap (λ (z : ClassShape). z.owned) k.shaped in
    omega (arith, a, u, h, y, o, e)

pub seats_fit : (g : StoreParts) (v : StoreValue) (c : ℕ) (shape : ClassShape) → At g v c shape
    → g.board.seats + shape.joined < 2 ^ 32
seats_fit g v c shape k =
    let a = used_few g (λ (z : ClassShape). z.joined) k.store k.store.tables.few_joined in
    let u = k.store.used_seats in let h = k.store.seats in
    let o = k.store.tables.few_joined c in let e : (class_of g.tables c).joined ≡ shape.joined =
    ap (λ (z : ClassShape). z.joined) k.shaped in
    omega (arith, a, u, h, o, e)

pub made_there : (g : StoreParts) (v : StoreValue) (c : ℕ) (shape : ClassShape) → At g v c shape → shape.permanent
    ≡ true
    → c < length g.rows.made
made_there g v c shape k e = let a = k.below in let b = k.store.classes in omega (arith, a, b)

pub table_there : (g : StoreParts) (v : StoreValue) (c : ℕ) (shape : ClassShape) → At g v c shape
    → IsTable g.rows (numbering_by shape.permanent c)
table_there g v c shape k = (elim shape.permanent as (λ b. IsTable g.rows (numbering_by b c)) [
  | true ↦
      (let a = k.below in let b = k.store.classes in omega (arith, a, b))
  | false ↦ tt
])

pub which_numbering : (c : ℕ) (b : Bool)
    → ((numbering_by b c ≡ Some c) × (b ≡ true)) ⊎ ((numbering_by b c ≡ None) × (b ≡ false))
which_numbering c true = inl (refl, refl)
which_numbering c false = inr (refl, refl)

-- ---- one more

room_made : (b : Bool) (c d n : ℕ) → n < cond b MOST_ENTITIES MOST_REFERENCES → numbering_by b c ≡ Some d
    → n < MOST_ENTITIES
room_made true c d n lt e = lt
room_made false c d n lt e = cc

room_given : (b : Bool) (c n : ℕ) → n < cond b MOST_ENTITIES MOST_REFERENCES → numbering_by b c ≡ None
    → n < MOST_REFERENCES
room_given true c n lt e = cc
room_given false c n lt e = lt

zeros_ranged : (n : ℕ) → AreInRange (replicate n (pos 0))
zeros_ranged zero = tt
zeros_ranged (suc n) = (refl, zeros_ranged n)

pub grows : (g : StoreParts) (v : StoreValue) (c : ℕ) (shape : ClassShape) → At g v c shape → HasRoom c v
    → Grows g (numbering_by shape.permanent c) c shape (replicate shape.attributes (pos 0))
grows g v c shape k room =
    let w = numbering_by shape.permanent c in
    let back : HasRoom c (value_of g) = subst (HasRoom c) (sym k.is) room in
    let some : length (rows_of_numbering (layout_of g) w) < numbering_limit shape =
    subst
    (λ (z : ClassShape). length (rows_of_numbering (layout_of g) (numbering z c)) < numbering_limit z) k.shaped back in
    let few : length (rows_in g.rows w).rows < numbering_limit shape =
    subst (λ (z : List Row). length z < numbering_limit shape) (kept_rows_are g w) some in
    record {
      class = k.below;
      is = k.shaped;
      table = table_there g v c shape k;
      which = which_numbering c shape.permanent;
      value_counts = length_rep shape.attributes (pos 0);
      values_in_range = zeros_ranged shape.attributes;
      few_made = λ d e. room_made shape.permanent c d _ few e;
      few_given = λ e. room_given shape.permanent c _ few e;
    }

-- ---- the new entity can be taken off

member_none : (sets : List SetShape) (st : Store) (c k : ℕ)
    → ((i : ℕ) (p : SetShape) → slice_get sets i ≡ Some p → p.member ≡ c → is_filed p st k ≡ false)
    → is_member sets st c k ≡ false
member_none [] st c k s = refl
member_none (p ∷ sets) st c k s =
    (elim (p.member == c) as (λ b. p.member == c ≡ b → ((b && is_filed p st k) || is_member sets st c k) ≡ false) [
      | true ↦ λ w. rw (s 0 p refl (eqb→eq p.member c (subst T (sym w) tt)))
          (member_none sets st c k (λ i q e. s (suc i) q e))
      | false ↦ λ w. member_none sets st c k (λ i q e. s (suc i) q e)
    ]) refl

none_filled : (at : ℕ → List ℕ) (f n : ℕ) → ((j : ℕ) → f ≤ j → at j ≡ [])
    → list_any is_filled (owned_from at f n) ≡ false
none_filled at f zero s = refl
none_filled at f (suc n) s = rw (s f (omega arith)) (none_filled at (suc f) n (λ j le. s j (omega (arith, le))))

-- its row
new_row : (g : StoreParts) (w : Option ℕ) (c : ℕ) (shape : ClassShape) (v : List ℤ) → Grows g w c shape v
    → slice_get (rows_in (with_next_entity g w c shape v).rows w).rows (length (rows_in g.rows w).rows)
    ≡ Some (next_row g c)
new_row g w c shape v k =
    let n = length (rows_in g.rows w).rows in
    let z : n ≡ n + 0 = omega arith in
    ap (λ (t : RowTable). slice_get t.rows n) (table_here (with_row (next_row g c) v) g.rows w k.table)
    ∙ ap (slice_get ((rows_in g.rows w).rows ++ next_row g c ∷ [])) z
    ∙ right (rows_in g.rows w).rows (next_row g c ∷ []) 0

new_value : (g : StoreParts) (w : Option ℕ) (c : ℕ) (shape : ClassShape) (v : List ℤ) → IsStore g → Grows g w c shape v
    → slice_get (rows_in (with_next_entity g w c shape v).rows w).values (length (rows_in g.rows w).rows)
    ≡ Some (Some v)
new_value g w c shape v s k =
    let n = length (rows_in g.rows w).values in
    let z : n ≡ n + 0 = omega arith in
    ap (λ (t : RowTable). slice_get t.values (length (rows_in g.rows w).rows))
    (table_here (with_row (next_row g c) v) g.rows w k.table)
    ∙ ap (slice_get ((rows_in g.rows w).values ++ Some v ∷ [])) (s.rows w ∙ z)
    ∙ right (rows_in g.rows w).values (Some v ∷ []) 0

new_found : (g : StoreParts) (w : Option ℕ) (c : ℕ) (shape : ClassShape) (v : List ℤ) → IsStore g
    → IsStore (with_next_entity g w c shape v) → Grows g w c shape v
    → row_of (with_next_entity g w c shape v).rows c (suc (length (rows_in g.rows w).rows)) ≡ Some (next_row g c)
new_found g w c shape v s t k =
    refound (with_next_entity g w c shape v).rows c (length (rows_in g.rows w).rows) (next_row g c) v w
    (elim k.which [ inl a ↦ inl a.0 | inr a ↦ inr a.0 ]) (new_row g w c shape v k) (new_value g w c shape v s k) refl
    (λ is. (elim (slice_get (rows_in (with_next_entity g w c shape v).rows (Some c)).rows
    (length (rows_in g.rows w).rows)) as (λ o. slice_get (rows_in (with_next_entity g w c shape v).rows (Some c)).rows
    (length (rows_in g.rows w).rows) ≡ o → o ≡ None) [
      | None ↦ λ e. refl
      | Some q ↦ λ e. absurd (
          let yes = (t.made c _ q e).1 in
          let no : (class_of g.tables c).permanent ≡ false = ap (λ (z : ClassShape). z.permanent) k.is
          ∙ elim k.which [ inl a ↦ absurd (let bad : None ≡ Some c = sym is ∙ a.0 in cc) | inr a ↦ a.1 ] in
          let bad : true ≡ false = sym yes ∙ no in cc)
    ]) refl)

new_free : (g : StoreParts) (w : Option ℕ) (c : ℕ) (shape : ClassShape) (v : List ℤ) (t : ℕ) → IsStore g → g.board.seats
    ≤ t
    → head_of (with_next_entity g w c shape v).board.lists t ≡ None
new_free g w c shape v t s le =
    (elim (head_of (with_next_entity g w c shape v).board.lists t) as
    (λ o. head_of (with_next_entity g w c shape v).board.lists t ≡ o
    → o ≡ None) [
      | None ↦ λ e. refl
      | Some h ↦ λ e. absurd (
          let f : has (list_at g.board.lists h) t ≡ true =
          ap (λ l. has l t) (sym (list_more g.board.lists shape.owned h))
          ∙ (head_of-found (with_next_entity g w c shape v).board.lists t h e).1 in
          let none = s.sound.below t le in let some = times-list_at g.board.lists h t in
          grind (arith, nat_tests, none, some, f, times_in-present (list_at g.board.lists h) t))
    ]) refl

pub new_fits : (g : StoreParts) (w : Option ℕ) (c : ℕ) (shape : ClassShape) (v : List ℤ) → IsStore g
    → IsStore (with_next_entity g w c shape v) → Grows g w c shape v
    → FitsLast c (suc (length (rows_of_numbering (layout_of g) (numbering (class_of g.tables c) c))))
    (length g.board.lists)
    g.board.seats (value_of (with_next_entity g w c shape v))
new_fits g w c shape v s t k =
    let G = with_next_entity g w c shape v in
    let n = numbering_is g w c shape v k in
    let count : length (rows_of_numbering (layout_of g) (numbering (class_of g.tables c) c))
    ≡ length (rows_in g.rows w).rows =
    ap (λ z. length (rows_of_numbering (layout_of g) z)) n ∙ ap (length {A = Row}) (kept_rows_are g w) in
    let rows : rows_of_numbering (layout_of G) (numbering (class_of g.tables c) c) ≡ (rows_in G.rows w).rows =
    ap (rows_of_numbering (layout_of G)) n ∙ kept_rows_are G w in
    let there = new_found g w c shape v s t k in
    let number : suc (length (rows_of_numbering (layout_of g) (numbering (class_of g.tables c) c)))
    ≡ suc (length (rows_in g.rows w).rows) = ap suc count in
    record {
      is_class = k.class;
      last = ap (length {A = Row}) rows ∙ ap (λ (z : RowTable). length z.rows)
          (table_here (with_row (next_row g c) v) g.rows w k.table) ∙ length_more (rows_in g.rows w).rows (next_row g c)
          ∙ sym number;
      row = (let at : suc (length (rows_of_numbering (layout_of g) (numbering (class_of g.tables c) c))) - 1
          ≡ length (rows_of_numbering (layout_of g) (numbering (class_of g.tables c) c)) = omega arith in
          λ i. slice_get (rows i) ((at ∙ count) i)) ∙ new_row g w c shape v k;
      last_heads = ap (λ (z : ClassShape). length g.board.lists + z.owned) k.is
          ∙ ap (λ z. length g.board.lists + z) (sym (length_rep {A = List ℕ} shape.owned []))
          ∙ sym (length-append g.board.lists (replicate shape.owned []));
      last_seats = ap (λ (z : ClassShape). g.board.seats + z.joined) k.is;
      there = ap (exists (state_of G) c) number ∙ entity_is G c (suc (length (rows_in g.rows w).rows)) t
          ∙ ap is_some there;
      free = ap (is_member g.tables.sets (state_of G) c) number ∙ member_none g.tables.sets (state_of G) c _ (λ i p e f.
          let seat : seat_at G.rows p (suc (length (rows_in g.rows w).rows)) ≡ Some (g.board.seats + p.slot) =
          ap (λ d. option_map (λ (r : Row). r.seat + p.slot)
          (row_of G.rows d (suc (length (rows_in g.rows w).rows)))) f
          ∙ ap (option_map (λ (r : Row). r.seat + p.slot)) there in
          is_filed_is G p (g.board.seats + p.slot) _ t (i, e) seat
          ∙ ap is_some (new_free g w c shape v (g.board.seats + p.slot) s (omega arith)));
      empty =
          let l = found G.rows c (suc (length (rows_in g.rows w).rows)) (next_row g c) there in
          ap (λ z. owns_members (entity (state_of G) c z)) number
          ∙ ap owns_members (entity_some G c (suc (length (rows_in g.rows w).rows)) (next_row g c) t l)
          ∙ none_filled (numbers_under G.board G.numbers) (length g.board.lists) (class_of g.tables c).owned
          (λ j le. look_more g w c shape v s j ∙ ap (map (number_at g.numbers)) (list_past g.board.lists j le));
    }

-- ---- the call

-- the parts once the entity was made
pub record Adds (g : StoreParts) (c : ℕ) (shape : ClassShape) (row : Row) (es : EntityTable) (ns : List ℕ)
    (b : Board) : Type 0 where
  pub row_is : row ≡ record { class = c; head = length g.board.lists; seat = g.board.seats }
  pub rows : es ≡ with_table (with_row row (replicate shape.attributes (pos 0))) g.rows (numbering_by shape.permanent c)
  pub numbers : ns ≡ g.numbers ++ replicate shape.joined
      (length (rows_in g.rows (numbering_by shape.permanent c)).rows + 1)
  pub board : b ≡ with_places shape.owned shape.joined g.board
  pub sound : IsSound b

abbrev pub added : StoreParts → ℕ → ClassShape → EntityTable → List ℕ → Board → StoreParts
added g c shape es ns b = record {
  tables = g.tables;
  rows = es;
  numbers = ns;
  owners = g.owners ++ heads_for c (suc (length (rows_in g.rows (numbering_by shape.permanent c)).rows)) 0 shape.owned;
  members = g.members ++ seats_for c (suc (length (rows_in g.rows (numbering_by shape.permanent c)).rows)) 0
      shape.joined;
  board = b;
}

pub added_is : (g : StoreParts) (c : ℕ) (shape : ClassShape) (row : Row) (es : EntityTable) (ns : List ℕ) (b : Board)
    → Adds g c shape row es ns b → added g c shape es ns b
    ≡ with_next_entity g (numbering_by shape.permanent c) c shape (replicate shape.attributes (pos 0))
added_is g c shape row es ns b d =
    let w = numbering_by shape.permanent c in
    let z : length (rows_in g.rows w).rows + 1 ≡ suc (length (rows_in g.rows w).rows) = omega arith in
    λ i. record {
      tables = g.tables;
      rows = (d.rows ∙ ap (λ r. with_table (with_row r (replicate shape.attributes (pos 0))) g.rows w) d.row_is) i;
      numbers = (d.numbers ∙ ap (λ n. g.numbers ++ replicate shape.joined n) z) i;
      owners = g.owners ++ heads_for c (suc (length (rows_in g.rows w).rows)) 0 shape.owned;
      members = g.members ++ seats_for c (suc (length (rows_in g.rows w).rows)) 0 shape.joined;
      board = d.board i;
    }

pub added_store : (g : StoreParts) (v : StoreValue) (c : ℕ) (shape : ClassShape) (row : Row) (es : EntityTable)
    (ns : List ℕ)
    (b : Board) → At g v c shape → HasRoom c v → Adds g c shape row es ns b → IsStore (added g c shape es ns b)
added_store g v c shape row es ns b k room d =
    let w = numbering_by shape.permanent c in
    let zs = replicate shape.attributes (pos 0) in
    subst IsStore (sym (added_is g c shape row es ns b d))
    (grown_store g w c shape zs k.store (grows g v c shape k room) (subst IsSound d.board d.sound))

pub added_makes : (g : StoreParts) (v : StoreValue) (c : ℕ) (shape : ClassShape) (row : Row) (es : EntityTable)
    (ns : List ℕ)
    (b : Board) → At g v c shape → HasRoom c v → Adds g c shape row es ns b
    → Makes c v (value_of (added g c shape es ns b))
added_makes g v c shape row es ns b k room d =
    let w = numbering_by shape.permanent c in
    let zs = replicate shape.attributes (pos 0) in
    let gr = grows g v c shape k room in
    let s = grown_store g w c shape zs k.store gr (subst IsSound d.board d.sound) in
    let makes : Makes c (value_of g) (value_of (with_next_entity g w c shape zs)) = record {
      is = grown_value g w c shape k.store gr;
      fits = new_fits g w c shape zs k.store s gr;
      back = less_value g w c shape zs k.store gr;
    } in
    subst (λ (z : StoreValue). Makes c z (value_of (added g c shape es ns b))) k.is
    (subst (λ (z : StoreParts). Makes c (value_of g) (value_of z)) (sym (added_is g c shape row es ns b d)) makes)

-- nothing was made
pub kept_store : (g : StoreParts) (es : EntityTable) (ns : List ℕ) (b : Board) → IsStore g → es ≡ g.rows → ns
    ≡ g.numbers
    → b ≡ g.board → IsStore (record {
      tables = g.tables;
      rows = es;
      numbers = ns;
      owners = g.owners;
      members = g.members;
      board = b;
    })
kept_store g es ns b s e f h = subst IsStore
    (λ i. record {
      tables = g.tables;
      rows = sym e i;
      numbers = sym f i;
      owners = g.owners;
      members = g.members;
      board = sym h i;
    }) s

pub kept_value : (g : StoreParts) (v : StoreValue) (es : EntityTable) (ns : List ℕ) (b : Board) → value_of g ≡ v
    → IsStore g
    → es ≡ g.rows → ns ≡ g.numbers → b ≡ g.board
    → value_of (record {
      tables = g.tables;
      rows = es;
      numbers = ns;
      owners = g.owners;
      members = g.members;
      board = b;
    }) ≡ v
kept_value g v es ns b w s e f h = (λ i. value_of
    (record { tables = g.tables; rows = e i; numbers = f i; owners = g.owners; members = g.members; board = h i })) ∙ w

pub added_pair : (g : StoreParts) (v : StoreValue) (c : ℕ) (shape : ClassShape) (row : Row) (es : EntityTable)
    (ns : List ℕ)
    (b : Board) → At g v c shape → HasRoom c v → Adds g c shape row es ns b
    → (fs : List Bool) → AreInOrder (added g c shape es ns b) fs
    → (ws : List HeadEntry) × (ms : List SeatEntry)
    × IsStore (record { tables = g.tables; rows = es; numbers = ns; owners = ws; members = ms; board = b })
    × AreInOrder (record { tables = g.tables; rows = es; numbers = ns; owners = ws; members = ms; board = b }) fs
added_pair g v c shape row es ns b k room d fs o =
    ((added g c shape es ns b).owners, (added g c shape es ns b).members, added_store g v c shape row es ns b k room d, o)

pub kept_pair : (g : StoreParts) (es : EntityTable) (ns : List ℕ) (b : Board) → IsStore g → es ≡ g.rows → ns ≡ g.numbers
    → b ≡ g.board
    → (fs : List Bool)
    → AreInOrder (record { tables = g.tables; rows = es; numbers = ns; owners = g.owners; members = g.members; board = b })
    fs → (ws : List HeadEntry) × (ms : List SeatEntry)
    × IsStore (record { tables = g.tables; rows = es; numbers = ns; owners = ws; members = ms; board = b })
    × AreInOrder (record { tables = g.tables; rows = es; numbers = ns; owners = ws; members = ms; board = b }) fs
kept_pair g es ns b s e f h fs o = (g.owners, g.members, kept_store g es ns b s e f h, o)

-- ---- how many were made

pub length_zipped : {A : Type 0} (f : Row → Option (List ℤ) → A) (rs : List Row) (vs : List (Option (List ℤ)))
    → length rs ≡ length vs → length (zip_rows f rs vs) ≡ length rs
length_zipped f [] vs e = refl
length_zipped f (r ∷ rs) [] e = absurd (omega (arith, e))
length_zipped f (r ∷ rs) (v ∷ vs) e = ap suc (length_zipped f rs vs (omega (arith, e)))

pub count_given : (g : StoreParts) (v : StoreValue) (c n : ℕ) (shape : ClassShape) → At g v c shape
    → n ≡ length (rows_in g.rows (numbering_by shape.permanent c)).rows → (class_of v.tables c).permanent ≡ false
    → n ≡ length v.state.references
count_given g v c n shape k e p =
    let no : shape.permanent ≡ false = ap (λ (z : ClassShape). z.permanent) (sym k.shaped)
    ∙ ap (λ (z : StoreValue). (class_of z.tables c).permanent) k.is ∙ p in
    e ∙ ap (λ b. length (rows_in g.rows (numbering_by b c)).rows) no
    ∙ sym (length_zipped (reference_with g.tables.classes (numbers_under g.board g.numbers)) g.rows.references.rows
    g.rows.references.values (k.store.rows None))
    ∙ ap (λ (z : StoreValue). length z.state.references) k.is

pub count_all : (g : StoreParts) (v : StoreValue) (c n : ℕ) (shape : ClassShape) → At g v c shape
    → n ≡ length (rows_in g.rows (numbering_by shape.permanent c)).rows → (class_of v.tables c).permanent ≡ true
    → n ≡ length (made_of v.state c)
count_all g v c n shape k e p =
    let yes : shape.permanent ≡ true = ap (λ (z : ClassShape). z.permanent) (sym k.shaped)
    ∙ ap (λ (z : StoreValue). (class_of z.tables c).permanent) k.is ∙ p in
    e ∙ ap (λ b. length (rows_in g.rows (numbering_by b c)).rows) yes
    ∙ sym (length_zipped (made_with g.tables.classes (numbers_under g.board g.numbers)) (rows_in g.rows (Some c)).rows
    (rows_in g.rows (Some c)).values (k.store.rows (Some c)))
    ∙ ap (length {A = Entity}) (sym (made_is g c)) ∙ ap (λ (z : StoreValue). length (made_of z.state c)) k.is
