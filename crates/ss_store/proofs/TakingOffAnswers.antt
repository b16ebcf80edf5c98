-- The results of the calls that take the last entity off.
use Rattle.std.proofs.lemmas.Bool.Decides.{nat_tests}
use Rattle.std.proofs.Common.{◌≡◌, inl, inr, ℕ, ℤ, zero, suc, ◌+◌, ◌-◌, ◌<◌, ◌≤◌, ◌==◌, ◌||◌, ◌&&◌, List, []}
use Rattle.std.proofs.Common.{◌∷◌, length, map, take, refl, ap, sym, subst, ◌∙◌, arith, slice_get, Option, Some, None}
use Rattle.std.proofs.Common.{Bool, true, false, nat_lt}
use Rattle.std.specs.Prelude.{is_some}
use Rattle.std.specs.List.{list_any}
use Rattle.ss_links.specs.Board.{Board, IsSound, list_at, head_of}
use Rattle.ss_links.proofs.BoardLaws.{head_of-found}
use Rattle.ss_store.specs.declared.rows.Row.{Row}
use Rattle.ss_store.specs.declared.shape.ClassShape.{ClassShape}
use Rattle.ss_store.specs.declared.shape.SetShape.{SetShape}
use Rattle.ss_store.specs.Tables.{class_of}
use Rattle.ss_store.specs.Rows.{EntityTable, rows_in, row_of}
use Rattle.ss_store.specs.Store.{Store, is_filed, is_member, is_filled, owns_members}
use Rattle.ss_store.specs.Invariant.{IsStore}
use Rattle.ss_store.specs.Parts.{StoreParts, HeadEntry, SeatEntry, number_at, numbers_under}
use Rattle.ss_store.specs.Value.{StoreValue}
use Rattle.ss_store.specs.Parts.{owned_from, layout_of, state_of, value_of}
use Rattle.ss_store.specs.Making.{numbering_by, numbering, without_last_row, with_table}
use Rattle.ss_store.specs.Making.{without_last_entity, rows_of_numbering, one_less, CanShrink}
use Rattle.ss_store.specs.Making.{FitsLast, TakesOff}
use Rattle.ss_store.proofs.Core.{some_eq, Found, found, seat_entry}
use Rattle.ss_store.proofs.Agree.{get_below, entity_some, entity_is, is_filed_is}
use Rattle.ss_store.proofs.OneMoreEntity.{list_past}
use Rattle.ss_store.proofs.OneMoreInState.{kept_rows_are, less_value}
use Rattle.ss_store.proofs.LastTakenOff.{Last, cut_heads, cut_grown, cut_grows, cut_store}
use Rattle.ss_store.proofs.MakingAnswers.{At, table_there, which_numbering}

-- ---- the last entity, as it lies on the board

pub row_some : (o : Option Row) → is_some o ≡ true → (r : Row) × (o ≡ Some r)
row_some None e = cc
row_some (Some r) e = (r, refl)

-- an entity of class c is in the numbering of class c
pub its_table : (g : StoreParts) (v : StoreValue) (c k : ℕ) (shape : ClassShape) (r : Row) → At g v c shape
    → (l : Found g.rows c k r) → l.table ≡ numbering_by shape.permanent c
its_table g v c k shape r a l = elim l.which [
  | inl e ↦
      let yes : shape.permanent ≡ true = ap (λ (z : ClassShape). z.permanent) (sym a.shaped)
      ∙ (a.store.made c l.index r (ap (λ z. slice_get (rows_in g.rows z).rows l.index) (sym e) ∙ l.row)).1 in
      e ∙ ap (λ b. numbering_by b c) (sym yes)
  | inr e ↦
      let no : shape.permanent ≡ false = ap (λ (z : ClassShape). z.permanent) (sym a.shaped)
      ∙ ap (λ z. (class_of g.tables z).permanent) (sym l.class)
      ∙ a.store.not_permanent l.index r (ap (λ z. slice_get (rows_in g.rows z).rows l.index) (sym e) ∙ l.row) in
      e ∙ ap (λ b. numbering_by b c) (sym no)
]

pub unfilled : (at : ℕ → List ℕ) (f n : ℕ) → list_any is_filled (owned_from at f n) ≡ false → (k : ℕ) → k < n
    → at (f + k) ≡ []
unfilled at f zero e k lt = absurd (omega (arith, lt))
unfilled at f (suc n) e k lt =
    (elim (at f) as (λ l. at f ≡ l → (is_filled l || list_any is_filled (owned_from at (suc f) n)) ≡ false
    → at (f + k) ≡ []) [
      | [] ↦ λ w h. (elim k as (λ z. z < suc n → at (f + z) ≡ []) [
        | zero ↦ λ m. (let y : f + 0 ≡ f = omega arith in ap at y ∙ w)
        | suc z ↦ λ m. (let y : f + suc z ≡ suc f + z = omega arith in ap at y
            ∙ unfilled at (suc f) n h z (omega (arith, m)))
      ]) lt
      | t ∷ ts ↦ λ w h. cc
    ]) refl e

pub map_empty : (f : ℕ → ℕ) (l : List ℕ) → map f l ≡ [] → l ≡ []
map_empty f [] e = refl
map_empty f (x ∷ l) e = cc

-- the entity, the count of those before it, and its values
pub record Newest (g : StoreParts) (w : Option ℕ) (c : ℕ) (shape : ClassShape) (h t : ℕ) : Type 0 where
  pub before : ℕ
  pub values : List ℤ
  pub last : Last g w c shape before h t values
  pub free : is_member g.tables.sets (state_of g) c (suc before) ≡ false

newest_at : (g : StoreParts) (c : ℕ) (shape : ClassShape) (n h t : ℕ) → At g (value_of g) c shape
    → FitsLast c (suc n) h t (value_of g) → Newest g (numbering_by shape.permanent c) c shape h t
newest_at g c shape n h t a f =
    let w = numbering_by shape.permanent c in
    let same : numbering (class_of g.tables c) c ≡ w = ap (λ (z : ClassShape). numbering z c) a.shaped in
    let rows : rows_of_numbering (layout_of g) (numbering (class_of g.tables c) c) ≡ (rows_in g.rows w).rows =
    ap (rows_of_numbering (layout_of g)) same ∙ kept_rows_are g w in
    let there = row_some (row_of g.rows c (suc n)) (sym (entity_is g c (suc n) a.store) ∙ f.there) in
    let l = found g.rows c (suc n) there.0 there.1 in
    let table = its_table g (value_of g) c (suc n) shape there.0 a l in
    let index : l.index ≡ n = (let e = l.number in omega (arith, e)) in
    let row : slice_get (rows_in g.rows w).rows n ≡ Some (record { class = c; head = h; seat = t }) =
    (let at : n ≡ suc n - 1 = omega arith in λ i. slice_get (sym rows i) (at i)) ∙ f.row in
    let is : there.0 ≡ record { class = c; head = h; seat = t } =
    some_eq (sym l.row ∙ (λ i. slice_get (rows_in g.rows (table i)).rows (index i)) ∙ row) in
    let owned = ap owns_members (sym (entity_some g c (suc n) there.0 a.store l)) ∙ f.empty in
    record {
      before = n;
      values = l.value;
      last = record {
        class = a.below;
        is = a.shaped;
        table = table_there g (value_of g) c shape a;
        which = which_numbering c shape.permanent;
        last = ap (length {A = Row}) (sym rows) ∙ f.last;
        row = row;
        value = (λ i. slice_get (rows_in g.rows (sym table i)).values (sym index i)) ∙ l.there;
        heads = ap (λ (z : ClassShape). h + z.owned) (sym a.shaped) ∙ f.last_heads;
        seats = ap (λ (z : ClassShape). t + z.joined) (sym a.shaped) ∙ f.last_seats;
        empty = λ k lt. map_empty (number_at g.numbers) (list_at g.board.lists (h + k))
            (unfilled (numbers_under g.board g.numbers) h (class_of g.tables c).owned
            ((λ i. list_any is_filled (owned_from (numbers_under g.board g.numbers) (sym is i).head
            (class_of g.tables (sym is i).class).owned))
            ∙ owned) k (subst (λ (z : ClassShape). k < z.owned) (sym a.shaped) lt));
      };
      free = f.free;
    }

pub newest : (g : StoreParts) (v : StoreValue) (c : ℕ) (shape : ClassShape) (k h t : ℕ) → At g v c shape
    → FitsLast c k h t v
    → Newest g (numbering_by shape.permanent c) c shape h t
newest g v c shape zero h t a f = absurd (let e = f.there in cc)
newest g v c shape (suc n) h t a f = newest_at g c shape n h t
    (record { is = refl; store = a.store; below = a.below; shaped = a.shaped })
    (subst (FitsLast c (suc n) h t) (sym a.is) f)

-- ---- its heads and seats can be taken off

or_false : (a b : Bool) → (a || b) ≡ false → b ≡ false
or_false true b e = cc
or_false false b e = e

first_false : (a b c : Bool) → a ≡ true → ((a && b) || c) ≡ false → b ≡ false
first_false true true c e h = cc
first_false true false c e h = refl
first_false false b c e h = cc

pub not_member : (sets : List SetShape) (st : Store) (c k i : ℕ) (p : SetShape) → slice_get sets i ≡ Some p
    → p.member ≡ c → is_member sets st c k ≡ false → is_filed p st k ≡ false
not_member [] st c k i p e f h = cc
not_member (q ∷ sets) st c k zero p e f h =
    let is : q ≡ p = some_eq e in
    let same : (q.member == c) ≡ true = subst (λ z. (q.member == z) ≡ true) (ap (λ (z : SetShape). z.member) is
    ∙ f) (grind (arith, nat_tests)) in
    subst (λ (z : SetShape). is_filed z st k ≡ false) is
    (first_false (q.member == c) (is_filed q st k) (is_member sets st c k) same h)
not_member (q ∷ sets) st c k (suc i) p e f h =
    not_member sets st c k i p e f (or_false (q.member == c && is_filed q st k) (is_member sets st c k) h)

-- a seat from these on is in no list
seats_free : (g : StoreParts) (w : Option ℕ) (c : ℕ) (shape : ClassShape) (n h t : ℕ) (v : List ℤ) → IsStore g
    → Last g w c shape n h t v → is_member g.tables.sets (state_of g) c (suc n) ≡ false → (u : ℕ) → t ≤ u
    → head_of g.board.lists u ≡ None
seats_free g w c shape n h t v s d free u le =
    (elim (head_of g.board.lists u) as (λ o. head_of g.board.lists u ≡ o → o ≡ None) [
      | None ↦ λ e. refl
      | Some i ↦ λ e. absurd (
          let f = (head_of-found g.board.lists u i e).1 in
          let j = s.are_members i u f in
          let entry = seat_entry g j.set j.member u s j.is_set j.seat in
          let below = get_below g.members u _ entry in
          let ms = s.seats in let ends = d.seats in
          let at : t + (u - t) ≡ u = omega (arith, le) in
          let lt : u - t < shape.joined = omega (arith, le, below, ms, ends) in
          let mine = (s.each w n _ d.row).seats (u - t) (subst (λ (z : ClassShape). u - t < z.joined) (sym d.is) lt) in
          let both = some_eq (sym entry ∙ ap (slice_get g.members) (sym at) ∙ mine) in
          let filed : is_filed j.set (state_of g) (suc n) ≡ true =
          ap (is_filed j.set (state_of g)) (sym (ap (λ (z : SeatEntry). z.number) both))
          ∙ is_filed_is g j.set u j.member s j.is_set j.seat ∙ ap is_some e in
          let out = not_member g.tables.sets (state_of g) c (suc n) j.is_set.0 j.set j.is_set.1
          (ap (λ (z : SeatEntry). z.member) both) free in
          let bad : true ≡ false = sym filed ∙ out in cc)
    ]) refl

pub can_shrink : (g : StoreParts) (w : Option ℕ) (c : ℕ) (shape : ClassShape) (h t : ℕ) → IsStore g
    → Newest g w c shape h t
    → CanShrink g.board h t
can_shrink g w c shape h t s d = record {
  heads = let e = d.last.heads in omega (arith, e);
  empty = λ j le. (elim (nat_lt j (length g.board.lists)) as (λ b. nat_lt j (length g.board.lists) ≡ b
      → list_at g.board.lists j ≡ []) [
        | true ↦ λ e.
            let lt : j < length g.board.lists = grind (arith, nat_tests, e) in
            let ends = d.last.heads in
            let at : h + (j - h) ≡ j = omega (arith, le) in
            ap (list_at g.board.lists) (sym at) ∙ d.last.empty (j - h) (omega (arith, le, lt, ends))
        | false ↦ λ e. list_past g.board.lists j (grind (arith, nat_tests, e))
      ]) refl;
  seats = let e = d.last.seats in omega (arith, e);
  free = λ u le. seats_free g w c shape d.before h t d.values s d.last d.free u le;
}

-- ---- the call

pub any_row : (g : StoreParts) (w : Option ℕ) (c : ℕ) (shape : ClassShape) (h t : ℕ) → Newest g w c shape h t
    → 0 < length (rows_in g.rows w).rows
any_row g w c shape h t d = let e = d.last.last in omega (arith, e)

pub last_row : (g : StoreParts) (w : Option ℕ) (c : ℕ) (shape : ClassShape) (h t : ℕ) → Newest g w c shape h t
    → slice_get (rows_in g.rows w).rows (length (rows_in g.rows w).rows - 1)
    ≡ Some (record { class = c; head = h; seat = t })
last_row g w c shape h t d = let e = d.last.last in
    let at : length (rows_in g.rows w).rows - 1 ≡ d.before = omega (arith, e) in
    ap (slice_get (rows_in g.rows w).rows) at ∙ d.last.row

pub shrinks : (g : StoreParts) (w : Option ℕ) (c : ℕ) (shape : ClassShape) (h t : ℕ) → IsStore g
    → Newest g w c shape h t
    → (r : Row) → slice_get (rows_in g.rows w).rows (length (rows_in g.rows w).rows - 1) ≡ Some r
    → CanShrink g.board r.head r.seat
shrinks g w c shape h t s d r e = subst (λ (z : Row). CanShrink g.board z.head z.seat)
    (some_eq (sym (last_row g w c shape h t d) ∙ e)) (can_shrink g w c shape h t s d)

-- the parts after the call
pub record Takes (g : StoreParts) (w : Option ℕ) (h t : ℕ) (es : EntityTable) (ns : List ℕ) (b : Board) : Type 0 where
  pub rows : es ≡ with_table without_last_row g.rows w
  pub numbers : ns ≡ take t g.numbers
  pub board : b ≡ record { lists = take h g.board.lists; seats = t }
  pub sound : IsSound b

abbrev pub taken : StoreParts → ℕ → ℕ → EntityTable → List ℕ → Board → StoreParts
taken g h t es ns b = record {
  tables = g.tables;
  rows = es;
  numbers = ns;
  owners = take h g.owners;
  members = take t g.members;
  board = b;
}

taken_is : (g : StoreParts) (w : Option ℕ) (h t : ℕ) (es : EntityTable) (ns : List ℕ) (b : Board)
    → Takes g w h t es ns b
    → taken g h t es ns b ≡ without_last_entity g w h t
taken_is g w h t es ns b d = λ i. record {
  tables = g.tables;
  rows = d.rows i;
  numbers = d.numbers i;
  owners = take h g.owners;
  members = take t g.members;
  board = d.board i;
}

pub taken_store : (g : StoreParts) (w : Option ℕ) (c : ℕ) (shape : ClassShape) (h t : ℕ) (es : EntityTable)
    (ns : List ℕ)
    (b : Board) → IsStore g → Newest g w c shape h t → Takes g w h t es ns b → IsStore (taken g h t es ns b)
taken_store g w c shape h t es ns b s n d =
    subst IsStore (sym (taken_is g w h t es ns b d))
    (cut_store g w c shape n.before h t n.values s n.last (subst IsSound d.board d.sound))

pub taken_value : (g : StoreParts) (v : StoreValue) (w : Option ℕ) (c : ℕ) (shape : ClassShape) (h t : ℕ)
    (es : EntityTable)
    (ns : List ℕ) (b : Board) → value_of g ≡ v → IsStore g → Newest g w c shape h t → Takes g w h t es ns b
    → value_of (taken g h t es ns b) ≡ one_less c h t v
taken_value g v w c shape h t es ns b is s n d =
    let rest = without_last_entity g w h t in
    let grows = cut_grows g w c shape n.before h t n.values s n.last in
    let store = cut_store g w c shape n.before h t n.values s n.last (subst IsSound d.board d.sound) in
    let whole = cut_grown g w c shape n.before h t n.values s n.last in
    ap value_of (taken_is g w h t es ns b d) ∙ sym (less_value rest w c shape n.values store grows)
    ∙ (λ i. one_less c (cut_heads g w c shape n.before h t n.values n.last i) t (value_of (sym whole i)))
    ∙ ap (one_less c h t) is

-- ---- several

pub less_more : (c n m : ℕ) (v rest : StoreValue) → n ≡ suc m → TakesOff c n v rest
    → (k h t : ℕ) × FitsLast c k h t v × TakesOff c m (one_less c h t v) rest
less_more c zero m v rest e l = absurd (omega (arith, e))
less_more c (suc n) m v rest e l = (
  l.0,
  l.1,
  l.2,
  l.3,
  subst (λ z. TakesOff c z (one_less c l.1 l.2 v) rest) (let d = e in omega (arith, d)) l.4,
)

pub taken_pair : (g : StoreParts) (w : Option ℕ) (c : ℕ) (shape : ClassShape) (h t : ℕ) (es : EntityTable) (ns : List ℕ)
    (b : Board) → IsStore g → Newest g w c shape h t → Takes g w h t es ns b
    → (ws : List HeadEntry) × (ms : List SeatEntry)
    × IsStore (record { tables = g.tables; rows = es; numbers = ns; owners = ws; members = ms; board = b })
taken_pair g w c shape h t es ns b s n d =
    (take h g.owners, take t g.members, taken_store g w c shape h t es ns b s n d)

-- the ensures of the call are about the last row
pub takes : (g : StoreParts) (w : Option ℕ) (c : ℕ) (shape : ClassShape) (h t : ℕ) (es : EntityTable) (ns : List ℕ)
    (b : Board) → Newest g w c shape h t → es ≡ with_table without_last_row g.rows w
    → ((r : Row) → slice_get (rows_in g.rows w).rows (length (rows_in g.rows w).rows - 1) ≡ Some r
    → ns ≡ take r.seat g.numbers)
    → ((r : Row) → slice_get (rows_in g.rows w).rows (length (rows_in g.rows w).rows - 1) ≡ Some r
    → b ≡ record { lists = take r.head g.board.lists; seats = r.seat })
    → IsSound b → Takes g w h t es ns b
takes g w c shape h t es ns b n e f k s = record {
  rows = e;
  numbers = f _ (last_row g w c shape h t n);
  board = k _ (last_row g w c shape h t n);
  sound = s;
}

pub less_first : (c n : ℕ) (v rest : StoreValue) → TakesOff c n v rest → TakesOff c (n - 0) v rest
less_first c n v rest l = let e : n - 0 ≡ n = omega arith in subst (λ z. TakesOff c z v rest) (sym e) l

pub less_next : (c n i : ℕ) (v rest : StoreValue) → i < n → TakesOff c (n - i) v rest
    → (k h t : ℕ) × FitsLast c k h t v × TakesOff c (n - (i + 1)) (one_less c h t v) rest
less_next c n i v rest lt l = less_more c (n - i) (n - (i + 1)) v rest (omega (arith, lt)) l

pub less_class : (c n i : ℕ) (v rest : StoreValue) → i < n → TakesOff c (n - i) v rest → c < length v.tables.classes
less_class c n i v rest lt l = (less_next c n i v rest lt l).3.is_class

pub less_last : (c n i : ℕ) (v rest : StoreValue) → n ≤ i → TakesOff c (n - i) v rest → v ≡ rest
less_last c n i v rest le l = let e : n - i ≡ 0 = omega (arith, le) in subst (λ z. TakesOff c z v rest) e l
