-- Whose list and whose seat it is.
use Rattle.std.proofs.Common.{◌≡◌, ◌⊎◌, inl, inr, ℕ, ℤ, zero, suc, ◌+◌, ◌<◌, ◌==◌, List, [], ◌∷◌, map, refl, ap, sym}
use Rattle.std.proofs.Common.{subst, ◌∙◌, slice_get, Option, Some, None, true, false, cond, eqb→eq, T}
use Rattle.std.specs.Option.{option_map, option_or}
use Rattle.ss_links.specs.Board.{list_at}
use Rattle.ss_links.specs.Seats.{has}
use Rattle.ss_program.specs.declared.kinds.Owner.{Owner}
use Rattle.ss_program.specs.declared.kinds.Owner.TheVariants.{System, OwnedBy}
use Rattle.ss_store.specs.declared.shape.SetShape.{SetShape}
use Rattle.ss_store.specs.declared.rows.Row.{Row}
use Rattle.ss_store.specs.Tables.{class_of}
use Rattle.ss_store.specs.Rows.{RowTable, EntityTable, rows_in, row_if, row_in, row_of}
use Rattle.ss_store.specs.Invariant.{IsStore}
use Rattle.ss_store.specs.Parts.{StoreParts, HeadEntry, SeatEntry, head_at, head_by, seat_at}
use Rattle.ss_store.specs.Tables.{IsSet, owned_by}
use Rattle.ss_store.specs.Parts.{owner_number, number_at}

pub some_eq : {A : Type 0} {a b : A} → Some a ≡ Some b → a ≡ b
some_eq e = cc

-- a row of a numbering, of an entity of this class that has not ended
pub record Living (t : RowTable) (c i : ℕ) (r : Row) : Type 0 where
  pub row : slice_get t.rows i ≡ Some r
  pub value : List ℤ
  pub there : slice_get t.values i ≡ Some (Some value)
  pub class : r.class ≡ c

living_if : (t : RowTable) (c i : ℕ) (r : Row) (a : Option Row) (b : Option (Option (List ℤ))) → slice_get t.rows i ≡ a
    → slice_get t.values i ≡ b → row_if c a b ≡ Some r → Living t c i r
living_if t c i r None b ea eb e = cc
living_if t c i r (Some q) None ea eb e = cc
living_if t c i r (Some q) (Some None) ea eb e = cc
living_if t c i r (Some q) (Some (Some v)) ea eb e =
    (elim (q.class == c) as (λ k. q.class == c ≡ k → cond k (Some q) None ≡ Some r → Living t c i r) [
      | true ↦ λ w f.
          let is : q ≡ r = some_eq f in
          record {
            row = ea ∙ ap Some is;
            value = v;
            there = eb;
            class = sym (ap (λ (z : Row). z.class) is)
                ∙ eqb→eq q.class c (subst T (sym w) tt);
          }
      | false ↦ λ w f. cc
    ]) refl e

pub living : (t : RowTable) (c i : ℕ) (r : Row) → row_in t c i ≡ Some r → Living t c i r
living t c i r e = living_if t c i r (slice_get t.rows i) (slice_get t.values i) refl refl e

-- the row of an entity is in one of the numberings
pub record Found (es : EntityTable) (c k : ℕ) (r : Row) : Type 0 where
  pub table : Option ℕ
  pub which : (table ≡ Some c) ⊎ (table ≡ None)
  pub index : ℕ
  pub number : k ≡ suc index
  pub row : slice_get (rows_in es table).rows index ≡ Some r
  pub value : List ℤ
  pub there : slice_get (rows_in es table).values index ≡ Some (Some value)
  pub class : r.class ≡ c
  pub later : table ≡ None → row_in (rows_in es (Some c)) c index ≡ None

found_in : (es : EntityTable) (c i : ℕ) (r : Row) (a : Option Row) → row_in (rows_in es (Some c)) c i ≡ a
    → option_or a (row_in es.references c i) ≡ Some r → Found es c (suc i) r
found_in es c i r None ea e =
    let l = living es.references c i r e in
    record {
      table = None;
      which = inr refl;
      index = i;
      number = refl;
      row = l.row;
      value = l.value;
      there = l.there;
      class = l.class;
      later = λ _. ea;
    }
found_in es c i r (Some q) ea e =
    let l = living (rows_in es (Some c)) c i r (ea ∙ e) in
    record {
      table = Some c;
      which = inl refl;
      index = i;
      number = refl;
      row = l.row;
      value = l.value;
      there = l.there;
      class = l.class;
      later = λ z. cc;
    }

pub found : (es : EntityTable) (c k : ℕ) (r : Row) → row_of es c k ≡ Some r → Found es c k r
found es c zero r e = cc
found es c (suc i) r e = found_in es c i r (row_in (rows_in es (Some c)) c i) refl e

pub map_some : (o : Option Row) (f : Row → ℕ) (h : ℕ) → option_map f o ≡ Some h → (r : Row) × (o ≡ Some r) × (f r ≡ h)
map_some None f h e = cc
map_some (Some r) f h e = (r, refl, some_eq e)

head_entry_by : (g : StoreParts) (w : Owner) (s : SetShape) (o h : ℕ) → IsStore g → s.list < owned_by w g.tables
    → head_by w g.rows s o ≡ Some h → slice_get g.owners h
    ≡ Some (record { owner = w; list = s.list; number = owner_number w o })
head_entry_by g System s o h k lt e = ap (slice_get g.owners) (sym (some_eq e)) ∙ k.system s.list lt
head_entry_by g (OwnedBy c) s o h k lt e =
    let p = map_some (row_of g.rows c o) (λ r. r.head + s.list) h e in
    let l = found g.rows c o p.0 p.1 in
    let q = (k.each l.table l.index p.0 l.row).heads s.list
    (subst (λ d. s.list < owned_by (OwnedBy d) g.tables) (sym l.class) lt) in
    ap (slice_get g.owners) (sym p.2) ∙ q ∙ λ i. Some
    (record { owner = OwnedBy (l.class i); list = s.list; number = sym l.number i })

-- a head is of one set and one owner
pub head_entry : (g : StoreParts) (s : SetShape) (o h : ℕ) → IsStore g → IsSet g.tables.sets s → head_at g.rows s o
    ≡ Some h
    → slice_get g.owners h ≡ Some (record { owner = s.owner; list = s.list; number = owner_number s.owner o })
head_entry g s o h k is e = head_entry_by g s.owner s o h k (k.tables.lists s is) e

-- a seat is of one set and one member
pub seat_entry : (g : StoreParts) (s : SetShape) (x t : ℕ) → IsStore g → IsSet g.tables.sets s → seat_at g.rows s x
    ≡ Some t
    → slice_get g.members t ≡ Some (record { member = s.member; slot = s.slot; number = x })
seat_entry g s x t k is e =
    let p = map_some (row_of g.rows s.member x) (λ r. r.seat + s.slot) t e in
    let l = found g.rows s.member x p.0 p.1 in
    let q = (k.each l.table l.index p.0 l.row).seats s.slot
    (subst (λ d. s.slot < (class_of g.tables d).joined) (sym l.class) (k.tables.slots s is)) in
    ap (slice_get g.members) (sym p.2) ∙ q ∙ λ i. Some
    (record { member = l.class i; slot = s.slot; number = sym l.number i })

number_map : (ms : List SeatEntry) (t : ℕ) (m : SeatEntry) → slice_get ms t ≡ Some m
    → number_at (map (λ (z : SeatEntry). z.number) ms) t ≡ m.number
number_map [] t m e = cc
number_map (y ∷ ms) zero m e = ap (λ (z : SeatEntry). z.number) (some_eq e)
number_map (y ∷ ms) (suc t) m e = number_map ms t m e

pub seat_number : (g : StoreParts) (s : SetShape) (x t : ℕ) → IsStore g → IsSet g.tables.sets s → seat_at g.rows s x
    ≡ Some t
    → number_at g.numbers t ≡ x
seat_number g s x t k is e = ap (λ ns. number_at ns t) k.numbers ∙ number_map g.members t _ (seat_entry g s x t k is e)

-- each member of the list of a set and an owner is a member of that set
pub record Member (g : StoreParts) (s : SetShape) (t : ℕ) : Type 0 where
  pub number : ℕ
  pub seat : seat_at g.rows s number ≡ Some t
  pub is : number_at g.numbers t ≡ number

pub member_of : (g : StoreParts) (s : SetShape) (o h t : ℕ) → IsStore g → IsSet g.tables.sets s → head_at g.rows s o
    ≡ Some h
    → has (list_at g.board.lists h) t ≡ true → Member g s t
member_of g s o h t k is e f =
    let j = k.are_members h t f in
    let both = some_eq (sym (head_entry g s o h k is e) ∙ head_entry g j.set j.owner h k j.is_set j.head) in
    let same = k.tables.one_list s j.set is j.is_set (ap (λ (z : HeadEntry). z.owner) both)
    (ap (λ (z : HeadEntry). z.list) both) in
    let there = subst (λ (z : SetShape). seat_at g.rows z j.member ≡ Some t) (sym same) j.seat in
    record { number = j.member; seat = there; is = seat_number g s j.member t k is there }

-- a member has one seat of a set
pub one_seat : (g : StoreParts) (s : SetShape) (o h t u x : ℕ) → IsStore g → IsSet g.tables.sets s
    → head_at g.rows s o ≡ Some h → seat_at g.rows s x ≡ Some t → has (list_at g.board.lists h) u ≡ true
    → number_at g.numbers u ≡ x → u ≡ t
one_seat g s o h t u x k is eh et f e =
    let m = member_of g s o h u k is eh f in
    some_eq (sym m.seat ∙ ap (seat_at g.rows s) (sym m.is ∙ e) ∙ et)

-- a seat that is in a list is in the list of an owner of its set
pub owner_of_seat : (g : StoreParts) (s : SetShape) (h t x : ℕ) → IsStore g → IsSet g.tables.sets s
    → seat_at g.rows s x ≡ Some t → has (list_at g.board.lists h) t ≡ true → (o : ℕ) × (head_at g.rows s o ≡ Some h)
owner_of_seat g s h t x k is e f =
    let j = k.are_members h t f in
    let both = some_eq (sym (seat_entry g s x t k is e) ∙ seat_entry g j.set j.member t k j.is_set j.seat) in
    let same = k.tables.one_slot s j.set is j.is_set (ap (λ (z : SeatEntry). z.member) both)
    (ap (λ (z : SeatEntry). z.slot) both) in
    (j.owner, subst (λ (z : SetShape). head_at g.rows z j.owner ≡ Some h) (sym same) j.head)

-- a class of references has no entity that was made
pub made_none : (g : StoreParts) (i j : ℕ) (r : Row) → IsStore g → slice_get g.rows.references.rows i ≡ Some r
    → slice_get (rows_in g.rows (Some r.class)).rows j ≡ None
made_none g i j r k e =
    (elim (slice_get (rows_in g.rows (Some r.class)).rows j) as (λ o. slice_get (rows_in g.rows (Some r.class)).rows j
    ≡ o → o ≡ None) [
      | None ↦ λ f. refl
      | Some q ↦ λ f. absurd (let a = k.not_permanent i r e in let b = (k.made r.class j q f).1 in cc)
    ]) refl
