-- A reference ended, and brought back: the parts are a store still, and the state has another
-- reference.
use Rattle.std.proofs.lemmas.Bool.Decides.{nat_tests}
use Rattle.std.proofs.Common.{◌≡◌, ◌≢◌, inl, inr, ℕ, ℤ, zero, suc, ◌+◌, ◌<◌, ◌==◌, ◌||◌, ◌&&◌}
use Rattle.std.proofs.Common.{List, [], ◌∷◌, length, map, replicate, refl, ap, sym, subst, ◌∙◌, arith, slice_get}
use Rattle.std.proofs.Common.{Option, Some, None, Bool, true, false, set, length-set, eqb→eq, T}
use Rattle.std.specs.Prelude.{is_some}
use Rattle.std.specs.Option.{option_map}
use Rattle.std.specs.List.{list_any}
use Rattle.ss_links.specs.Board.{Board, list_at, head_of}
use Rattle.ss_links.specs.Seats.{has, first_of}
use Rattle.ss_links.proofs.BoardLaws.{head_of-list_at}
use Rattle.ss_program.specs.declared.kinds.Owner.{Owner}
use Rattle.ss_program.specs.declared.kinds.Owner.TheVariants.{System, OwnedBy}
use Rattle.ss_store.specs.declared.rows.Row.{Row}
use Rattle.ss_store.specs.declared.shape.SetShape.{SetShape}
use Rattle.ss_store.specs.Tables.{class_of}
use Rattle.ss_store.specs.Rows.{rows_in, row_of}
use Rattle.ss_store.specs.Store.{entity, is_filed, is_member, is_filled, owns_members}
use Rattle.ss_store.specs.Store.{AreInRange, entity_back}
use Rattle.ss_store.specs.Invariant.{IsStore, IsRow, Joins}
use Rattle.ss_store.specs.Parts.{StoreParts, HeadEntry, owner_number, head_by}
use Rattle.ss_store.specs.Tables.{IsSet, owned_by}
use Rattle.ss_store.specs.Parts.{seat_at, number_at, numbers_under, owned_from, entity_with, reference_with}
use Rattle.ss_store.specs.Parts.{zip_rows, state_of}
use Rattle.ss_store.specs.Making.{with_table}
use Rattle.ss_store.specs.Writing.{with_values}
use Rattle.ss_store.proofs.Core.{some_eq, Found, found, map_some, head_entry, made_none}
use Rattle.ss_store.proofs.OneListChanges.{is_or_not}
use Rattle.ss_store.proofs.Agree.{entity_some, is_filed_is}
use Rattle.ss_store.proofs.OneMoreEntity.{refound}
use Rattle.ss_store.proofs.TakingOffAnswers.{not_member}
use Rattle.ss_store.proofs.ValueWrites.{get_other}

-- the parts with other values of a reference, or none
abbrev pub put : StoreParts → ℕ → Option (List ℤ) → StoreParts
put g i u = record g { rows = with_table (with_values i u) g.rows None }

-- ---- entities found

value_still : (g : StoreParts) (i j : ℕ) (u y : Option (List ℤ)) (w : Option ℕ)
    → slice_get (rows_in g.rows w).values j ≡ Some y
    → (w ≡ None → j ≢ i) → slice_get (rows_in (put g i u).rows w).values j ≡ Some y
value_still g i j u y None e far = get_other g.rows.references.values i j u (far refl) ∙ e
value_still g i j u y (Some c) e far = e

rows_still : (g : StoreParts) (i : ℕ) (u : Option (List ℤ)) (w : Option ℕ)
    → (rows_in (put g i u).rows w).rows ≡ (rows_in g.rows w).rows
rows_still g i u None = refl
rows_still g i u (Some c) = refl

-- whoever is not the one that is put is found as before
found_still : (g : StoreParts) (i d x : ℕ) (u : Option (List ℤ)) (q : Row) → IsStore g → (l : Found g.rows d x q)
    → (l.table ≡ None → l.index ≢ i) → row_of (put g i u).rows d x ≡ Some q
found_still g i d x u q s l far =
    let row : slice_get (rows_in (put g i u).rows l.table).rows l.index ≡ Some q =
    ap (λ z. slice_get z l.index) (rows_still g i u l.table) ∙ l.row in
    let later : l.table ≡ None → slice_get (rows_in (put g i u).rows (Some d)).rows l.index ≡ None = λ is.
    (let here : slice_get g.rows.references.rows l.index ≡ Some q =
    ap (λ z. slice_get (rows_in g.rows z).rows l.index) (sym is) ∙ l.row in
    ap (λ z. slice_get (rows_in g.rows (Some z)).rows l.index) (sym l.class)
    ∙ made_none g l.index l.index q s here) in
    subst (λ z. row_of (put g i u).rows d z ≡ Some q) (sym l.number)
    (refound (put g i u).rows d l.index q l.value l.table l.which row
    (value_still g i l.index u (Some l.value) l.table l.there far) l.class later)

head_still : (g : StoreParts) (i : ℕ) (u : Option (List ℤ)) → IsStore g → (o : Owner) (p : SetShape) (x h : ℕ)
    → head_by o g.rows p x ≡ Some h
    → ((d : ℕ) (q : Row) (l : Found g.rows d x q) → o ≡ OwnedBy d → q.head + p.list ≡ h → l.table ≡ None → l.index ≢ i)
    → head_by o (put g i u).rows p x ≡ Some h
head_still g i u s System p x h e far = e
head_still g i u s (OwnedBy d) p x h e far =
    let q = map_some (row_of g.rows d x) (λ r. r.head + p.list) h e in
    let l = found g.rows d x q.0 q.1 in
    ap (option_map (λ (r : Row). r.head + p.list)) (found_still g i d x u q.0 s l (far d q.0 l refl q.2)) ∙ ap Some q.2

seat_still : (g : StoreParts) (i : ℕ) (u : Option (List ℤ)) → IsStore g → (p : SetShape) (x t : ℕ)
    → seat_at g.rows p x ≡ Some t
    → ((q : Row) (l : Found g.rows p.member x q) → l.table ≡ None → l.index ≢ i) → seat_at (put g i u).rows p x ≡ Some t
seat_still g i u s p x t e far =
    let q = map_some (row_of g.rows p.member x) (λ r. r.seat + p.slot) t e in
    let l = found g.rows p.member x q.0 q.1 in
    ap (option_map (λ (r : Row). r.seat + p.slot)) (found_still g i p.member x u q.0 s l (far q.0 l)) ∙ ap Some q.2

-- ---- the store

set_read : {A : Type 0} (xs : List A) (i : ℕ) (y z : A) → slice_get (set xs i y) i ≡ Some z → y ≡ z
set_read [] i y z e = cc
set_read (x ∷ xs) zero y z e = some_eq e
set_read (x ∷ xs) (suc i) y z e = set_read xs i y z e

-- the values that are put are as many as the class has attributes
abbrev pub AreValues : StoreParts → Row → Option (List ℤ) → Type 0
AreValues g r u = (v : List ℤ) → u ≡ Some v → (length v ≡ (class_of g.tables r.class).attributes) × AreInRange v

put_valued : (g : StoreParts) (i : ℕ) (r : Row) (u : Option (List ℤ)) → IsStore g
    → slice_get g.rows.references.rows i ≡ Some r
    → AreValues g r u → (w : Option ℕ) (j : ℕ) (q : Row) (v : List ℤ)
    → slice_get (rows_in (put g i u).rows w).rows j ≡ Some q
    → slice_get (rows_in (put g i u).rows w).values j ≡ Some (Some v)
    → length v ≡ (class_of g.tables q.class).attributes
put_valued g i r u s er long None j q v eq ev = elim (is_or_not j i) [
  | inl is ↦
      let value : u ≡ Some v = set_read g.rows.references.values i u (Some v)
      (ap (slice_get (set g.rows.references.values i u)) (sym is) ∙ ev) in
      let row : r ≡ q = some_eq (sym er ∙ ap (slice_get g.rows.references.rows) (sym is) ∙ eq) in
      (long v value).0 ∙ ap (λ (z : Row). (class_of g.tables z.class).attributes) row
  | inr far ↦ s.value_counts None j q v eq (sym (get_other g.rows.references.values i j u far) ∙ ev)
]
put_valued g i r u s er long (Some c) j q v eq ev = s.value_counts (Some c) j q v eq ev

put_ranged : (g : StoreParts) (i : ℕ) (r : Row) (u : Option (List ℤ)) → IsStore g → AreValues g r u
    → (w : Option ℕ) (j : ℕ)
    (v : List ℤ) → slice_get (rows_in (put g i u).rows w).values j ≡ Some (Some v) → AreInRange v
put_ranged g i r u s are None j v e = elim (is_or_not j i) [
  | inl is ↦ (are v (set_read g.rows.references.values i u (Some v)
      (ap (slice_get (set g.rows.references.values i u)) (sym is) ∙ e))).1
  | inr far ↦ s.values_in_range None j v (sym (get_other g.rows.references.values i j u far) ∙ e)
]
put_ranged g i r u s are (Some c) j v e = s.values_in_range (Some c) j v e

put_each : (g : StoreParts) (i : ℕ) (u : Option (List ℤ)) → IsStore g → (w : Option ℕ) (j : ℕ) (q : Row)
    → slice_get (rows_in (put g i u).rows w).rows j ≡ Some q → IsRow (put g i u) j q
put_each g i u s None j q e = let d = s.each None j q e in record { class = d.class; heads = d.heads; seats = d.seats }
put_each g i u s (Some c) j q e =
    let d = s.each (Some c) j q e in record { class = d.class; heads = d.heads; seats = d.seats }

put_rows : (g : StoreParts) (i : ℕ) (u : Option (List ℤ)) → IsStore g → (w : Option ℕ)
    → length (rows_in (put g i u).rows w).rows ≡ length (rows_in (put g i u).rows w).values
put_rows g i u s None = s.rows None ∙ sym (length-set g.rows.references.values i u)
put_rows g i u s (Some c) = s.rows (Some c)

pub put_store : (g : StoreParts) (i : ℕ) (r : Row) (u : Option (List ℤ)) → IsStore g
    → slice_get g.rows.references.rows i ≡ Some r → AreValues g r u
    → ((h t : ℕ) → has (list_at g.board.lists h) t ≡ true → Joins (put g i u) h t) → IsStore (put g i u)
put_store g i r u s er long joins = record {
  tables = s.tables;
  sound = s.sound;
  heads = s.heads;
  seats = s.seats;
  numbers = s.numbers;
  classes = s.classes;
  rows = put_rows g i u s;
  each = put_each g i u s;
  value_counts = put_valued g i r u s er long;
  values_in_range = put_ranged g i r u s long;
  made = λ c j q e. s.made c j q e;
  stays = λ c j e. s.stays c j e;
  not_permanent = λ j q e. s.not_permanent j q e;
  system = s.system;
  are_members = joins;
  few_made = λ c. s.few_made c;
  few_references = s.few_references;
  used_heads = s.used_heads;
  used_seats = s.used_seats;
}

-- ---- the state

zipped_set : {A : Type 0} (f : Row → Option (List ℤ) → A) (rs : List Row) (vs : List (Option (List ℤ))) (i : ℕ)
    (r : Row)
    (u : Option (List ℤ)) → slice_get rs i ≡ Some r → zip_rows f rs (set vs i u) ≡ set (zip_rows f rs vs) i (f r u)
zipped_set f [] vs i r u e = cc
zipped_set f (q ∷ rs) [] i r u e = refl
zipped_set f (q ∷ rs) (w ∷ vs) zero r u e = ap (λ (z : Row). f z u ∷ zip_rows f rs vs) (some_eq e)
zipped_set f (q ∷ rs) (w ∷ vs) (suc i) r u e = ap (λ l. f q w ∷ l) (zipped_set f rs vs i r u e)

-- the state has another reference
pub put_state : (g : StoreParts) (i : ℕ) (r : Row) (u : Option (List ℤ)) → slice_get g.rows.references.rows i ≡ Some r
    → state_of (put g i u) ≡ record (state_of g) {
      references = set (state_of g).references i
          (reference_with g.tables.classes (numbers_under g.board g.numbers) r u);
    }
put_state g i r u e = λ n. record {
  made = (state_of g).made;
  references = zipped_set (reference_with g.tables.classes (numbers_under g.board g.numbers))
      g.rows.references.rows g.rows.references.values i r u e n;
  system = (state_of g).system;
}

lists_empty : (at : ℕ → List ℕ) (f n : ℕ) → ((k : ℕ) → k < n → at (f + k) ≡ []) → owned_from at f n ≡ replicate n []
lists_empty at f zero s = refl
lists_empty at f (suc n) s =
    let z : f + 0 ≡ f = omega arith in
    let here : at f ≡ [] = ap at (sym z) ∙ s 0 (omega arith) in
    let rest = lists_empty at (suc f) n (λ k lt. let y : suc f + k ≡ f + suc k = omega arith in ap at y
    ∙ s (suc k) (omega (arith, lt))) in
    λ i. here i ∷ rest i

-- an entity whose lists are empty
pub is_back : (g : StoreParts) (r : Row) (v : List ℤ)
    → ((k : ℕ) → k < (class_of g.tables r.class).owned → list_at g.board.lists (r.head + k) ≡ [])
    → entity_with g.tables.classes (numbers_under g.board g.numbers) r v
    ≡ entity_back r.class (class_of g.tables r.class).owned v
is_back g r v empty =
    let none = lists_empty (numbers_under g.board g.numbers) r.head (class_of g.tables r.class).owned
    (λ k lt. ap (map (number_at g.numbers)) (empty k lt)) in
    λ i. record { class = r.class; attributes = v; owned = none i }

-- ---- ended

-- a reference that may end: it is in no list, and owns no member
pub record Ends (g : StoreParts) (i : ℕ) (r : Row) : Type 0 where
  pub row : slice_get g.rows.references.rows i ≡ Some r
  pub free : is_member g.tables.sets (state_of g) r.class (suc i) ≡ false
  pub empty : (k : ℕ) → k < (class_of g.tables r.class).owned → list_at g.board.lists (r.head + k) ≡ []

-- the row that is found there
here_is : (g : StoreParts) (i d x : ℕ) (r q : Row) → slice_get g.rows.references.rows i ≡ Some r
    → (l : Found g.rows d x q)
    → l.table ≡ None → l.index ≡ i → (q ≡ r) × (x ≡ suc i) × (d ≡ r.class)
here_is g i d x r q er l is at =
    let row : q ≡ r = some_eq (sym l.row ∙ ap (λ z. slice_get (rows_in g.rows z).rows l.index) is
    ∙ ap (slice_get g.rows.references.rows) at ∙ er) in
    (row, l.number ∙ ap suc at, sym l.class ∙ ap (λ (z : Row). z.class) row)

-- no member of a list is it
not_the_member : (g : StoreParts) (i h t : ℕ) (r : Row) → IsStore g → Ends g i r → has (list_at g.board.lists h) t
    ≡ true
    → (d : Joins g h t) (q : Row) (l : Found g.rows d.set.member d.member q) → l.table ≡ None → l.index ≢ i
not_the_member g i h t r s k e d q l is at =
    let same = here_is g i d.set.member d.member r q k.row l is at in
    let out : is_filed d.set (state_of g) (suc i) ≡ false =
    not_member g.tables.sets (state_of g) r.class (suc i) d.is_set.0 d.set d.is_set.1 same.2 k.free in
    let there : is_filed d.set (state_of g) d.member ≡ true = is_filed_is g d.set t d.member s d.is_set d.seat
    ∙ ap is_some (head_of-list_at g.board.lists h t e (s.sound.once t)) in
    let bad : true ≡ false = sym there ∙ ap (is_filed d.set (state_of g)) same.1 ∙ out in cc

-- nor its owner
not_the_owner : (g : StoreParts) (i h t : ℕ) (r : Row) → IsStore g → Ends g i r → has (list_at g.board.lists h) t ≡ true
    → (d : Joins g h t) (c : ℕ) (q : Row) (l : Found g.rows c d.owner q) → d.set.owner ≡ OwnedBy c
    → q.head + d.set.list ≡ h → l.table ≡ None → l.index ≢ i
not_the_owner g i h t r s k e d c q l eo eh is at =
    let same = here_is g i c d.owner r q k.row l is at in
    let lt : d.set.list < (class_of g.tables r.class).owned =
    subst (λ z. d.set.list < (class_of g.tables z).owned) same.2
    (subst (λ z. d.set.list < owned_by z g.tables) eo (s.tables.lists d.set d.is_set)) in
    let none : list_at g.board.lists h ≡ [] =
    ap (list_at g.board.lists) (sym eh ∙ ap (λ (z : Row). z.head + d.set.list) same.0) ∙ k.empty d.set.list lt in
    let bad : false ≡ true = ap (λ l. has l t) (sym none) ∙ e in cc

pub ended_store : (g : StoreParts) (i : ℕ) (r : Row) → IsStore g → Ends g i r → IsStore (put g i None)
ended_store g i r s k = put_store g i r None s k.row (λ v e. absurd (let bad : None ≡ Some v = e in cc)) (λ h t e.
    let d = s.are_members h t e in
    record {
      set = d.set;
      owner = d.owner;
      member = d.member;
      is_set = d.is_set;
      head = head_still g i None s d.set.owner d.set d.owner h d.head (not_the_owner g i h t r s k e d);
      seat = seat_still g i None s d.set d.member t d.seat (not_the_member g i h t r s k e d);
    })

-- ---- brought back

-- a reference that has ended
pub record Ended (g : StoreParts) (i : ℕ) (r : Row) : Type 0 where
  pub row : slice_get g.rows.references.rows i ≡ Some r
  pub none : slice_get g.rows.references.values i ≡ Some None

-- whoever is found is not it
not_ended : (g : StoreParts) (i d x : ℕ) (r q : Row) → Ended g i r → (l : Found g.rows d x q) → l.table ≡ None
    → l.index ≢ i
not_ended g i d x r q k l is at =
    let bad : Some (Some l.value) ≡ Some None = sym l.there ∙ ap (λ z. slice_get (rows_in g.rows z).values l.index) is
    ∙ ap (slice_get g.rows.references.values) at ∙ k.none in cc

pub back_store : (g : StoreParts) (i : ℕ) (r : Row) (v : List ℤ) → IsStore g → Ended g i r
    → length v ≡ (class_of g.tables r.class).attributes → AreInRange v → IsStore (put g i (Some v))
back_store g i r v s k long ranged = put_store g i r (Some v) s k.row (λ y e. (
  ap (length {A = ℤ}) (sym (some_eq e)) ∙ long,
  subst AreInRange (some_eq e) ranged,
)) (λ h t e.
    let d = s.are_members h t e in
    record {
      set = d.set;
      owner = d.owner;
      member = d.member;
      is_set = d.is_set;
      head = head_still g i (Some v) s d.set.owner d.set d.owner h d.head
          (λ c q l eo eh. not_ended g i c d.owner r q k l);
      seat = seat_still g i (Some v) s d.set d.member t d.seat (λ q l. not_ended g i d.set.member d.member r q k l);
    })

-- no list is of it
no_owner : (g : StoreParts) (i h o : ℕ) (r : Row) (p : SetShape) (w : Owner) → IsStore g → Ended g i r
    → head_by w g.rows p o ≡ Some h → w ≡ OwnedBy r.class → owner_number w o ≡ suc i → ⊥
no_owner g i h o r p System s k e f n = cc
no_owner g i h o r p (OwnedBy d) s k e f n =
    let q = map_some (row_of g.rows d o) (λ (z : Row). z.head + p.list) h e in
    let l = found g.rows d o q.0 q.1 in
    let class : d ≡ r.class = cc in
    let at : l.index ≡ i = let m = l.number in omega (arith, m, n) in
    elim l.which [
      | inl is ↦
          let yes = (s.made d l.index q.0 (ap (λ z. slice_get (rows_in g.rows z).rows l.index) (sym is) ∙ l.row)).1 in
          let bad : true
          ≡ false = sym yes ∙ ap (λ z. (class_of g.tables z).permanent) class ∙ s.not_permanent i r k.row in cc
      | inr is ↦ not_ended g i d o r q.0 k l is at
    ]

-- its lists are empty
pub ended_empty : (g : StoreParts) (i : ℕ) (r : Row) → IsStore g → Ended g i r
    → (k : ℕ) → k < (class_of g.tables r.class).owned → list_at g.board.lists (r.head + k) ≡ []
ended_empty g i r s d k lt =
    (elim (list_at g.board.lists (r.head + k)) as (λ l. list_at g.board.lists (r.head + k) ≡ l → l ≡ []) [
      | [] ↦ λ e. refl
      | t ∷ l ↦ λ e. absurd (
          let f : has (list_at g.board.lists (r.head + k)) t ≡ true =
          ap (λ z. has z t) e ∙ (let a : (t == t) ≡ true = grind (arith, nat_tests) in rw a refl) in
          let j = s.are_members (r.head + k) t f in
          let both = some_eq (sym (head_entry g j.set j.owner (r.head + k) s j.is_set j.head)
          ∙ (s.each None i r d.row).heads k lt) in
          no_owner g i (r.head + k) j.owner r j.set j.set.owner s d j.head
          (ap (λ (z : HeadEntry). z.owner) both) (ap (λ (z : HeadEntry). z.number) both))
    ]) refl

-- ---- the tests of the call

-- whether it is a member, as its seats say
pub members_are : (g : StoreParts) (c k : ℕ) (r : Row) (sets : List SetShape) → IsStore g → row_of g.rows c k ≡ Some r
    → ((i : ℕ) (p : SetShape) → slice_get sets i ≡ Some p → IsSet g.tables.sets p)
    → list_any (λ (p : SetShape). (p.member == c) && is_some (head_of g.board.lists (r.seat + p.slot))) sets
    ≡ is_member sets (state_of g) c k
members_are g c k r [] s e are = refl
members_are g c k r (p ∷ sets) s e are =
    let rest = members_are g c k r sets s e (λ i q f. are (suc i) q f) in
    (elim (p.member == c) as (λ b. p.member == c ≡ b
    → ((b && is_some (head_of g.board.lists (r.seat + p.slot)))
    || list_any (λ (q : SetShape). (q.member == c) && is_some (head_of g.board.lists (r.seat + q.slot))) sets)
    ≡ ((b && is_filed p (state_of g) k) || is_member sets (state_of g) c k)) [
      | true ↦ λ w.
          let class : p.member ≡ c = eqb→eq p.member c (subst T (sym w) tt) in
          let seat : seat_at g.rows p k ≡ Some (r.seat + p.slot) = ap (option_map (λ (q : Row). q.seat + p.slot))
          (ap (λ d. row_of g.rows d k) class ∙ e) in
          λ i. sym (is_filed_is g p (r.seat + p.slot) k s (are 0 p refl) seat) i || rest i
      | false ↦ λ w. rest
    ]) refl

filled_map : (f : ℕ → ℕ) (l : List ℕ) → is_filled (map f l) ≡ is_filled l
filled_map f [] = refl
filled_map f (x ∷ l) = refl

filled_look : (b : Board) (ns : List ℕ) (h n : ℕ)
    → list_any is_filled (owned_from (list_at b.lists) h n) ≡ list_any is_filled (owned_from (numbers_under b ns) h n)
filled_look b ns h zero = refl
filled_look b ns h (suc n) =
    λ i. sym (filled_map (number_at ns) (list_at b.lists h)) i || filled_look b ns (suc h) n i

-- whether it owns members, as its heads say
pub owns_is : (g : StoreParts) (c k n : ℕ) (r : Row) → IsStore g → row_of g.rows c k ≡ Some r
    → n ≡ (class_of g.tables c).owned
    → list_any is_filled (owned_from (list_at g.board.lists) r.head n) ≡ owns_members (entity (state_of g) c k)
owns_is g c k n r s e en =
    let l = found g.rows c k r e in
    filled_look g.board g.numbers r.head n
    ∙ ap (λ z. list_any is_filled (owned_from (numbers_under g.board g.numbers) r.head z))
    (en ∙ ap (λ z. (class_of g.tables z).owned) (sym l.class))
    ∙ sym (ap owns_members (entity_some g c k r s l))

-- ---- the loop over its lists

neither : (a b : Bool) → (a || b) ≡ false → (a ≡ false) × (b ≡ false)
neither true b e = cc
neither false b e = (refl, e)

filled_more : (at : ℕ → List ℕ) (f n : ℕ) → list_any is_filled (owned_from at f n) ≡ false → at (f + n) ≡ []
    → list_any is_filled (owned_from at f (suc n)) ≡ false
filled_more at f zero e none = let z : f + 0 ≡ f = omega arith in let here : at f ≡ [] = ap at (sym z) ∙ none in
    rw here refl
filled_more at f (suc n) e none =
    let z : suc f + n ≡ f + suc n = omega arith in
    let d = neither (is_filled (at f)) (list_any is_filled (owned_from at (suc f) n)) e in
    rw d.0 (filled_more at (suc f) n d.1 (ap at z ∙ none))

pub filled_next : (at : ℕ → List ℕ) (f n : ℕ) → list_any is_filled (owned_from at f n) ≡ false → at (f + n) ≡ []
    → list_any is_filled (owned_from at f (n + 1)) ≡ false
filled_next at f n e none =
    let z : suc n ≡ n + 1 = omega arith in
    subst (λ k. list_any is_filled (owned_from at f k) ≡ false) z (filled_more at f n e none)

pub filled_here : (at : ℕ → List ℕ) (f n k : ℕ) → k < n → is_filled (at (f + k)) ≡ true
    → list_any is_filled (owned_from at f n) ≡ true
filled_here at f zero k lt e = absurd (omega (arith, lt))
filled_here at f (suc n) zero lt e =
    let z : f + 0 ≡ f = omega arith in let here : is_filled (at f) ≡ true = ap (λ k. is_filled (at k)) (sym z) ∙ e in
    rw here refl
filled_here at f (suc n) (suc k) lt e =
    let z : f + suc k ≡ suc f + k = omega arith in
    rw (filled_here at (suc f) n k (omega (arith, lt)) (ap (λ j. is_filled (at j)) (sym z) ∙ e))
    (elim (is_filled (at f)) as (λ b. (b || true) ≡ true) [ true ↦ refl | false ↦ refl ])

-- a list is filled if it has a first
pub filled_first : (l : List ℕ) → is_filled l ≡ is_some (first_of l)
filled_first [] = refl
filled_first (x ∷ l) = refl

pub none_first : (l : List ℕ) → is_some (first_of l) ≡ false → l ≡ []
none_first [] e = refl
none_first (x ∷ l) e = cc
