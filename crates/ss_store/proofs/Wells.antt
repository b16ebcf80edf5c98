-- The state of the parts is a well-formed store.
use Rattle.std.proofs.lemmas.Bool.Decides.{nat_tests}
use Rattle.std.proofs.Common.{◌≡◌, ℕ, ℤ, zero, suc, ◌+◌, ◌<◌, ◌≤◌, ◌==◌, ◌||◌, List, [], ◌∷◌, ◌++◌}
use Rattle.std.proofs.Common.{length, map, refl, ap, sym, subst, ◌∙◌, arith, slice_get, Option, Some, None, true}
use Rattle.std.proofs.Common.{false}
use Rattle.std.proofs.Common.{cond, eqb→eq, T}
use Rattle.std.specs.Prelude.{filter_map, is_some, max}
use Rattle.std.specs.Option.{option_map}
use Rattle.std.specs.List.{cons_option}
use Rattle.ss_links.specs.Board.{list_at, head_of, times}
use Rattle.ss_links.specs.Seats.{has, times_in}
use Rattle.ss_links.proofs.SeatLaws.{times_in-absent}
use Rattle.ss_links.proofs.BoardLaws.{head_of-list_at, times-list_at}
use Rattle.ss_program.specs.declared.kinds.Owner.{Owner}
use Rattle.ss_program.specs.declared.kinds.Owner.TheVariants.{System, OwnedBy}
use Rattle.ss_store.specs.declared.rows.Row.{Row}
use Rattle.ss_store.specs.declared.shape.SetShape.{SetShape}
use Rattle.ss_store.specs.Tables.{class_in, class_of}
use Rattle.ss_store.specs.Rows as rows
use Rattle.ss_store.specs.Rows.{rows_in, row_of}
use Rattle.ss_store.specs.Store.{Entity, of_class, made_of, entity, entities, exists, list_number, lists_by}
use Rattle.ss_store.specs.Store.{greatest_number}
use Rattle.ss_store.specs.Store.{is_filed}
use Rattle.ss_store.specs.Invariant.{IsStore}
use Rattle.ss_store.specs.Parts.{StoreParts, HeadEntry, owner_number, head_at, head_by, seat_at}
use Rattle.ss_store.specs.Tables.{IsSet, owned_by}
use Rattle.ss_store.specs.Parts.{number_at, numbers_under}
use Rattle.ss_store.specs.Parts.{owned_from, entity_with, reference_with, made_with, zip_table, state_of}
use Rattle.ss_store.specs.WellStore.{Each, IsEntity, IsReference, IsWellStore}
use Rattle.ss_store.proofs.Core.{some_eq, head_entry, seat_number, member_of}
use Rattle.ss_store.proofs.OneListChanges.{zipped_some, reference_class}
use Rattle.ss_store.proofs.Boards.{Apart}
use Rattle.ss_store.proofs.Agree.{made_is, made_living, list_owner, stands_index, apart, member_is, length_mapped}
use Rattle.ss_store.proofs.Agree.{get_map, class_some, list_look}
use Rattle.ss_store.proofs.Agree.{entity_none}
use Rattle.ss_store.proofs.MakingAnswers.{length_zipped}

-- ---- lists

pub each_from : {A : Type 0} (P : A → Type 0) (xs : List A) → ((i : ℕ) (x : A) → slice_get xs i ≡ Some x → P x)
    → Each P xs
each_from P [] s = tt
each_from P (x ∷ xs) s = (s 0 x refl, each_from P xs (λ i y e. s (suc i) y e))

owned_length : (at : ℕ → List ℕ) (f n : ℕ) → length (owned_from at f n) ≡ n
owned_length at f zero = refl
owned_length at f (suc n) = ap suc (owned_length at (suc f) n)

-- ---- entities

entity_well : (g : StoreParts) (w : Option ℕ) (i c : ℕ) (r : Row) (v : List ℤ) → IsStore g → r.class ≡ c
    → slice_get (rows_in g.rows w).rows i ≡ Some r → slice_get (rows_in g.rows w).values i ≡ Some (Some v)
    → IsEntity g.tables c (entity_with g.tables.classes (numbers_under g.board g.numbers) r v)
entity_well g w i c r v s class er ev = record {
  class = class;
  attributes = s.value_counts w i r v er ev ∙ ap (λ z. (class_of g.tables z).attributes) class;
  values = s.values_in_range w i v ev;
  owned = owned_length (numbers_under g.board g.numbers) r.head (class_in g.tables.classes r.class).owned
      ∙ ap (λ z. (class_of g.tables z).owned) class;
}

made_well : (g : StoreParts) (c i : ℕ) (e : Entity) → IsStore g → slice_get (made_of (state_of g) c) i ≡ Some e
    → IsEntity g.tables c e
made_well g c i e s f =
    let cs = g.tables.classes in
    let at = numbers_under g.board g.numbers in
    let z = zipped_some (made_with cs at) (rows_in g.rows (Some c)).rows (rows_in g.rows (Some c)).values i e
    (ap (λ es. slice_get es i) (sym (made_is g c)) ∙ f) in
    let v = made_living g c i z.0 s z.2 in
    let value : z.1 ≡ Some v.0 = some_eq (sym z.3 ∙ v.1) in
    subst (IsEntity g.tables c) (ap (made_with cs at z.0) (sym value) ∙ z.4)
    (entity_well g (Some c) i c z.0 v.0 s (s.made c i z.0 z.2).0 z.2 v.1)

made_none : (g : StoreParts) (c : ℕ) → IsStore g → (class_of g.tables c).permanent ≡ false → made_of (state_of g) c ≡ []
made_none g c s given =
    (elim (made_of (state_of g) c) as (λ es. made_of (state_of g) c ≡ es → es ≡ []) [
      | [] ↦ λ e. refl
      | x ∷ es ↦ λ e. absurd (
          let z = zipped_some (made_with g.tables.classes (numbers_under g.board g.numbers))
          (rows_in g.rows (Some c)).rows
          (rows_in g.rows (Some c)).values 0 x (ap (λ es. slice_get es 0) (sym (made_is g c) ∙ e)) in
          let bad : true ≡ false = sym (s.made c 0 z.0 z.2).1 ∙ given in cc)
    ]) refl

made_few : (g : StoreParts) (c : ℕ) → IsStore g → length (made_of (state_of g) c)
    ≡ length (rows_in g.rows (Some c)).rows
made_few g c s = ap (length {A = Entity}) (made_is g c)
    ∙ length_zipped (made_with g.tables.classes (numbers_under g.board g.numbers)) (rows_in g.rows (Some c)).rows
    (rows_in g.rows (Some c)).values (s.rows (Some c))

reference_well : (g : StoreParts) (i : ℕ) (r : Row) (v o : Option (List ℤ)) → IsStore g
    → slice_get g.rows.references.rows i ≡ Some r → slice_get g.rows.references.values i ≡ Some v → v ≡ o
    → IsReference g.tables (reference_with g.tables.classes (numbers_under g.board g.numbers) r o)
reference_well g i r v None s er ev is = tt
reference_well g i r v (Some x) s er ev is =
    ((s.each None i r er).class, s.not_permanent i r er, entity_well g None i r.class r x s refl er (ev ∙ ap Some is))

-- ---- members

has_one : (f : ℕ → ℕ) (l : List ℕ) (k : ℕ) → has (map f l) k ≡ true → (t : ℕ) × (has l t ≡ true) × (f t ≡ k)
has_one f [] k e = cc
has_one f (y ∷ l) k e =
    (elim (f y == k) as (λ b. f y == k ≡ b → (b || has (map f l) k) ≡ true
    → (t : ℕ) × (has (y ∷ l) t ≡ true) × (f t ≡ k)) [
      | true ↦ λ w h. (
        y,
        (let a : (y == y) ≡ true = grind (arith, nat_tests) in rw a refl),
        eqb→eq (f y) k (subst T (sym w) tt),
      )
      | false ↦ λ w h.
          let d = has_one f l k h in
          (d.0, rw d.1 (elim (y == d.0) as (λ b. (b || true) ≡ true) [ true ↦ refl | false ↦ refl ]), d.2)
    ]) refl e

-- whoever is in a list of an owner is a member, and this is its seat
pub record Stands (g : StoreParts) (p : SetShape) (h k : ℕ) : Type 0 where
  pub seat : ℕ
  pub stands : has (list_at g.board.lists h) seat ≡ true
  pub is : seat_at g.rows p k ≡ Some seat

stands_at : (g : StoreParts) (p : SetShape) (o h k : ℕ) → IsStore g → IsSet g.tables.sets p → head_at g.rows p o
    ≡ Some h
    → has (numbers_under g.board g.numbers h) k ≡ true → Stands g p h k
stands_at g p o h k s is e f =
    let d = has_one (number_at g.numbers) (list_at g.board.lists h) k f in
    let m = member_of g p o h d.0 s is e d.1 in
    record { seat = d.0; stands = d.1; is = ap (seat_at g.rows p) (sym d.2 ∙ m.is) ∙ m.seat }

members_exist : (g : StoreParts) (p : SetShape) (k : ℕ) → IsStore g → IsSet g.tables.sets p → is_filed p (state_of g) k
    ≡ true
    → exists (state_of g) p.member k ≡ true
members_exist g p k s is e =
    let i = stands_index (lists_by p.owner p.list (state_of g)) k e in
    let o = list_owner g p.owner p i.0 i.1 s (s.tables.lists p is) i.2 in
    let d = stands_at g p o.0 o.1 k s is o.2 (ap (λ l. has l k) o.3 ∙ i.3) in
    member_is g p k s ∙ ap is_some d.is

-- ---- each once

times_map : (f : ℕ → ℕ) (l : List ℕ) (t : ℕ) → Apart f l t → times_in (map f l) (f t) ≡ times_in l t
times_map f [] t a = refl
times_map f (y ∷ l) t a =
    let rest = times_map f l t (λ u e. a u (rw e
    (elim (y == u) as (λ b. (b || true) ≡ true) [ true ↦ refl | false ↦ refl ]))) in
    (elim (y == t) as (λ b. y == t ≡ b → cond (f y == f t) 1 0 + times_in (map f l) (f t) ≡ cond b 1 0 + times_in l t) [
      | true ↦ λ w.
          let same : (f y == f t) ≡ true = subst (λ z. (f y == f z) ≡ true) (eqb→eq y t (subst T (sym w) tt))
          (grind (arith, nat_tests)) in
          rw same (ap (λ z. 1 + z) rest)
      | false ↦ λ w.
          (elim (f y == f t) as (λ b. f y == f t ≡ b → cond b 1 0 + times_in (map f l) (f t) ≡ 0 + times_in l t) [
            | true ↦ λ v. absurd (
                let first : has (y ∷ l) y ≡ true = let z : (y == y) ≡ true = grind (arith, nat_tests) in rw z refl in
                let is : y ≡ t = a y first (eqb→eq (f y) (f t) (subst T (sym v) tt)) in
                grind (arith, nat_tests, is, w))
            | false ↦ λ v. ap (λ z. 0 + z) rest
          ]) refl
    ]) refl

-- a number is in one list at most once
list_once : (g : StoreParts) (p : SetShape) (o h k : ℕ) → IsStore g → IsSet g.tables.sets p → head_at g.rows p o
    ≡ Some h
    → times_in (numbers_under g.board g.numbers h) k ≤ 1
list_once g p o h k s is e =
    (elim (has (numbers_under g.board g.numbers h) k) as (λ b. has (numbers_under g.board g.numbers h) k ≡ b
    → times_in (numbers_under g.board g.numbers h) k ≤ 1) [
      | true ↦ λ w.
          let d = stands_at g p o h k s is e w in
          let number : number_at g.numbers d.seat ≡ k = seat_number g p k d.seat s is d.is in
          let same = times_map (number_at g.numbers) (list_at g.board.lists h) d.seat
          (apart g p o h d.seat k s is e d.is) in
          let here : times_in (numbers_under g.board g.numbers h) k ≡ times_in (list_at g.board.lists h) d.seat =
          ap (times_in (numbers_under g.board g.numbers h)) (sym number) ∙ same in
          let few = times-list_at g.board.lists h d.seat in let once = s.sound.once d.seat in
          omega (arith, here, few, once)
      | false ↦ λ w. let none = times_in-absent (numbers_under g.board g.numbers h) k w in omega (arith, none)
    ]) refl

-- and in only one of them
one_owner : (g : StoreParts) (p : SetShape) (a b h j k : ℕ) → IsStore g → IsSet g.tables.sets p → head_at g.rows p a
    ≡ Some h
    → head_at g.rows p b ≡ Some j → has (numbers_under g.board g.numbers h) k ≡ true
    → has (numbers_under g.board g.numbers j) k ≡ true
    → h ≡ j
one_owner g p a b h j k s is eh ej fh fj =
    let d = stands_at g p a h k s is eh fh in
    let e = stands_at g p b j k s is ej fj in
    let same : d.seat ≡ e.seat = some_eq (sym d.is ∙ e.is) in
    some_eq (sym (head_of-list_at g.board.lists h d.seat d.stands (s.sound.once d.seat))
    ∙ ap (head_of g.board.lists) same
    ∙ head_of-list_at g.board.lists j e.seat e.stands (s.sound.once e.seat))

times_none : (ls : List (List ℕ)) (k : ℕ) → ((i : ℕ) (l : List ℕ) → slice_get ls i ≡ Some l → has l k ≡ false)
    → times ls k ≡ 0
times_none [] k s = refl
times_none (l ∷ ls) k s =
    let here = times_in-absent l k (s 0 l refl) in
    let rest = times_none ls k (λ i m e. s (suc i) m e) in omega (arith, here, rest)

-- lists of which each has a number once, and no two have it
pub record AreApart (ls : List (List ℕ)) (k : ℕ) : Type 0 where
  pub once : (i : ℕ) (l : List ℕ) → slice_get ls i ≡ Some l → times_in l k ≤ 1
  pub alone : (i j : ℕ) (l m : List ℕ) → slice_get ls i ≡ Some l → slice_get ls j ≡ Some m → has l k ≡ true
      → has m k ≡ true
      → i ≡ j

times_once : (ls : List (List ℕ)) (k : ℕ) → AreApart ls k → times ls k ≤ 1
times_once [] k a = omega arith
times_once (l ∷ ls) k a =
    (elim (has l k) as (λ b. has l k ≡ b → times_in l k + times ls k ≤ 1) [
      | true ↦ λ w.
          let rest = times_none ls k (λ i m e. (elim (has m k) as (λ b. has m k ≡ b → b ≡ false) [
            | true ↦ λ v. absurd (let bad = a.alone 0 (suc i) l m refl e w v in omega (arith, bad))
            | false ↦ λ v. refl
          ]) refl) in
          let once = a.once 0 l refl in omega (arith, rest, once)
      | false ↦ λ w.
          let none = times_in-absent l k w in
          let rest = times_once ls k (record {
            once = λ i m e. a.once (suc i) m e;
            alone = λ i j m n e f u v. let same = a.alone (suc i) (suc j) m n e f u v in omega (arith, same);
          }) in omega (arith, none, rest)
    ]) refl

-- ---- owners

-- an owner that exists has a head, and its list is the list of that head on the board
owner_head : (g : StoreParts) (c k : ℕ) (e : Entity) (p : SetShape) → IsStore g → p.list < owned_by (OwnedBy c) g.tables
    → entity (state_of g) c k ≡ Some e
    → (h : ℕ) × (head_by (OwnedBy c) g.rows p k ≡ Some h)
    × (numbers_under g.board g.numbers h ≡ list_number e.owned p.list)
owner_head g c k e p s lt f =
    (elim (row_of g.rows c k) as (λ q. row_of g.rows c k ≡ q → (h : ℕ) × (head_by (OwnedBy c) g.rows p k ≡ Some h)
    × (numbers_under g.board g.numbers h ≡ list_number e.owned p.list)) [
      | None ↦ λ w. absurd (let bad : None ≡ Some e = sym (entity_none g c k s w) ∙ f in cc)
      | Some r ↦ λ w.
          let there : head_by (OwnedBy c) g.rows p k ≡ Some (r.head + p.list) =
          ap (option_map (λ (q : Row). q.head + p.list)) w in (
            r.head + p.list,
            there,
            some_eq (sym (list_look g (OwnedBy c) p k (r.head + p.list) s lt there)
                ∙ ap (option_map (λ (z : Entity). list_number z.owned p.list)) f),
          )
    ]) refl

number_of_owner : (w : Owner) (c a b : ℕ) → w ≡ OwnedBy c → owner_number w a ≡ owner_number w b → a ≡ b
number_of_owner System c a b e f = cc
number_of_owner (OwnedBy d) c a b e f = f

-- a head is of one owner
same_owner : (g : StoreParts) (p : SetShape) (c a b h : ℕ) → IsStore g → IsSet g.tables.sets p → p.owner ≡ OwnedBy c
    → head_at g.rows p a ≡ Some h → head_at g.rows p b ≡ Some h → a ≡ b
same_owner g p c a b h s is eo ea eb =
    let both = some_eq (sym (head_entry g p a h s is ea) ∙ head_entry g p b h s is eb) in
    number_of_owner p.owner c a b eo (ap (λ (z : HeadEntry). z.number) both)

-- two owners with a member are one
pub record Owns (g : StoreParts) (p : SetShape) (c : ℕ) : Type 0 where
  pub store : IsStore g
  pub is_set : IsSet g.tables.sets p
  pub owner : p.owner ≡ OwnedBy c

owner_once : (g : StoreParts) (p : SetShape) (c a k : ℕ) (e : Entity) → Owns g p c → entity (state_of g) c a ≡ Some e
    → times_in (list_number e.owned p.list) k ≤ 1
owner_once g p c a k e d f =
    let lt = subst (λ z. p.list < owned_by z g.tables) d.owner (d.store.tables.lists p d.is_set) in
    let h = owner_head g c a e p d.store lt f in
    subst (λ l. times_in l k ≤ 1) h.2
    (list_once g p a h.0 k d.store d.is_set (ap (λ z. head_by z g.rows p a) d.owner ∙ h.1))

owner_alone : (g : StoreParts) (p : SetShape) (c a b k : ℕ) (e f : Entity) → Owns g p c → entity (state_of g) c a
    ≡ Some e
    → entity (state_of g) c b ≡ Some f → has (list_number e.owned p.list) k ≡ true
    → has (list_number f.owned p.list) k ≡ true → a ≡ b
owner_alone g p c a b k e f d ea eb u v =
    let lt = subst (λ z. p.list < owned_by z g.tables) d.owner (d.store.tables.lists p d.is_set) in
    let h = owner_head g c a e p d.store lt ea in
    let j = owner_head g c b f p d.store lt eb in
    let at = ap (λ z. head_by z g.rows p a) d.owner ∙ h.1 in
    let other = ap (λ z. head_by z g.rows p b) d.owner ∙ j.1 in
    let same = one_owner g p a b h.0 j.0 k d.store d.is_set at other (ap (λ l. has l k) h.2 ∙ u) (ap (λ l. has l k) j.2
    ∙ v) in
    same_owner g p c a b h.0 d.store d.is_set d.owner at (other ∙ ap Some (sym same))

-- ---- of the references of a class

-- the entities in a list of references have a number once, and no two have it
pub record AreApartIn {X : Type 0} (f : X → Option Entity) (l : Entity → List ℕ) (xs : List X) (k : ℕ) : Type 0 where
  pub once : (i : ℕ) (x : X) (e : Entity) → slice_get xs i ≡ Some x → f x ≡ Some e → times_in (l e) k ≤ 1
  pub alone : (i j : ℕ) (x y : X) (e d : Entity) → slice_get xs i ≡ Some x → slice_get xs j ≡ Some y → f x ≡ Some e
      → f y ≡ Some d → has (l e) k ≡ true → has (l d) k ≡ true → i ≡ j

later : {X : Type 0} (f : X → Option Entity) (l : Entity → List ℕ) (x : X) (xs : List X) (k : ℕ)
    → AreApartIn f l (x ∷ xs) k → AreApartIn f l xs k
later f l x xs k a = record {
  once = λ i y e u w. a.once (suc i) y e u w;
  alone = λ i j y z e d u v eu ev hu hv. let same = a.alone (suc i) (suc j) y z e d u v eu ev hu hv in
      omega (arith, same);
}

filtered_none : {X : Type 0} (f : X → Option Entity) (l : Entity → List ℕ) (xs : List X) (k : ℕ)
    → ((i : ℕ) (x : X) (e : Entity) → slice_get xs i ≡ Some x → f x ≡ Some e → has (l e) k ≡ false)
    → times (map l (filter_map f xs)) k ≡ 0
filtered_none f l [] k s = refl
filtered_none {X} f l (x ∷ xs) k s =
    let rest = filtered_none f l xs k (λ i y e u w. s (suc i) y e u w) in
    (elim (f x) as (λ o. f x ≡ o → times (map l (cons_option o (filter_map f xs))) k ≡ 0) [
      | None ↦ λ w. rest
      | Some e ↦ λ w. let here = times_in-absent (l e) k (s 0 x e refl w) in omega (arith, here, rest)
    ]) refl

filtered_once : {X : Type 0} (f : X → Option Entity) (l : Entity → List ℕ) (xs : List X) (k : ℕ) → AreApartIn f l xs k
    → times (map l (filter_map f xs)) k ≤ 1
filtered_once f l [] k a = omega arith
filtered_once {X} f l (x ∷ xs) k a =
    let rest = filtered_once f l xs k (later f l x xs k a) in
    (elim (f x) as (λ o. f x ≡ o → times (map l (cons_option o (filter_map f xs))) k ≤ 1) [
      | None ↦ λ w. rest
      | Some e ↦ λ w. (elim (has (l e) k) as (λ b. has (l e) k ≡ b
          → times_in (l e) k + times (map l (filter_map f xs)) k ≤ 1) [
            | true ↦ λ v.
                let none = filtered_none f l xs k (λ i y d u z.
                (elim (has (l d) k) as (λ b. has (l d) k ≡ b → b ≡ false) [
                  | true ↦ λ h. absurd (let bad = a.alone 0 (suc i) x y e d refl u w z v h in omega (arith, bad))
                  | false ↦ λ h. refl
                ]) refl) in
                let once = a.once 0 x e refl w in omega (arith, none, once)
            | false ↦ λ v. let none = times_in-absent (l e) k v in omega (arith, none, rest)
          ]) refl
    ]) refl

filter_none : {X : Type 0} (f : X → Option Entity) (xs : List X)
    → ((i : ℕ) (x : X) → slice_get xs i ≡ Some x → f x ≡ None)
    → filter_map f xs ≡ []
filter_none f [] s = refl
filter_none f (x ∷ xs) s = rw (s 0 x refl) (filter_none f xs (λ i y e. s (suc i) y e))

-- a permanent class has no references
none_given : (g : StoreParts) (c : ℕ) → IsStore g → (class_of g.tables c).permanent ≡ true
    → filter_map (of_class c) (state_of g).references ≡ []
none_given g c s yes_made = filter_none (of_class c) (state_of g).references (λ i x e.
    (elim (of_class c x) as (λ o. of_class c x ≡ o → o ≡ None) [
      | None ↦ λ w. refl
      | Some d ↦ λ w. absurd (
          let q = class_some c x d w in
          let cs = g.tables.classes in
          let z = zipped_some (reference_with cs (numbers_under g.board g.numbers)) g.rows.references.rows
          g.rows.references.values i x e in
          let class : z.0.class
          ≡ c = reference_class cs (numbers_under g.board g.numbers) z.0 z.1 d (z.4 ∙ q.0) ∙ q.1 in
          let bad : true ≡ false = sym yes_made ∙ ap (λ n. (class_of g.tables n).permanent) (sym class)
          ∙ s.not_permanent i z.0 z.2 in cc)
    ]) refl)

-- ---- the members of a set

append_nil : {A : Type 0} (xs : List A) → xs ++ [] ≡ xs
append_nil [] = refl
append_nil (x ∷ xs) = ap (λ l. x ∷ l) (append_nil xs)

made_once : (g : StoreParts) (p : SetShape) (c k : ℕ) → Owns g p c
    → times (map (λ (e : Entity). list_number e.owned p.list) (made_of (state_of g) c)) k ≤ 1
made_once g p c k d =
    let es = made_of (state_of g) c in
    let here : (i : ℕ) (e : Entity) → slice_get es i ≡ Some e
    → entity (state_of g) c (suc i) ≡ Some e = λ i e f. rw f refl in
    times_once (map (λ (e : Entity). list_number e.owned p.list) es) k (record {
      once = λ i l e.
          let m = get_map (λ (x : Entity). list_number x.owned p.list) es i l e in
          subst (λ z. times_in z k ≤ 1) m.2 (owner_once g p c (suc i) k m.0 d (here i m.0 m.1));
      alone = λ i j l n e f u v.
          let m = get_map (λ (x : Entity). list_number x.owned p.list) es i l e in
          let o = get_map (λ (x : Entity). list_number x.owned p.list) es j n f in
          let same = owner_alone g p c (suc i) (suc j) k m.0 o.0 d (here i m.0 m.1) (here j o.0 o.1)
          (ap (λ z. has z k) m.2 ∙ u) (ap (λ z. has z k) o.2 ∙ v) in
          omega (arith, same);
    })

given_once : (g : StoreParts) (p : SetShape) (c k : ℕ) → Owns g p c → made_of (state_of g) c ≡ []
    → times (map (λ (e : Entity). list_number e.owned p.list) (filter_map (of_class c) (state_of g).references)) k ≤ 1
given_once g p c k d none =
    let rs = (state_of g).references in
    let here : (i : ℕ) (x : Option Entity) (e : Entity) → slice_get rs i ≡ Some x → of_class c x ≡ Some e
    → entity (state_of g) c (suc i) ≡ Some e = λ i x e f w. rw (ap (λ z. slice_get z i) none, f) w in
    filtered_once (of_class c) (λ (e : Entity). list_number e.owned p.list) rs k (record {
      once = λ i x e f w. owner_once g p c (suc i) k e d (here i x e f w);
      alone = λ i j x y e n f u w v a b.
          let same = owner_alone g p c (suc i) (suc j) k e n d (here i x e f w) (here j y n u v) a b in
          omega (arith, same);
    })

lists_once : (g : StoreParts) (p : SetShape) (k : ℕ) (w : Owner) → IsStore g → IsSet g.tables.sets p → p.owner ≡ w
    → times (lists_by w p.list (state_of g)) k ≤ 1
lists_once g p k System s is eo =
    let at : head_at g.rows p 0 ≡ Some p.list = ap (λ z. head_by z g.rows p 0) eo in
    let lt = subst (λ z. p.list < owned_by z g.tables) eo (s.tables.lists p is) in
    let same : list_number (state_of g).system p.list ≡ numbers_under g.board g.numbers p.list =
    some_eq (list_look g System p 0 p.list s lt refl) in
    let once = subst (λ l. times_in l k ≤ 1) (sym same) (list_once g p 0 p.list k s is at) in omega (arith, once)
lists_once g p k (OwnedBy c) s is eo =
    let d : Owns g p c = record { store = s; is_set = is; owner = eo } in
    let l : Entity → List ℕ = λ e. list_number e.owned p.list in
    (elim (class_of g.tables c).permanent as (λ b. (class_of g.tables c).permanent ≡ b
    → times (map l (entities (state_of g) c)) k ≤ 1) [
      | true ↦ λ w.
          let all : entities (state_of g) c ≡ made_of (state_of g) c =
          ap (λ z. made_of (state_of g) c ++ z) (none_given g c s w) ∙ append_nil (made_of (state_of g) c) in
          subst (λ z. times (map l z) k ≤ 1) (sym all) (made_once g p c k d)
      | false ↦ λ w.
          let none = made_none g c s w in
          let all : entities (state_of g) c ≡ filter_map (of_class c) (state_of g).references =
          ap (λ z. z ++ filter_map (of_class c) (state_of g).references) none in
          subst (λ z. times (map l z) k ≤ 1) (sym all) (given_once g p c k d none)
    ]) refl

-- ---- the store

pub greatest_is : (g : StoreParts) (c : ℕ) → IsStore g → rows.greatest_number g.rows c ≡ greatest_number (state_of g) c
greatest_is g c s =
    let cs = g.tables.classes in
    let at = numbers_under g.board g.numbers in
    let t = rows_in g.rows (Some c) in
    let made : length (made_of (state_of g) c) ≡ length t.rows =
    ap (length {A = Entity}) (made_is g c) ∙ length_zipped (made_with cs at) t.rows t.values (s.rows (Some c)) in
    let given = length_zipped (reference_with cs at) g.rows.references.rows g.rows.references.values (s.rows None) in
    ap (λ n. max n (length g.rows.references.rows)) (sym made)
    ∙ ap (λ n. max (length (made_of (state_of g) c)) n) (sym given)

pub is_well : (g : StoreParts) → IsStore g → IsWellStore g.tables (state_of g)
is_well g s =
    let cs = g.tables.classes in
    let at = numbers_under g.board g.numbers in
    record {
      classes = length_mapped (zip_table (made_with cs at)) g.rows.made ∙ s.classes;
      made = λ c. each_from (IsEntity g.tables c) (made_of (state_of g) c) (λ i e f. made_well g c i e s f);
      permanent = λ c f. made_none g c s f;
      few_made = λ c. let few = s.few_made c in let same = made_few g c s in omega (arith, few, same);
      references = each_from (IsReference g.tables) (state_of g).references (λ i x e.
          let z = zipped_some (reference_with cs at) g.rows.references.rows g.rows.references.values i x e in
          subst (IsReference g.tables) z.4 (reference_well g i z.0 z.1 z.1 s z.2 z.3 refl));
      few_references =
          let same = length_zipped (reference_with cs at) g.rows.references.rows g.rows.references.values
          (s.rows None) in
          let few = s.few_references in omega (arith, same, few);
      system = owned_length at 0 g.tables.system;
      members = λ p is. record {
        exist = λ k e. members_exist g p k s is e;
        once = λ k. lists_once g p k p.owner s is refl;
      };
    }
