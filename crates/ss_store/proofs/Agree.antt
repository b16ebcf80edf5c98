-- The state agrees with the rows and the board.
use Rattle.std.proofs.lemmas.Bool.Decides.{nat_tests}
use Rattle.std.proofs.Common.{◌≡◌, ◌⊎◌, inl, inr, ℕ, ℤ, zero, suc, ◌+◌, ◌<◌, ◌≤◌, ◌==◌, ◌||◌, List, [], ◌∷◌, ◌++◌}
use Rattle.std.proofs.Common.{length, map, refl, ap, sym, subst, ◌∙◌, arith, slice_get, slice_index_or, Option, Some}
use Rattle.std.proofs.Common.{None, true, false, cond, eqb→eq, T}
use Rattle.std.specs.Prelude.{filter_map, is_some, option_and_then, unwrap_or}
use Rattle.std.specs.Option.{option_map, option_or}
use Rattle.std.specs.List.{cons_option}
use Rattle.ss_links.specs.Board.{list_at, head_of}
use Rattle.ss_links.specs.Seats.{has}
use Rattle.ss_links.proofs.BoardLaws.{head_of-found, head_of-list_at}
use Rattle.ss_program.specs.declared.kinds.Owner.{Owner}
use Rattle.ss_program.specs.declared.kinds.Owner.TheVariants.{System, OwnedBy}
use Rattle.ss_store.specs.declared.shape.SetShape.{SetShape}
use Rattle.ss_store.specs.declared.rows.Row.{Row}
use Rattle.ss_store.specs.Tables.{class_of}
use Rattle.ss_store.specs.Rows.{no_rows, rows_in, row_if, row_in, row_of}
use Rattle.ss_store.specs.Store.{Entity, Store, of_class, made_of, entity, entities, exists, list_number, list_by}
use Rattle.ss_store.specs.Store.{lists_by, is_owner, members_of, stands_in, is_filed}
use Rattle.ss_store.specs.Invariant.{IsStore}
use Rattle.ss_store.specs.Parts.{StoreParts, head_at, head_by, seat_at, number_at, numbers_under, owned_from}
use Rattle.ss_store.specs.Tables.{IsSet, owned_by}
use Rattle.ss_store.specs.Parts.{entity_with, reference_with, made_with, zip_table, state_of}
use Rattle.ss_store.proofs.Core.{some_eq, found, map_some, Found, one_seat, owner_of_seat, seat_number, head_entry}
use Rattle.ss_store.proofs.Core.{seat_entry, made_none}
use Rattle.ss_store.proofs.OneListChanges.{zipped_get, zipped_none, zipped_short, zipped_some, index_map}
use Rattle.ss_store.proofs.OneListChanges.{reference_class}
use Rattle.ss_store.proofs.Boards.{Apart, has-map}

-- the entity of a row
abbrev pub entity_by : StoreParts → Row → List ℤ → Entity
entity_by g r v = entity_with g.tables.classes (numbers_under g.board g.numbers) r v

-- the entities of a permanent class are those of its rows
pub made_is : (g : StoreParts) (c : ℕ) → made_of (state_of g) c
    ≡ zip_table (made_with g.tables.classes (numbers_under g.board g.numbers)) (rows_in g.rows (Some c))
made_is g c = index_map (zip_table (made_with g.tables.classes (numbers_under g.board g.numbers))) g.rows.made c no_rows

made_get : (g : StoreParts) (c i : ℕ) (r : Row) (v : List ℤ) → slice_get (rows_in g.rows (Some c)).rows i ≡ Some r
    → slice_get (rows_in g.rows (Some c)).values i ≡ Some (Some v)
    → slice_get (made_of (state_of g) c) i ≡ Some (entity_by g r v)
made_get g c i r v e f = ap (λ z. slice_get z i) (made_is g c)
    ∙ zipped_get (made_with g.tables.classes (numbers_under g.board g.numbers)) (rows_in g.rows (Some c)).rows
    (rows_in g.rows (Some c)).values i r (Some v) e f

made_gone : (g : StoreParts) (c i : ℕ) → slice_get (rows_in g.rows (Some c)).rows i ≡ None
    → slice_get (made_of (state_of g) c) i ≡ None
made_gone g c i e = ap (λ z. slice_get z i) (made_is g c)
    ∙ zipped_none (made_with g.tables.classes (numbers_under g.board g.numbers)) (rows_in g.rows (Some c)).rows
    (rows_in g.rows (Some c)).values i e

pub reference_get : (g : StoreParts) (i : ℕ) (r : Row) (v : Option (List ℤ)) → slice_get g.rows.references.rows i
    ≡ Some r
    → slice_get g.rows.references.values i ≡ Some v
    → slice_get (state_of g).references i ≡ Some (reference_with g.tables.classes (numbers_under g.board g.numbers) r v)
reference_get g i r v e f = zipped_get
    (reference_with g.tables.classes (numbers_under g.board g.numbers)) g.rows.references.rows
    g.rows.references.values i r v e f

some_here : (g : StoreParts) (c i : ℕ) (r : Row) (v : List ℤ) → IsStore g → r.class ≡ c → (w : Option ℕ)
    → ((w ≡ Some c) ⊎ (w ≡ None)) → slice_get (rows_in g.rows w).rows i ≡ Some r
    → slice_get (rows_in g.rows w).values i ≡ Some (Some v) → entity (state_of g) c (suc i) ≡ Some (entity_by g r v)
some_here g c i r v s ec w (inl is) er ev =
    rw (made_get g c i r v (ap (λ z. slice_get (rows_in g.rows z).rows i) (sym is)
    ∙ er) (ap (λ z. slice_get (rows_in g.rows z).values i) (sym is) ∙ ev)) refl
some_here g c i r v s ec w (inr is) er ev =
    let row = ap (λ z. slice_get (rows_in g.rows z).rows i) (sym is) ∙ er in
    rw (
      made_gone g c i (ap (λ z. slice_get (rows_in g.rows (Some z)).rows i) (sym ec) ∙ made_none g i i r s row),
      reference_get g i r (Some v) row (ap (λ z. slice_get (rows_in g.rows z).values i) (sym is) ∙ ev),
    )
    (subst (λ z. cond (r.class == z) (Some (entity_by g r v)) None ≡ Some (entity_by g r v)) ec
    (let same : (r.class == r.class) ≡ true = grind (arith, nat_tests) in rw same refl))

-- an entity that has a row is in the state, as its row gives it
pub entity_some : (g : StoreParts) (c k : ℕ) (r : Row) → IsStore g → (l : Found g.rows c k r)
    → entity (state_of g) c k ≡ Some (entity_by g r l.value)
entity_some g c k r s l = subst (λ z. entity (state_of g) c z ≡ Some (entity_by g r l.value)) (sym l.number)
    (some_here g c l.index r l.value s l.class l.table l.which l.row l.there)

none_if : (g : StoreParts) (c i : ℕ) (a : Option Row) (b : Option (Option (List ℤ)))
    → slice_get g.rows.references.rows i ≡ a
    → slice_get g.rows.references.values i ≡ b → row_if c a b ≡ None
    → option_and_then (of_class c) (slice_get (state_of g).references i) ≡ None
none_if g c i None b ea eb e = rw (zipped_none (reference_with g.tables.classes (numbers_under g.board g.numbers))
    g.rows.references.rows g.rows.references.values i ea) refl
none_if g c i (Some r) None ea eb e = rw
    (zipped_short (reference_with g.tables.classes (numbers_under g.board g.numbers))
    g.rows.references.rows g.rows.references.values i eb) refl
none_if g c i (Some r) (Some None) ea eb e = rw (reference_get g i r None ea eb) refl
none_if g c i (Some r) (Some (Some v)) ea eb e =
    rw (reference_get g i r (Some v) ea eb)
    ((elim (r.class == c) as (λ k. cond k (Some r) None ≡ None
    → cond k (Some (entity_by g r v)) None ≡ None) [ true ↦ λ f. cc | false ↦ λ f. refl ]) e)

get_under : {A : Type 0} (xs : List A) (i : ℕ) (x : A) → slice_get xs i ≡ Some x → i < length xs
get_under [] i x e = cc
get_under (y ∷ ys) zero x e = omega arith
get_under (y ∷ ys) (suc i) x e = omega (arith, get_under ys i x e)

over_get : {A : Type 0} (xs : List A) (i : ℕ) → slice_get xs i ≡ None → length xs ≤ i
over_get [] i e = omega arith
over_get (y ∷ ys) zero e = cc
over_get (y ∷ ys) (suc i) e = omega (arith, over_get ys i e)

-- an entity of a permanent class that was made is living
pub made_living : (g : StoreParts) (c i : ℕ) (r : Row) → IsStore g → slice_get (rows_in g.rows (Some c)).rows i ≡ Some r
    → (v : List ℤ) × (slice_get (rows_in g.rows (Some c)).values i ≡ Some (Some v))
made_living g c i r s e =
    (elim (slice_get (rows_in g.rows (Some c)).values i) as (λ o. slice_get (rows_in g.rows (Some c)).values i ≡ o
    → (v : List ℤ) × (o ≡ Some (Some v))) [
      | None ↦ λ f. absurd (let a = get_under (rows_in g.rows (Some c)).rows i r e in
          let b = over_get (rows_in g.rows (Some c)).values i f in let d = s.rows (Some c) in omega (arith, a, b, d))
      | Some o ↦ λ f. (elim o as (λ q. o ≡ q → (v : List ℤ) × (Some q ≡ Some (Some v))) [
        | None ↦ λ h. absurd (s.stays c i (f ∙ ap Some h))
        | Some v ↦ λ h. (v, refl)
      ]) refl
    ]) refl

made_row : (g : StoreParts) (c i : ℕ) → IsStore g → row_in (rows_in g.rows (Some c)) c i ≡ None
    → slice_get (rows_in g.rows (Some c)).rows i ≡ None
made_row g c i s e =
    (elim (slice_get (rows_in g.rows (Some c)).rows i) as (λ o. slice_get (rows_in g.rows (Some c)).rows i ≡ o
    → o ≡ None) [
      | None ↦ λ f. refl
      | Some r ↦ λ f. absurd (
          let v = made_living g c i r s f in
          let is = (s.made c i r f).0 in
          let there : row_in (rows_in g.rows (Some c)) c i ≡ Some r =
          rw (f, v.1) (subst (λ z. cond (r.class == z) (Some r) None ≡ Some r) is
          (let same : (r.class == r.class) ≡ true = grind (arith, nat_tests) in rw same refl)) in
          let bad : Some r ≡ None = sym there ∙ e in cc)
    ]) refl

or_none : {A : Type 0} (a b : Option A) → option_or a b ≡ None → (a ≡ None) × (b ≡ None)
or_none None b e = (refl, e)
or_none (Some x) b e = cc

-- an entity that has no row is not in the state
pub entity_none : (g : StoreParts) (c k : ℕ) → IsStore g → row_of g.rows c k ≡ None → entity (state_of g) c k ≡ None
entity_none g c zero s e = refl
entity_none g c (suc i) s e =
    let d = or_none (row_in (rows_in g.rows (Some c)) c i) (row_in g.rows.references c i) e in
    rw (
      made_gone g c i (made_row g c i s d.0),
      none_if g c i (slice_get g.rows.references.rows i) (slice_get g.rows.references.values i) refl refl d.1,
    ) refl

pub entity_is : (g : StoreParts) (c k : ℕ) → IsStore g → exists (state_of g) c k ≡ is_some (row_of g.rows c k)
entity_is g c k s =
    (elim (row_of g.rows c k) as (λ o. row_of g.rows c k ≡ o → exists (state_of g) c k ≡ is_some o) [
      | None ↦ λ e. ap is_some (entity_none g c k s e)
      | Some r ↦ λ e. ap is_some (entity_some g c k r s (found g.rows c k r e))
    ]) refl

is_map : {A B : Type 0} (f : A → B) (o : Option A) → is_some (option_map f o) ≡ is_some o
is_map f None = refl
is_map f (Some x) = refl

pub member_is : (g : StoreParts) (p : SetShape) (x : ℕ) → IsStore g
    → exists (state_of g) p.member x ≡ is_some (seat_at g.rows p x)
member_is g p x s = entity_is g p.member x s ∙ sym (is_map (λ (r : Row). r.seat + p.slot) (row_of g.rows p.member x))

owner_by_is : (g : StoreParts) (w : Owner) (p : SetShape) (o : ℕ) → IsStore g
    → is_some (list_by w p.list (state_of g) o) ≡ is_some (head_by w g.rows p o)
owner_by_is g System p o s = refl
owner_by_is g (OwnedBy c) p o s = is_map (λ (e : Entity). list_number e.owned p.list) (entity (state_of g) c o)
    ∙ entity_is g c o s ∙ sym (is_map (λ (r : Row). r.head + p.list) (row_of g.rows c o))

pub owner_is : (g : StoreParts) (p : SetShape) (o : ℕ) → IsStore g → is_owner p (state_of g) o
    ≡ is_some (head_at g.rows p o)
owner_is g p o s = owner_by_is g p.owner p o s

owned_get : (at : ℕ → List ℕ) (f n k : ℕ) → k < n → slice_index_or (owned_from at f n) k [] ≡ at (f + k)
owned_get at f zero k lt = absurd (omega (arith, lt))
owned_get at f (suc n) zero lt = let z : f ≡ f + 0 = omega arith in ap at z
owned_get at f (suc n) (suc k) lt = let z : suc f + k ≡ f + suc k = omega arith in
    owned_get at (suc f) n k (omega (arith, lt)) ∙ ap at z

-- the list of an owner is the list of its head on the board
pub list_look : (g : StoreParts) (w : Owner) (p : SetShape) (o h : ℕ) → IsStore g → p.list < owned_by w g.tables
    → head_by w g.rows p o ≡ Some h → list_by w p.list (state_of g) o ≡ Some (numbers_under g.board g.numbers h)
list_look g System p o h s lt e = let z : 0 + p.list ≡ p.list = omega arith in
    ap Some (owned_get (numbers_under g.board g.numbers) 0 g.tables.system p.list lt
    ∙ ap (numbers_under g.board g.numbers) (z ∙ some_eq e))
list_look g (OwnedBy c) p o h s lt e =
    let q = map_some (row_of g.rows c o) (λ r. r.head + p.list) h e in
    let d = found g.rows c o q.0 q.1 in
    ap (option_map (λ (z : Entity). list_number z.owned p.list)) (entity_some g c o q.0 s d)
    ∙ ap Some (owned_get (numbers_under g.board g.numbers) q.0.head (class_of g.tables q.0.class).owned p.list
    (subst (λ z. p.list < (class_of g.tables z).owned) (sym d.class) lt) ∙ ap (numbers_under g.board g.numbers) q.2)

pub members_look : (g : StoreParts) (p : SetShape) (o h : ℕ) → IsStore g → IsSet g.tables.sets p → head_at g.rows p o
    ≡ Some h
    → members_of p (state_of g) o ≡ numbers_under g.board g.numbers h
members_look g p o h s is e = ap (λ z. unwrap_or z []) (list_look g p.owner p o h s (s.tables.lists p is) e)

-- ---- all lists of a set

pub get_append : {A : Type 0} (xs ys : List A) (i : ℕ) (x : A) → slice_get (xs ++ ys) i ≡ Some x
    → (slice_get xs i ≡ Some x) ⊎ ((j : ℕ) × (slice_get ys j ≡ Some x))
get_append [] ys i x e = inr (i, e)
get_append (z ∷ xs) ys zero x e = inl e
get_append (z ∷ xs) ys (suc i) x e = get_append xs ys i x e

get_left : {A : Type 0} (xs ys : List A) (i : ℕ) (x : A) → slice_get xs i ≡ Some x → slice_get (xs ++ ys) i ≡ Some x
get_left [] ys i x e = cc
get_left (z ∷ xs) ys zero x e = e
get_left (z ∷ xs) ys (suc i) x e = get_left xs ys i x e

get_right : {A : Type 0} (xs ys : List A) (j : ℕ) (x : A) → slice_get ys j ≡ Some x
    → (i : ℕ) × (slice_get (xs ++ ys) i ≡ Some x)
get_right [] ys j x e = (j, e)
get_right (z ∷ xs) ys j x e = let d = get_right xs ys j x e in (suc d.0, d.1)

filter_at : {A B : Type 0} (f : A → Option B) (x : A) (xs : List A) (z : B) (j : ℕ) (y : B) → f x ≡ Some z
    → slice_get (z ∷ filter_map f xs) j ≡ Some y
    → ((k : ℕ) → slice_get (filter_map f xs) k ≡ Some y
    → (i : ℕ) × (a : A) × (slice_get xs i ≡ Some a) × (f a ≡ Some y))
    → (i : ℕ) × (a : A) × (slice_get (x ∷ xs) i ≡ Some a) × (f a ≡ Some y)
filter_at f x xs z zero y w e down = (0, x, refl, w ∙ e)
filter_at f x xs z (suc j) y w e down = let d = down j e in (suc d.0, d.1, d.2, d.3)

filter_get : {A B : Type 0} (f : A → Option B) (xs : List A) (j : ℕ) (y : B) → slice_get (filter_map f xs) j ≡ Some y
    → (i : ℕ) × (x : A) × (slice_get xs i ≡ Some x) × (f x ≡ Some y)
filter_get f [] j y e = cc
filter_get {A} {B} f (x ∷ xs) j y e = (elim (f x) as (λ o. f x ≡ o
    → slice_get (cons_option o (filter_map f xs)) j ≡ Some y
    → (i : ℕ) × (a : A) × (slice_get (x ∷ xs) i ≡ Some a) × (f a ≡ Some y)) [
      | None ↦ λ w h. let d = filter_get f xs j y h in (suc d.0, d.1, d.2, d.3)
      | Some z ↦ λ w h. filter_at f x xs z j y w h (λ k. filter_get f xs k y)
    ]) refl e

filter_from : {A B : Type 0} (f : A → Option B) (xs : List A) (i : ℕ) (x : A) (y : B) → slice_get xs i ≡ Some x
    → f x ≡ Some y → (j : ℕ) × (slice_get (filter_map f xs) j ≡ Some y)
filter_from f [] i x y e w = cc
filter_from f (z ∷ xs) zero x y e w = (0, rw (ap f (some_eq e) ∙ w) refl)
filter_from {A} {B} f (z ∷ xs) (suc i) x y e w =
    let d = filter_from f xs i x y e w in
    elim (f z) as (λ o. (j : ℕ) × (slice_get (cons_option o (filter_map f xs)) j ≡ Some y)) [
      | None ↦ d
      | Some q ↦ (suc d.0, d.1)
    ]

pub class_some : (c : ℕ) (o : Option Entity) (e : Entity) → of_class c o ≡ Some e → (o ≡ Some e) × (e.class ≡ c)
class_some c None e w = cc
class_some c (Some x) e w = (elim (x.class == c) as (λ k. x.class == c ≡ k → cond k (Some x) None ≡ Some e
    → (Some x ≡ Some e) × (e.class ≡ c)) [
      | true ↦ λ q f. (f, ap (λ (z : Entity). z.class) (sym (some_eq f)) ∙ eqb→eq x.class c (subst T (sym q) tt))
      | false ↦ λ q f. cc
    ]) refl w

-- each of the entities of a class is one of them by its number
pub entity_from : (g : StoreParts) (c j : ℕ) (e : Entity) → IsStore g → slice_get (entities (state_of g) c) j ≡ Some e
    → (k : ℕ) × (entity (state_of g) c k ≡ Some e)
entity_from g c j e s f =
    elim (get_append (made_of (state_of g) c) (filter_map (of_class c) (state_of g).references) j e f) [
      | inl a ↦ (suc j, rw a refl)
      | inr b ↦
          let d = filter_get (of_class c) (state_of g).references b.0 e b.1 in
          let q = class_some c d.1 e d.3 in
          let z = zipped_some (reference_with g.tables.classes (numbers_under g.board g.numbers)) g.rows.references.rows
          g.rows.references.values d.0 d.1 d.2 in
          let class : z.0.class
          ≡ c = reference_class g.tables.classes (numbers_under g.board g.numbers) z.0 z.1 e (z.4 ∙ q.0)
          ∙ q.1 in (
            suc d.0,
            rw (
              made_gone g c d.0 (ap (λ y. slice_get (rows_in g.rows (Some y)).rows d.0) (sym class)
                  ∙ made_none g d.0 d.0 z.0 s z.2),
              d.2,
            ) d.3,
          )
    ]

-- and the converse
entity_at : (st : Store) (c i : ℕ) (e : Entity) (a : Option Entity) → slice_get (made_of st c) i ≡ a
    → option_or a (option_and_then (of_class c) (slice_get st.references i)) ≡ Some e
    → (j : ℕ) × (slice_get (entities st c) j ≡ Some e)
entity_at st c i e (Some x) ea f = (i, get_left (made_of st c) (filter_map (of_class c) st.references) i e (ea ∙ f))
entity_at st c i e None ea f =
    (elim (slice_get st.references i) as (λ o. slice_get st.references i ≡ o → option_and_then (of_class c) o ≡ Some e
    → (j : ℕ) × (slice_get (entities st c) j ≡ Some e)) [
      | None ↦ λ w h. cc
      | Some x ↦ λ w h. let d = filter_from (of_class c) st.references i x e w h in
          get_right (made_of st c) (filter_map (of_class c) st.references) d.0 e d.1
    ]) refl f

entity_index : (st : Store) (c k : ℕ) (e : Entity) → entity st c k ≡ Some e
    → (j : ℕ) × (slice_get (entities st c) j ≡ Some e)
entity_index st c zero e f = cc
entity_index st c (suc i) e f = entity_at st c i e (slice_get (made_of st c) i) refl f

pub stands_index : (ls : List (List ℕ)) (x : ℕ) → stands_in ls x ≡ true
    → (i : ℕ) × (l : List ℕ) × (slice_get ls i ≡ Some l) × (has l x ≡ true)
stands_index [] x e = cc
stands_index (l ∷ ls) x e =
    (elim (has l x) as (λ k. has l x ≡ k → (k || stands_in ls x) ≡ true
    → (i : ℕ) × (m : List ℕ) × (slice_get (l ∷ ls) i ≡ Some m) × (has m x ≡ true)) [
      | true ↦ λ w f. (0, l, refl, w)
      | false ↦ λ w f. let d = stands_index ls x f in (suc d.0, d.1, d.2, d.3)
    ]) refl e

stands_from : (ls : List (List ℕ)) (x i : ℕ) (l : List ℕ) → slice_get ls i ≡ Some l → has l x ≡ true
    → stands_in ls x ≡ true
stands_from [] x i l e f = cc
stands_from (m ∷ ls) x zero l e f = rw (ap (λ z. has z x) (some_eq e) ∙ f) refl
stands_from (m ∷ ls) x (suc i) l e f = rw (stands_from ls x i l e f)
    (elim (has m x) as (λ k. (k || true) ≡ true) [ true ↦ refl | false ↦ refl ])

pub map_get : {A B : Type 0} (f : A → B) (xs : List A) (i : ℕ) (x : A) → slice_get xs i ≡ Some x
    → slice_get (map f xs) i ≡ Some (f x)
map_get f [] i x e = cc
map_get f (y ∷ xs) zero x e = ap (λ z. Some (f z)) (some_eq e)
map_get f (y ∷ xs) (suc i) x e = map_get f xs i x e

pub get_map : {A B : Type 0} (f : A → B) (xs : List A) (i : ℕ) (y : B) → slice_get (map f xs) i ≡ Some y
    → (x : A) × (slice_get xs i ≡ Some x) × (f x ≡ y)
get_map f [] i y e = cc
get_map f (x ∷ xs) zero y e = (x, refl, some_eq e)
get_map f (x ∷ xs) (suc i) y e = get_map f xs i y e

-- each list of a set is that of an owner
pub list_owner : (g : StoreParts) (w : Owner) (p : SetShape) (i : ℕ) (l : List ℕ) → IsStore g → p.list
    < owned_by w g.tables
    → slice_get (lists_by w p.list (state_of g)) i ≡ Some l
    → (o : ℕ) × (h : ℕ) × (head_by w g.rows p o ≡ Some h) × (numbers_under g.board g.numbers h ≡ l)
list_owner g System p zero l s lt e = (0, p.list, refl, some_eq (sym (list_look g System p 0 p.list s lt refl) ∙ e))
list_owner g System p (suc i) l s lt e = cc
list_owner g (OwnedBy c) p i l s lt e =
    let m = get_map (λ (z : Entity). list_number z.owned p.list) (entities (state_of g) c) i l e in
    let k = entity_from g c i m.0 s m.1 in
    (elim (row_of g.rows c k.0) as (λ q. row_of g.rows c k.0 ≡ q
    → (o : ℕ) × (h : ℕ) × (head_by (OwnedBy c) g.rows p o ≡ Some h) × (numbers_under g.board g.numbers h ≡ l)) [
      | None ↦ λ f. absurd (let bad : None ≡ Some m.0 = sym (entity_none g c k.0 s f) ∙ k.1 in cc)
      | Some r ↦ λ f.
          let there : head_by (OwnedBy c) g.rows p k.0 ≡ Some (r.head + p.list) =
          ap (option_map (λ (q : Row). q.head + p.list)) f in (
            k.0,
            r.head + p.list,
            there,
            some_eq (sym (list_look g (OwnedBy c) p k.0 (r.head + p.list) s lt there)
                ∙ ap (option_map (λ (z : Entity). list_number z.owned p.list)) k.1) ∙ m.2,
          )
    ]) refl

owner_list : (g : StoreParts) (w : Owner) (p : SetShape) (o h : ℕ) → IsStore g → p.list < owned_by w g.tables
    → head_by w g.rows p o ≡ Some h → (i : ℕ)
    × (slice_get (lists_by w p.list (state_of g)) i ≡ Some (numbers_under g.board g.numbers h))
owner_list g System p o h s lt e = (0, list_look g System p o h s lt e)
owner_list g (OwnedBy c) p o h s lt e =
    let q = map_some (row_of g.rows c o) (λ r. r.head + p.list) h e in
    let d = found g.rows c o q.0 q.1 in
    let there = entity_some g c o q.0 s d in
    let j = entity_index (state_of g) c o (entity_by g q.0 d.value) there in (
      j.0,
      map_get (λ (z : Entity). list_number z.owned p.list) (entities (state_of g) c) j.0 (entity_by g q.0 d.value) j.1
          ∙ sym (ap (option_map (λ (z : Entity). list_number z.owned p.list)) there)
          ∙ list_look g (OwnedBy c) p o h s lt e,
    )

-- seats of a list have numbers of their own
pub apart : (g : StoreParts) (p : SetShape) (o h t x : ℕ) → IsStore g → IsSet g.tables.sets p → head_at g.rows p o
    ≡ Some h
    → seat_at g.rows p x ≡ Some t → Apart (number_at g.numbers) (list_at g.board.lists h) t
apart g p o h t x s is eh et u f e = one_seat g p o h t u x s is eh et f (e ∙ seat_number g p x t s is et)

-- a member is in an owner's list if its seat is in the list of the owner's head
pub stands_is : (g : StoreParts) (p : SetShape) (o h t x : ℕ) → IsStore g → IsSet g.tables.sets p
    → head_at g.rows p o ≡ Some h → seat_at g.rows p x ≡ Some t
    → has (numbers_under g.board g.numbers h) x ≡ has (list_at g.board.lists h) t
stands_is g p o h t x s is eh et =
    ap (has (numbers_under g.board g.numbers h)) (sym (seat_number g p x t s is et))
    ∙ has-map (number_at g.numbers) (list_at g.board.lists h) t (apart g p o h t x s is eh et)

-- a member is in a list of the set if its seat is in a list
pub is_filed_is : (g : StoreParts) (p : SetShape) (t x : ℕ) → IsStore g → IsSet g.tables.sets p → seat_at g.rows p x
    ≡ Some t
    → is_filed p (state_of g) x ≡ is_some (head_of g.board.lists t)
is_filed_is g p t x s is et =
    (elim (head_of g.board.lists t) as (λ q. head_of g.board.lists t ≡ q → is_filed p (state_of g) x ≡ is_some q) [
      | None ↦ λ e.
          (elim (is_filed p (state_of g) x) as (λ k. is_filed p (state_of g) x ≡ k → k ≡ false) [
            | true ↦ λ f.
                let i = stands_index (lists_by p.owner p.list (state_of g)) x f in
                let d = list_owner g p.owner p i.0 i.1 s (s.tables.lists p is) i.2 in
                let there = sym (stands_is g p d.0 d.1 t x s is d.2 et) ∙ ap (λ l. has l x) d.3 ∙ i.3 in
                absurd (let bad : None ≡ Some d.1 = sym e
                ∙ head_of-list_at g.board.lists d.1 t there (s.sound.once t) in cc)
            | false ↦ λ f. refl
          ]) refl
      | Some h ↦ λ e.
          let there = (head_of-found g.board.lists t h e).1 in
          let d = owner_of_seat g p h t x s is et there in
          let l = owner_list g p.owner p d.0 h s (s.tables.lists p is) d.1 in
          stands_from (lists_by p.owner p.list (state_of g)) x l.0 (numbers_under g.board g.numbers h) l.1
          (stands_is g p d.0 h t x s is d.1 et ∙ there)
    ]) refl

-- ---- bounds

pub get_below : {A : Type 0} (xs : List A) (i : ℕ) (x : A) → slice_get xs i ≡ Some x → i < length xs
get_below xs i x e = get_under xs i x e

pub get_read : {A : Type 0} (xs : List A) (i : ℕ) (y : A) → i < length xs → y ≡ slice_index_or xs i y
    → slice_get xs i ≡ Some y
get_read [] i y lt e = absurd (omega (arith, lt))
get_read (x ∷ xs) zero y lt e = ap Some (sym e)
get_read (x ∷ xs) (suc i) y lt e = get_read xs i y (omega (arith, lt)) e

pub head_below : (g : StoreParts) (p : SetShape) (o h : ℕ) → IsStore g → IsSet g.tables.sets p → head_at g.rows p o
    ≡ Some h
    → h < length g.board.lists
head_below g p o h s is e = let b = get_below g.owners h _ (head_entry g p o h s is e) in let l = s.heads in
    omega (arith, b, l)

pub seat_below : (g : StoreParts) (p : SetShape) (x t : ℕ) → IsStore g → IsSet g.tables.sets p → seat_at g.rows p x
    ≡ Some t
    → t < g.board.seats
seat_below g p x t s is e = let b = get_below g.members t _ (seat_entry g p x t s is e) in let l = s.seats in
    omega (arith, b, l)

pub length_mapped : {A B : Type 0} (f : A → B) (xs : List A) → length (map f xs) ≡ length xs
length_mapped f [] = refl
length_mapped f (x ∷ xs) = ap suc (length_mapped f xs)

-- as many numbers as seats
pub numbers_length : (g : StoreParts) → IsStore g → length g.numbers ≡ g.board.seats
numbers_length g s = ap (length {A = ℕ}) s.numbers ∙ length_mapped _ g.members ∙ s.seats
