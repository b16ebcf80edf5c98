-- One list of the board changed is one list of the state changed.
use Rattle.std.proofs.lemmas.Bool.Decides.{nat_tests}
use Rattle.std.proofs.Common.{◌-◌, ◌≡◌, ◌≢◌, ◌⊎◌, inl, inr, ℕ, ℤ, zero, suc, ◌+◌, ◌<◌, ◌≤◌, ◌==◌, List, [], ◌∷◌, length}
use Rattle.std.proofs.Common.{map, refl, ap, sym, subst, ◌∙◌, arith, slice_get, slice_index_or, Option, Some, None}
use Rattle.std.proofs.Common.{true, false, cond, eqb→eq, T, set}
use Rattle.ss_links.specs.Board.{Board, IsSound, list_at}
use Rattle.ss_links.specs.Seats.{has}
use Rattle.ss_program.specs.declared.kinds.Owner.{Owner}
use Rattle.ss_program.specs.declared.kinds.Owner.TheVariants.{System, OwnedBy}
use Rattle.ss_store.specs.declared.shape.ClassShape.{ClassShape}
use Rattle.ss_store.specs.declared.shape.SetShape.{SetShape}
use Rattle.ss_store.specs.declared.rows.Row.{Row}
use Rattle.ss_store.specs.Lists.{change_at}
use Rattle.ss_store.specs.Tables.{class_in, class_of}
use Rattle.ss_store.specs.Rows.{RowTable, EntityTable, no_rows, rows_in, row_of}
use Rattle.ss_store.specs.Store.{Entity, changed_reference, with_changed, with_owned, with_list_by, with_list}
use Rattle.ss_store.specs.Invariant.{IsStore, Joins}
use Rattle.ss_store.specs.Parts.{StoreParts, HeadEntry, head_at, head_by, number_at, numbers_under}
use Rattle.ss_store.specs.Tables.{IsSet, owned_by}
use Rattle.ss_store.specs.Parts.{owned_from, entity_with, reference_with, made_with, zip_rows, zip_table, state_of}
use Rattle.ss_store.proofs.Core.{some_eq, Found, found, map_some, made_none}

-- one head's list is another, and no other's
pub record Relisted (b new : Board) (h : ℕ) (m : List ℕ) : Type 0 where
  pub here : list_at new.lists h ≡ m
  pub others : (j : ℕ) → j ≢ h → list_at new.lists j ≡ list_at b.lists j
  pub heads : length new.lists ≡ length b.lists
  pub seats : new.seats ≡ b.seats
  pub sound : IsSound new

pub is_or_not : (j h : ℕ) → (j ≡ h) ⊎ (j ≢ h)
is_or_not j h =
    (elim (j == h) as (λ k. j == h ≡ k → (j ≡ h) ⊎ (j ≢ h)) [
      | true ↦ λ w. inl (eqb→eq j h (subst T (sym w) tt))
      | false ↦ λ w. inr (λ e. grind (arith, nat_tests))
    ]) refl

pub relisted_store : (g : StoreParts) (new : Board) (h : ℕ) (m : List ℕ) → IsStore g → Relisted g.board new h m
    → ((t : ℕ) → has m t ≡ true → Joins g h t) → IsStore (record g { board = new })
relisted_store g new h m k r f = record {
  tables = k.tables;
  sound = r.sound;
  heads = k.heads ∙ sym r.heads;
  seats = k.seats ∙ sym r.seats;
  numbers = k.numbers;
  classes = k.classes;
  rows = k.rows;
  each = λ w i q e. let d = k.each w i q e in record { class = d.class; heads = d.heads; seats = d.seats };
  value_counts = k.value_counts;
  values_in_range = k.values_in_range;
  made = k.made;
  stays = k.stays;
  not_permanent = k.not_permanent;
  system = k.system;
  are_members = λ j t e. elim (is_or_not j h) [
    | inl is ↦ let d = f t (ap (λ l. has l t) (sym r.here ∙ ap (list_at new.lists) (sym is)) ∙ e) in
        record {
          set = d.set;
          owner = d.owner;
          member = d.member;
          is_set = d.is_set;
          head = d.head ∙ ap Some (sym is);
          seat = d.seat;
        }
    | inr far ↦ let d = k.are_members j t (ap (λ l. has l t) (sym (r.others j far)) ∙ e) in
        record { set = d.set; owner = d.owner; member = d.member; is_set = d.is_set; head = d.head; seat = d.seat }
  ];
  few_made = k.few_made;
  few_references = k.few_references;
  used_heads = k.used_heads;
  used_seats = k.used_seats;
}

-- ---- rows and values taken together

pub zipped_same : {A : Type 0} (f g : Row → Option (List ℤ) → A) (rs : List Row) (vs : List (Option (List ℤ)))
    → ((i : ℕ) (r : Row) (v : Option (List ℤ)) → slice_get rs i ≡ Some r → g r v ≡ f r v)
    → zip_rows g rs vs ≡ zip_rows f rs vs
zipped_same f g [] vs s = refl
zipped_same f g (r ∷ rs) [] s = refl
zipped_same f g (r ∷ rs) (v ∷ vs) s = λ i. s 0 r v refl i ∷ zipped_same f g rs vs (λ n q u. s (suc n) q u) i

zipped_one : {A : Type 0} (f g : Row → Option (List ℤ) → A) (ch : A → A) (rs : List Row) (vs : List (Option (List ℤ)))
    (n : ℕ) → ((r : Row) (v : Option (List ℤ)) → slice_get rs n ≡ Some r → g r v ≡ ch (f r v))
    → ((i : ℕ) (r : Row) (v : Option (List ℤ)) → i ≢ n → slice_get rs i ≡ Some r → g r v ≡ f r v)
    → zip_rows g rs vs ≡ change_at ch (zip_rows f rs vs) n
zipped_one f g ch [] vs n here s = refl
zipped_one f g ch (r ∷ rs) [] n here s = refl
zipped_one f g ch (r ∷ rs) (v ∷ vs) zero here s =
    λ i. here r v refl i ∷ zipped_same f g rs vs (λ n q u. s (suc n) q u (λ e. omega (arith, e))) i
zipped_one f g ch (r ∷ rs) (v ∷ vs) (suc n) here s =
    λ i. s 0 r v (λ e. omega (arith, e)) refl i ∷ zipped_one f g ch rs vs n here
    (λ m q u far. s (suc m) q u (λ e. far (omega (arith, e)))) i

pub zipped_get : {A : Type 0} (f : Row → Option (List ℤ) → A) (rs : List Row) (vs : List (Option (List ℤ))) (i : ℕ)
    (r : Row) (v : Option (List ℤ)) → slice_get rs i ≡ Some r → slice_get vs i ≡ Some v
    → slice_get (zip_rows f rs vs) i ≡ Some (f r v)
zipped_get f [] vs i r v e h = cc
zipped_get f (q ∷ rs) [] i r v e h = cc
zipped_get f (q ∷ rs) (u ∷ vs) zero r v e h = λ i. Some (f (some_eq e i) (some_eq h i))
zipped_get f (q ∷ rs) (u ∷ vs) (suc i) r v e h = zipped_get f rs vs i r v e h

pub zipped_none : {A : Type 0} (f : Row → Option (List ℤ) → A) (rs : List Row) (vs : List (Option (List ℤ))) (i : ℕ)
    → slice_get rs i ≡ None → slice_get (zip_rows f rs vs) i ≡ None
zipped_none f [] vs i e = refl
zipped_none f (q ∷ rs) [] i e = refl
zipped_none f (q ∷ rs) (u ∷ vs) zero e = cc
zipped_none f (q ∷ rs) (u ∷ vs) (suc i) e = zipped_none f rs vs i e

pub zipped_short : {A : Type 0} (f : Row → Option (List ℤ) → A) (rs : List Row) (vs : List (Option (List ℤ))) (i : ℕ)
    → slice_get vs i ≡ None → slice_get (zip_rows f rs vs) i ≡ None
zipped_short f [] vs i e = refl
zipped_short f (q ∷ rs) [] i e = refl
zipped_short f (q ∷ rs) (u ∷ vs) zero e = cc
zipped_short f (q ∷ rs) (u ∷ vs) (suc i) e = zipped_short f rs vs i e

-- an item of rows and values taken together is of a row and a value
pub zipped_some : {A : Type 0} (f : Row → Option (List ℤ) → A) (rs : List Row) (vs : List (Option (List ℤ))) (i : ℕ)
    (a : A) → slice_get (zip_rows f rs vs) i ≡ Some a
    → (r : Row) × (v : Option (List ℤ)) × (slice_get rs i ≡ Some r) × (slice_get vs i ≡ Some v) × (f r v ≡ a)
zipped_some f [] vs i a e = cc
zipped_some f (q ∷ rs) [] i a e = cc
zipped_some f (q ∷ rs) (u ∷ vs) zero a e = (q, u, refl, refl, some_eq e)
zipped_some f (q ∷ rs) (u ∷ vs) (suc i) a e = zipped_some f rs vs i a e

-- ---- lists of numberings

pub maps_same : {A B : Type 0} (f g : A → B) (ts : List A) → ((i : ℕ) (t : A) → slice_get ts i ≡ Some t → g t ≡ f t)
    → map g ts ≡ map f ts
maps_same f g [] s = refl
maps_same f g (t ∷ ts) s = λ i. s 0 t refl i ∷ maps_same f g ts (λ n u. s (suc n) u) i

maps_one : {A B : Type 0} (f g : A → B) (ch : B → B) (ts : List A) (n : ℕ)
    → ((t : A) → slice_get ts n ≡ Some t → g t ≡ ch (f t))
    → ((i : ℕ) (t : A) → i ≢ n → slice_get ts i ≡ Some t → g t ≡ f t) → map g ts ≡ change_at ch (map f ts) n
maps_one f g ch [] n here s = refl
maps_one f g ch (t ∷ ts) zero here s = λ i. here t refl i ∷ maps_same f g ts
    (λ n u. s (suc n) u (λ e. omega (arith, e))) i
maps_one f g ch (t ∷ ts) (suc n) here s =
    λ i. s 0 t (λ e. omega (arith, e)) refl i ∷ maps_one f g ch ts n here
    (λ m u far. s (suc m) u (λ e. far (omega (arith, e)))) i

pub index_map : {A B : Type 0} (f : A → B) (ts : List A) (i : ℕ) (d : A)
    → slice_index_or (map f ts) i (f d) ≡ f (slice_index_or ts i d)
index_map f [] i d = refl
index_map f (t ∷ ts) zero d = refl
index_map f (t ∷ ts) (suc i) d = index_map f ts i d

-- a list with an item changed to itself
pub change_same : {A : Type 0} (f : A → A) (xs : List A) (i : ℕ) → ((x : A) → slice_get xs i ≡ Some x → f x ≡ x)
    → change_at f xs i ≡ xs
change_same f [] i s = refl
change_same f (x ∷ xs) zero s = ap (λ y. y ∷ xs) (s x refl)
change_same f (x ∷ xs) (suc i) s = ap (λ ys. x ∷ ys) (change_same f xs i s)

pub index_of : {A : Type 0} (xs : List A) (i : ℕ) (x d : A) → slice_get xs i ≡ Some x → slice_index_or xs i d ≡ x
index_of [] i x d e = cc
index_of (y ∷ xs) zero x d e = some_eq e
index_of (y ∷ xs) (suc i) x d e = index_of xs i x d e

-- ---- lists of an owner

-- if none of its heads changed
pub owned_same : (at new : ℕ → List ℕ) (f n : ℕ) → ((j : ℕ) → f ≤ j → j < f + n → new j ≡ at j)
    → owned_from new f n ≡ owned_from at f n
owned_same at new f zero s = refl
owned_same at new f (suc n) s = λ i. s f (omega arith) (omega arith) i ∷ owned_same at new (suc f) n
    (λ j a b. s j (omega (arith, a)) (omega (arith, b))) i

-- and if one of them changed
owned_one : (at new : ℕ → List ℕ) (f n k : ℕ) (l : List ℕ) → k < n → new (f + k) ≡ l
    → ((j : ℕ) → j ≢ f + k → new j ≡ at j) → owned_from new f n ≡ set (owned_from at f n) k l
owned_one at new f zero k l lt e s = absurd (omega (arith, lt))
owned_one at new f (suc n) zero l lt e s = let z : f ≡ f + 0 = omega arith in
    λ i. (ap new z ∙ e) i ∷ owned_same at new (suc f) n (λ j a b. s j (λ w. omega (arith, w, a))) i
owned_one at new f (suc n) (suc k) l lt e s =
    let z : suc f + k ≡ f + suc k = omega arith in
    λ i. s f (λ w. omega (arith, w)) i ∷ owned_one at new (suc f) n k l (omega (arith, lt)) (ap new z
    ∙ e) (λ j a. s j (λ w. a (omega (arith, w)))) i

-- the lists of these heads are the same
abbrev pub Same : (ℕ → List ℕ) → (ℕ → List ℕ) → ℕ → ℕ → Type 0
Same at new f n = (j : ℕ) → f ≤ j → j < f + n → new j ≡ at j

entity_same : (cs : List ClassShape) (at new : ℕ → List ℕ) (r : Row) (v : List ℤ)
    → Same at new r.head (class_in cs r.class).owned → entity_with cs new r v ≡ entity_with cs at r v
entity_same cs at new r v s = ap (λ (l : List (List ℕ)). record { class = r.class; attributes = v; owned = l })
    (owned_same at new r.head (class_in cs r.class).owned s)

pub reference_same : (cs : List ClassShape) (at new : ℕ → List ℕ) (r : Row) (v : Option (List ℤ))
    → Same at new r.head (class_in cs r.class).owned → reference_with cs new r v ≡ reference_with cs at r v
reference_same cs at new r None s = refl
reference_same cs at new r (Some v) s = ap Some (entity_same cs at new r v s)

pub made_same : (cs : List ClassShape) (at new : ℕ → List ℕ) (r : Row) (v : Option (List ℤ))
    → Same at new r.head (class_in cs r.class).owned → made_with cs new r v ≡ made_with cs at r v
made_same cs at new r None s = entity_same cs at new r [] s
made_same cs at new r (Some v) s = entity_same cs at new r v s

entity_one : (cs : List ClassShape) (at new : ℕ → List ℕ) (r : Row) (v : List ℤ) (k : ℕ) (l : List ℕ)
    → k < (class_in cs r.class).owned → new (r.head + k) ≡ l → ((j : ℕ) → j ≢ r.head + k → new j ≡ at j)
    → entity_with cs new r v ≡ with_owned k l (entity_with cs at r v)
entity_one cs at new r v k l lt e s = ap (λ (m : List (List ℕ)). record { class = r.class; attributes = v; owned = m })
    (owned_one at new r.head (class_in cs r.class).owned k l lt e s)

reference_one : (cs : List ClassShape) (at new : ℕ → List ℕ) (r : Row) (v : Option (List ℤ)) (c k : ℕ) (l : List ℕ)
    → r.class ≡ c → k < (class_in cs r.class).owned → new (r.head + k) ≡ l → ((j : ℕ) → j ≢ r.head + k → new j ≡ at j)
    → reference_with cs new r v ≡ changed_reference (with_owned k l) c (reference_with cs at r v)
reference_one cs at new r None c k l ec lt e s = refl
reference_one cs at new r (Some v) c k l ec lt e s =
    ap Some (entity_one cs at new r v k l lt e s)
    ∙ subst (λ d. Some (with_owned k l (entity_with cs at r v))
    ≡ cond (r.class == d) (Some (with_owned k l (entity_with cs at r v))) (Some (entity_with cs at r v))) ec
    (let same : (r.class == r.class) ≡ true = grind (arith, nat_tests) in rw same refl)

made_one : (cs : List ClassShape) (at new : ℕ → List ℕ) (r : Row) (v : Option (List ℤ)) (k : ℕ) (l : List ℕ)
    → k < (class_in cs r.class).owned → new (r.head + k) ≡ l → ((j : ℕ) → j ≢ r.head + k → new j ≡ at j)
    → made_with cs new r v ≡ with_owned k l (made_with cs at r v)
made_one cs at new r None k l lt e s = entity_one cs at new r [] k l lt e s
made_one cs at new r (Some v) k l lt e s = entity_one cs at new r v k l lt e s

-- the list to which a head of a row belongs
pub row_entry : (g : StoreParts) (w : Option ℕ) (i : ℕ) (r : Row) (j : ℕ) → IsStore g
    → slice_get (rows_in g.rows w).rows i ≡ Some r → r.head ≤ j → j < r.head + (class_of g.tables r.class).owned
    → (k : ℕ) × (slice_get g.owners j ≡ Some (record { owner = OwnedBy r.class; list = k; number = suc i }))
row_entry g w i r j s e a b =
    let back : r.head + (j - r.head) ≡ j = omega (arith, a) in
    (j - r.head, ap (slice_get g.owners) (sym back) ∙ (s.each w i r e).heads (j - r.head) (omega (arith, a, b)))

pub class_eq : {c d : ℕ} → OwnedBy c ≡ OwnedBy d → c ≡ d
class_eq e = cc

-- the rows of a permanent class
pub made_rows : (es : EntityTable) (c : ℕ) (t : RowTable) → slice_get es.made c ≡ Some t → rows_in es (Some c) ≡ t
made_rows es c t e = index_of es.made c t no_rows e

pub reference_class : (cs : List ClassShape) (at : ℕ → List ℕ) (r : Row) (v : Option (List ℤ)) (e : Entity)
    → reference_with cs at r v ≡ Some e → r.class ≡ e.class
reference_class cs at r None e f = cc
reference_class cs at r (Some v) e f = ap (λ (z : Entity). z.class) (some_eq f)

-- a reference of another class stays
pub reference_other : (change : Entity → Entity) (c : ℕ) (x : Option Entity) → ((e : Entity) → x ≡ Some e → e.class ≢ c)
    → changed_reference change c x ≡ x
reference_other change c None far = refl
reference_other change c (Some e) far = let other : (e.class == c) ≡ false =
    (let f = far e refl in grind (arith, nat_tests, f)) in rw other refl

-- the lists of heads on the board, if one of the heads has another list
record Change (g : StoreParts) (new : Board) (r : Row) (k : ℕ) (l : List ℕ) : Type 0 where
  pub below : k < (class_of g.tables r.class).owned
  pub here : numbers_under new g.numbers (r.head + k) ≡ l
  pub others : (j : ℕ) → j ≢ r.head + k → numbers_under new g.numbers j ≡ numbers_under g.board g.numbers j

-- rows that aren't this one have no list that changed
other_same : (g : StoreParts) (new : Board) (c n k : ℕ) (r : Row) (l : List ℕ) (w : Option ℕ) (i : ℕ) (q : Row)
    → IsStore g
    → Change g new r k l → slice_get g.owners (r.head + k)
    ≡ Some (record { owner = OwnedBy c; list = k; number = suc n })
    → slice_get (rows_in g.rows w).rows i ≡ Some q → (q.class ≡ c → i ≢ n)
    → Same (numbers_under g.board g.numbers) (numbers_under new g.numbers) q.head (class_of g.tables q.class).owned
other_same g new c n k r l w i q s d entry e far j a b = d.others j (λ is.
    let both = some_eq (sym (row_entry g w i q j s e a b).1 ∙ ap (slice_get g.owners) is ∙ entry) in
    let same : suc i ≡ suc n = ap (λ (z : HeadEntry). z.number) both in
    far (class_eq (ap (λ (z : HeadEntry). z.owner) both)) (omega (arith, same)))

system_same : (g : StoreParts) (new : Board) (c n k : ℕ) (r : Row) (l : List ℕ) → IsStore g → Change g new r k l
    → slice_get g.owners (r.head + k) ≡ Some (record { owner = OwnedBy c; list = k; number = suc n })
    → owned_from (numbers_under new g.numbers) 0 g.tables.system
    ≡ owned_from (numbers_under g.board g.numbers) 0 g.tables.system
system_same g new c n k r l s d entry = owned_same (numbers_under g.board g.numbers)
    (numbers_under new g.numbers) 0 g.tables.system
    (λ j a b. d.others j (λ w.
    let both = some_eq (sym entry ∙ ap (slice_get g.owners) (sym w) ∙ s.system j (omega (arith, b))) in
    let bad : OwnedBy c ≡ System = ap (λ (z : HeadEntry). z.owner) both in cc))

-- a list of a reference
state_reference : (g : StoreParts) (new : Board) (c n k : ℕ) (r : Row) (l : List ℕ) → IsStore g → Change g new r k l
    → r.class ≡ c → slice_get g.rows.references.rows n ≡ Some r
    → state_of (record g { board = new }) ≡ with_changed (with_owned k l) (state_of g) c (suc n)
state_reference g new c n k r l s d ec er =
    let at = numbers_under g.board g.numbers in
    let now = numbers_under new g.numbers in
    let cs = g.tables.classes in
    let entry : slice_get g.owners (r.head + k) ≡ Some (record { owner = OwnedBy c; list = k; number = suc n }) =
    (s.each None n r er).heads k d.below ∙ ap (λ z. Some (record { owner = OwnedBy z; list = k; number = suc n }))
    ec in
    let permanent : (class_of g.tables c).permanent ≡ false = ap (λ z. (class_of g.tables z).permanent) (sym ec)
    ∙ s.not_permanent n r er in
    let made : map (zip_table (made_with cs now)) g.rows.made ≡ map (zip_table (made_with cs at)) g.rows.made =
    maps_same (zip_table (made_with cs at)) (zip_table (made_with cs now)) g.rows.made (λ b t et.
    zipped_same (made_with cs at) (made_with cs now) t.rows t.values (λ i q v eq.
    let there : slice_get (rows_in g.rows (Some b)).rows i ≡ Some q =
    ap (λ (z : RowTable). slice_get z.rows i) (made_rows g.rows b t et) ∙ eq in
    made_same cs at now q v (other_same g new c n k r l (Some b) i q s d entry there (λ same.
    let m = s.made b i q there in
    let yes : (class_of g.tables c).permanent ≡ true = ap (λ z. (class_of g.tables z).permanent) (sym same ∙ m.0)
    ∙ m.1 in
    absurd (let e = permanent in cc))))) in
    let none : change_at (λ row. change_at (with_owned k l) row n) (state_of g).made c ≡ (state_of g).made =
    change_same (λ row. change_at (with_owned k l) row n) (state_of g).made c (λ row e.
    change_same (with_owned k l) row n (λ x f.
    let is : slice_index_or (state_of g).made c [] ≡ row = index_of (state_of g).made c row [] e in
    let this : zip_table (made_with cs at) (rows_in g.rows (Some c)) ≡ row =
    sym (index_map (zip_table (made_with cs at)) g.rows.made c no_rows) ∙ is in
    let gone : slice_get row n ≡ None = ap (λ z. slice_get z n) (sym this)
    ∙ zipped_none (made_with cs at) (rows_in g.rows (Some c)).rows (rows_in g.rows (Some c)).values n
    (ap (λ z. slice_get (rows_in g.rows (Some z)).rows n) (sym ec) ∙ made_none g n n r s er) in
    absurd (let bad : None ≡ Some x = sym gone ∙ f in cc))) in
    let references : zip_table (reference_with cs now) g.rows.references
    ≡ change_at (changed_reference (with_owned k l) c) (zip_table (reference_with cs at) g.rows.references) n =
    zipped_one (reference_with cs at) (reference_with cs now) (changed_reference (with_owned k l) c)
    g.rows.references.rows g.rows.references.values n
    (λ q v eq. subst (λ (z : Row). reference_with cs now z v
    ≡ changed_reference (with_owned k l) c (reference_with cs at z v)) (some_eq (sym er ∙ eq))
    (reference_one cs at now r v c k l ec d.below d.here d.others))
    (λ i q v far eq. reference_same cs at now q v (other_same g new c n k r l None i q s d entry eq (λ same. far))) in
    λ i. record {
      made = (made ∙ sym none) i;
      references = references i;
      system = system_same g new c n k r l s d entry i;
    }

-- a list of an entity of a permanent class
state_made : (g : StoreParts) (new : Board) (c n k : ℕ) (r : Row) (l : List ℕ) → IsStore g → Change g new r k l
    → slice_get (rows_in g.rows (Some c)).rows n ≡ Some r
    → state_of (record g { board = new }) ≡ with_changed (with_owned k l) (state_of g) c (suc n)
state_made g new c n k r l s d er =
    let at = numbers_under g.board g.numbers in
    let now = numbers_under new g.numbers in
    let cs = g.tables.classes in
    let m = s.made c n r er in
    let entry : slice_get g.owners (r.head + k) ≡ Some (record { owner = OwnedBy c; list = k; number = suc n }) =
    (s.each (Some c) n r er).heads k d.below
    ∙ ap (λ z. Some (record { owner = OwnedBy z; list = k; number = suc n })) m.0 in
    let made : map (zip_table (made_with cs now)) g.rows.made
    ≡ change_at (λ row. change_at (with_owned k l) row n) (map (zip_table (made_with cs at)) g.rows.made) c =
    maps_one (zip_table (made_with cs at)) (zip_table (made_with cs now)) (λ row. change_at (with_owned k l) row n)
    g.rows.made c
    (λ t et. zipped_one (made_with cs at) (made_with cs now) (with_owned k l) t.rows t.values n
    (λ q v eq. subst (λ (z : Row). made_with cs now z v ≡ with_owned k l (made_with cs at z v))
    (some_eq (sym er ∙ ap (λ (z : RowTable). slice_get z.rows n) (made_rows g.rows c t et) ∙ eq))
    (made_one cs at now r v k l d.below d.here d.others))
    (λ i q v far eq. made_same cs at now q v
    (other_same g new c n k r l (Some c) i q s d entry
    (ap (λ (z : RowTable). slice_get z.rows i) (made_rows g.rows c t et) ∙ eq) (λ same. far))))
    (λ b t far et. zipped_same (made_with cs at) (made_with cs now) t.rows t.values (λ i q v eq.
    let there : slice_get (rows_in g.rows (Some b)).rows i ≡ Some q =
    ap (λ (z : RowTable). slice_get z.rows i) (made_rows g.rows b t et) ∙ eq in
    made_same cs at now q v (other_same g new c n k r l (Some b) i q s d entry there
    (λ same. absurd (far (sym (s.made b i q there).0 ∙ same)))))) in
    let references : zip_table (reference_with cs now) g.rows.references
    ≡ zip_table (reference_with cs at) g.rows.references =
    zipped_same (reference_with cs at) (reference_with cs now) g.rows.references.rows g.rows.references.values
    (λ i q v eq.
    reference_same cs at now q v (other_same g new c n k r l None i q s d entry eq (λ same.
    let yes : (class_of g.tables q.class).permanent ≡ true = ap (λ z. (class_of g.tables z).permanent) same ∙ m.1 in
    absurd (let e = s.not_permanent i q eq in cc)))) in
    let none : change_at (changed_reference (with_owned k l) c) (state_of g).references n ≡ (state_of g).references =
    change_same (changed_reference (with_owned k l) c) (state_of g).references n (λ x f.
    reference_other (with_owned k l) c x (λ e ex same.
    let z = zipped_some (reference_with cs at) g.rows.references.rows g.rows.references.values n x f in
    let class : z.0.class ≡ c = reference_class cs at z.0 z.1 e (z.4 ∙ ex) ∙ same in
    let yes : (class_of g.tables z.0.class).permanent ≡ true = ap (λ y. (class_of g.tables y).permanent) class ∙ m.1 in
    let bad = s.not_permanent n z.0 z.2 in cc)) in
    λ i. record {
      made = made i;
      references = (references ∙ sym none) i;
      system = system_same g new c n k r l s d entry i;
    }

state_owned : (g : StoreParts) (new : Board) (c o k : ℕ) (r : Row) (l : List ℕ) → IsStore g → Change g new r k l
    → (d : Found g.rows c o r) → state_of (record g { board = new }) ≡ with_changed (with_owned k l) (state_of g) c o
state_owned g new c o k r l s ch d =
    subst (λ z. state_of (record g { board = new }) ≡ with_changed (with_owned k l) (state_of g) c z) (sym d.number)
    (elim d.which [
      | inl is ↦ state_made g new c d.index k r l s ch (ap (λ z. slice_get (rows_in g.rows z).rows d.index) (sym is)
          ∙ d.row)
      | inr is ↦ state_reference g new c d.index k r l s ch d.class
          (ap (λ z. slice_get (rows_in g.rows z).rows d.index) (sym is) ∙ d.row)
    ])

state_by : (g : StoreParts) (new : Board) (w : Owner) (p : SetShape) (o h : ℕ) (m l : List ℕ) → IsStore g
    → p.list < owned_by w g.tables → head_by w g.rows p o ≡ Some h → Relisted g.board new h m
    → map (number_at g.numbers) m ≡ l
    → state_of (record g { board = new }) ≡ with_list_by w p.list (state_of g) o l
state_by g new System p o h m l s lt e r v =
    let at = numbers_under g.board g.numbers in
    let now = numbers_under new g.numbers in
    let cs = g.tables.classes in
    let is : p.list ≡ h = some_eq e in
    let entry = s.system p.list lt in
    let here : now p.list ≡ l = ap now is ∙ ap (map (number_at g.numbers)) r.here ∙ v in
    let others : (j : ℕ) → j ≢ p.list → now j ≡ at j =
    λ j far. ap (map (number_at g.numbers)) (r.others j (λ w. far (w ∙ sym is))) in
    let z : 0 + p.list ≡ p.list = omega arith in
    let same : (w : Option ℕ) (i : ℕ) (q : Row) → slice_get (rows_in g.rows w).rows i ≡ Some q
    → Same at now q.head (class_of g.tables q.class).owned = λ w i q eq j a b. others j (λ f.
    let both = some_eq (sym (row_entry g w i q j s eq a b).1 ∙ ap (slice_get g.owners) f ∙ entry) in
    let bad : OwnedBy q.class ≡ System = ap (λ (y : HeadEntry). y.owner) both in cc) in
    λ i. record {
      made = maps_same (zip_table (made_with cs at)) (zip_table (made_with cs now)) g.rows.made
          (λ b t et. zipped_same (made_with cs at) (made_with cs now) t.rows t.values (λ n q u eq.
          made_same cs at now q u (same (Some b) n q
          (ap (λ (y : RowTable). slice_get y.rows n) (made_rows g.rows b t et) ∙ eq)))) i;
      references = zipped_same (reference_with cs at) (reference_with cs now) g.rows.references.rows
          g.rows.references.values (λ n q u eq. reference_same cs at now q u (same None n q eq)) i;
      system = owned_one at now 0 g.tables.system p.list l lt (ap now z
          ∙ here) (λ j far. others j (λ w. far (w ∙ sym z))) i;
    }
state_by g new (OwnedBy c) p o h m l s lt e r v =
    let q = map_some (row_of g.rows c o) (λ r. r.head + p.list) h e in
    let d = found g.rows c o q.0 q.1 in
    state_owned g new c o p.list q.0 l s (record {
      below = subst (λ z. p.list < (class_of g.tables z).owned) (sym d.class) lt;
      here = ap (numbers_under new g.numbers) q.2 ∙ ap (map (number_at g.numbers)) r.here ∙ v;
      others = λ j far. ap (map (number_at g.numbers)) (r.others j (λ w. far (w ∙ sym q.2)));
    }) d

-- the state with one list changed
pub relisted_state : (g : StoreParts) (new : Board) (p : SetShape) (o h : ℕ) (m l : List ℕ) → IsStore g
    → IsSet g.tables.sets p → head_at g.rows p o ≡ Some h → Relisted g.board new h m → map (number_at g.numbers) m ≡ l
    → state_of (record g { board = new }) ≡ with_list p (state_of g) o l
relisted_state g new p o h m l s is e r v = state_by g new p.owner p o h m l s (s.tables.lists p is) e r v
