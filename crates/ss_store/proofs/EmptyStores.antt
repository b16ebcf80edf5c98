-- A store of a program, with nothing made.
use Rattle.std.proofs.lemmas.Bool.Decides.{nat_tests}
use Rattle.std.proofs.Common.{◌≡◌, ℕ, ℤ, zero, suc, ◌+◌, ◌<◌, ◌≤◌, ◌==◌, List, [], ◌∷◌}
use Rattle.std.proofs.Common.{length, map, take, replicate, refl, ap, sym, subst, ◌∙◌, arith, slice_get, slice_index_or}
use Rattle.std.proofs.Common.{Option, Some, None, Bool, true, false, cond, nat_lt}
use Rattle.std.specs.Prelude.{count_by, unwrap_or}
use Rattle.std.specs.List.{range_with_len}
use Rattle.std.proofs.Math.Seq.{take-length}
use Rattle.std.proofs.lemmas.List.Elements.{All-get_or}
use Rattle.std.proofs.lemmas.List.Recursion.{is_count_by}
use Rattle.std.proofs.lemmas.Option.{slice_get_past, slice_get_within, get_or_from_slice_get}
use Rattle.std.proofs.lemmas.List.FromFn.{length-map-range_with_len}
use Rattle.std.proofs.lemmas.List.Sums.{count_by-le-length}
use Rattle.ss_links.specs.Board.{Board, IsSound, empty_board}
use Rattle.ss_links.specs.Seats.{has}
use Rattle.ss_program.specs.declared.kinds.Owner.{Owner}
use Rattle.ss_program.specs.declared.kinds.Owner.TheVariants.{System, OwnedBy}
use Rattle.ss_program.specs.declared.kinds.Discipline.TheVariants.{Fifo}
use Rattle.ss_program.specs.Program as program
use Rattle.ss_program.specs.Program.{SetTable, ProgramTable, is_same_owner, owned_among}
use Rattle.ss_program.specs.ProgramSound as sound
use Rattle.std.specs.List.{All}
use Rattle.ss_store.specs.declared.rows.Row.{Row}
use Rattle.ss_store.specs.declared.shape.ClassShape.{ClassShape}
use Rattle.ss_store.specs.declared.shape.SetShape.{SetShape}
use Rattle.ss_store.specs.Tables.{Tables, class_of, class_shape, set_shape, joined_among, tables_of}
use Rattle.ss_store.specs.Rows.{RowTable, EntityTable, no_rows, rows_in}
use Rattle.ss_store.specs.Invariant.{IsStore}
use Rattle.ss_store.specs.Parts.{StoreParts, HeadEntry, SeatEntry}
use Rattle.ss_store.specs.Tables.{AreTables, owned_by}
use Rattle.ss_store.specs.Invariant.{used_made}
use Rattle.ss_store.specs.Parts.{number_at, numbers_under, owned_from, made_with, zip_table, value_of}
use Rattle.ss_store.specs.Value.{empty_value}
use Rattle.ss_store.specs.Making.{with_heads}
use Rattle.ss_store.proofs.Core.{some_eq}
use Rattle.ss_store.proofs.More.{length_rep}
use Rattle.ss_store.proofs.OneMoreEntity.{list_more}

-- ---- counting

abbrev cnt : {A : Type 0} → (A → Bool) → List A → ℕ
cnt f [] = 0
cnt f (x ∷ xs) = cond (f x) (1 + cnt f xs) (cnt f xs)

cnt_is : {A : Type 0} (f : A → Bool) (xs : List A) → cnt f xs ≡ count_by f xs
cnt_is f xs = is_count_by (cnt f) f refl (λ x ys. refl) xs

cnt_strict : {A : Type 0} (f : A → Bool) (xs : List A) (i j : ℕ) (x : A) → i < j → slice_get xs i ≡ Some x → f x ≡ true
    → cnt f (take i xs) < cnt f (take j xs)
cnt_strict f [] i j x lt e w = cc
cnt_strict f (y ∷ xs) i zero x lt e w = absurd (omega (arith, lt))
cnt_strict f (y ∷ xs) zero (suc j) x lt e w =
    subst (λ b. 0 < cond b (1 + cnt f (take j xs)) (cnt f (take j xs))) (sym (ap f (some_eq e) ∙ w)) (omega arith)
cnt_strict f (y ∷ xs) (suc i) (suc j) x lt e w =
    let d = cnt_strict f xs i j x (omega (arith, lt)) e w in
    elim (f y) as (λ b. cond b (1 + cnt f (take i xs)) (cnt f (take i xs)) < cond b (1 + cnt f (take j xs))
    (cnt f (take j xs))) [ true ↦ omega (arith, d) | false ↦ d ]

count_strict : {A : Type 0} (f : A → Bool) (xs : List A) (i j : ℕ) (x : A) → i < j → slice_get xs i ≡ Some x
    → f x ≡ true → count_by f (take i xs) < count_by f (take j xs)
count_strict f xs i j x lt e w = let a = cnt_is f (take i xs) in let b = cnt_is f (take j xs) in
    let d = cnt_strict f xs i j x lt e w in omega (arith, a, b, d)

count_below : {A : Type 0} (f : A → Bool) (xs : List A) (i : ℕ) (x : A) → slice_get xs i ≡ Some x → f x ≡ true
    → count_by f (take i xs) < count_by f xs
count_below f xs i x e w = subst (λ z. count_by f (take i xs) < count_by f z) (take-length xs)
    (count_strict f xs i (length xs) x (slice_get_within xs i x e) e w)

one_index : {A : Type 0} (f : A → Bool) (xs : List A) (i j : ℕ) (x y : A) → slice_get xs i ≡ Some x → f x ≡ true
    → slice_get xs j ≡ Some y → f y ≡ true → count_by f (take i xs) ≡ count_by f (take j xs) → i ≡ j
one_index f xs i j x y e w h v same =
    (elim (nat_lt i j) as (λ b. nat_lt i j ≡ b → i ≡ j) [
      | true ↦ λ t. absurd (let lt : i < j = grind (arith, nat_tests, t) in let d = count_strict f xs i j x lt e w in
          omega (arith, d, same))
      | false ↦ λ t. (elim (nat_lt j i) as (λ b. nat_lt j i ≡ b → i ≡ j) [
        | true ↦ λ u. absurd (let lt : j < i = grind (arith, nat_tests, u) in let d = count_strict f xs j i y lt h v in
            omega (arith, d, same))
        | false ↦ λ u. (let a : j ≤ i = grind (arith, nat_tests, t) in let b : i ≤ j = grind (arith, nat_tests, u) in
            omega (arith, a, b))
      ]) refl
    ]) refl

same_owner : (w : Owner) → is_same_owner w w ≡ true
same_owner System = refl
same_owner (OwnedBy c) = grind (arith, nat_tests)

-- ---- rows of tables made by number

get_range : {X : Type 0} (f : ℕ → X) (a n i : ℕ) → i < n → slice_get (map f (range_with_len a n)) i ≡ Some (f (a + i))
get_range f a zero i lt = absurd (omega (arith, lt))
get_range f a (suc n) zero lt = let z : a ≡ a + 0 = omega arith in ap (λ k. Some (f k)) z
get_range f a (suc n) (suc i) lt = let z : a + 1 + i ≡ a + suc i = omega arith in
    get_range f (a + 1) n i (omega (arith, lt)) ∙ ap (λ k. Some (f k)) z

range_get : {X : Type 0} (f : ℕ → X) (n i : ℕ) (x : X) → slice_get (map f (range_with_len 0 n)) i ≡ Some x
    → (i < n) × (x ≡ f i)
range_get f n i x e =
    let lt : i < n = (let a = slice_get_within (map f (range_with_len 0 n)) i x e in
    let b = length-map-range_with_len f 0 n in omega (arith, a, b)) in
    let z : 0 + i ≡ i = omega arith in
    (lt, some_eq (sym e ∙ get_range f 0 n i lt ∙ ap (λ k. Some (f k)) z))

get_some : {A : Type 0} (xs : List A) (i : ℕ) → i < length xs → (x : A) × (slice_get xs i ≡ Some x)
get_some [] i lt = absurd (omega (arith, lt))
get_some (x ∷ xs) zero lt = (x, refl)
get_some (x ∷ xs) (suc i) lt = get_some xs i (omega (arith, lt))

all_get : {A : Type 0} (P : A → Type 0) (xs : List A) (i : ℕ) (x : A) → All P xs → slice_get xs i ≡ Some x → P x
all_get P xs i x a e = subst P (get_or_from_slice_get xs i x x e) (All-get_or P xs i x (slice_get_within xs i x e) a)

-- a set of the tables is one of the program's
record Declared (p : ProgramTable) (i : ℕ) (s : SetShape) : Type 0 where
  pub set : SetTable
  pub at : slice_get p.sets i ≡ Some set
  pub below : i < length p.sets
  pub is : s ≡ set_shape p i
  pub row : program.set_of p i ≡ set

declared : (p : ProgramTable) (i : ℕ) (s : SetShape) → slice_get (tables_of p).sets i ≡ Some s → Declared p i s
declared p i s e =
    let d = range_get (set_shape p) (length p.sets) i s e in
    let q = get_some p.sets i d.0 in
    let none : SetTable = record { name = []; discipline = Fifo; owner = System; member = 0 } in
    record { set = q.0; at = q.1; below = d.0; is = d.1; row = ap (λ o. unwrap_or o none) q.1 }

class_is : (p : ProgramTable) (c : ℕ) → c < length p.classes → class_of (tables_of p) c ≡ class_shape p c
class_is p c lt = let z : 0 + c ≡ c = omega arith in
    let none : ClassShape = record { attributes = 0; owned = 0; joined = 0; permanent = false } in
    ap (λ o. unwrap_or o none) (get_range (class_shape p) 0 (length p.classes) c lt
    ∙ ap (λ k. Some (class_shape p k)) z)

class_none : (p : ProgramTable) (c : ℕ) → length p.classes ≤ c
    → class_of (tables_of p) c ≡ record { attributes = 0; owned = 0; joined = 0; permanent = false }
class_none p c le = let none : ClassShape = record { attributes = 0; owned = 0; joined = 0; permanent = false } in
    ap (λ o. unwrap_or o none) (slice_get_past (tables_of p).classes c (let b =
    length-map-range_with_len (class_shape p) 0 (length p.classes) in omega (arith, le, b)))

count_owner : (p : ProgramTable) (w : Owner) → sound.IsSoundOwner (length p.classes) w
    → owned_by w (tables_of p) ≡ owned_among w p.sets
count_owner p System s = refl
count_owner p (OwnedBy c) s = ap (λ (z : ClassShape). z.owned) (class_is p c s)

class_few : (p : ProgramTable) (c : ℕ) → length p.sets ≤ 64
    → ((class_of (tables_of p) c).owned ≤ 64) × ((class_of (tables_of p) c).joined ≤ 64)
class_few p c few =
    (elim (nat_lt c (length p.classes)) as (λ b. nat_lt c (length p.classes) ≡ b
    → ((class_of (tables_of p) c).owned ≤ 64) × ((class_of (tables_of p) c).joined ≤ 64)) [
      | true ↦ λ t.
          let is = class_is p c (grind (arith, nat_tests, t)) in
          let a : (class_of (tables_of p) c).owned ≡ owned_among (OwnedBy c) p.sets =
          ap (λ (z : ClassShape). z.owned) is in
          let b : (class_of (tables_of p) c).joined ≡ joined_among c p.sets = ap (λ (z : ClassShape). z.joined) is in
          let d = count_by-le-length (λ (t : SetTable). is_same_owner (OwnedBy c) t.owner) p.sets in
          let e = count_by-le-length (λ (t : SetTable). c == t.member) p.sets in
          (omega (arith, a, d, few), omega (arith, b, e, few))
      | false ↦ λ t.
          let is = class_none p c (grind (arith, nat_tests, t)) in
          let a : (class_of (tables_of p) c).owned ≡ 0 = ap (λ (z : ClassShape). z.owned) is in
          let b : (class_of (tables_of p) c).joined ≡ 0 = ap (λ (z : ClassShape). z.joined) is in
          (omega (arith, a), omega (arith, b))
    ]) refl

pub are_tables : (p : ProgramTable) → sound.HasSoundTables p → AreTables (tables_of p)
are_tables p s =
    let few : length p.sets ≤ 64 = s.few_sets in record {
      lists = λ q m.
          let d = declared p m.0 q m.1 in
          let ok = all_get (sound.IsSoundSet p) p.sets m.0 d.set s.sets d.at in
          let owner : q.owner ≡ d.set.owner = ap (λ (z : SetShape). z.owner) d.is
          ∙ ap (λ (z : SetTable). z.owner) d.row in
          let list : q.list ≡ owned_among d.set.owner (take m.0 p.sets) = ap (λ (z : SetShape). z.list) d.is
          ∙ ap (λ (z : SetTable). owned_among z.owner (take m.0 p.sets)) d.row in
          let all : owned_by q.owner (tables_of p) ≡ owned_among d.set.owner p.sets =
          ap (λ z. owned_by z (tables_of p)) owner ∙ count_owner p d.set.owner ok.owner in
          let lt = count_below (λ (t : SetTable). is_same_owner d.set.owner t.owner) p.sets m.0 d.set d.at
          (same_owner d.set.owner) in
          omega (arith, list, all, lt);
      slots = λ q m.
          let d = declared p m.0 q m.1 in
          let ok = all_get (sound.IsSoundSet p) p.sets m.0 d.set s.sets d.at in
          let member : q.member ≡ d.set.member = ap (λ (z : SetShape). z.member) d.is
          ∙ ap (λ (z : SetTable). z.member) d.row in
          let slot : q.slot ≡ joined_among d.set.member (take m.0 p.sets) = ap (λ (z : SetShape). z.slot) d.is
          ∙ ap (λ (z : SetTable). joined_among z.member (take m.0 p.sets)) d.row in
          let all : (class_of (tables_of p) q.member).joined ≡ joined_among d.set.member p.sets =
          ap (λ z. (class_of (tables_of p) z).joined) member
          ∙ ap (λ (z : ClassShape). z.joined) (class_is p d.set.member ok.member) in
          let lt = count_below (λ (t : SetTable). d.set.member == t.member) p.sets m.0 d.set d.at
          (grind (arith, nat_tests)) in
          omega (arith, slot, all, lt);
      one_list = λ a b m n eo el.
          let d = declared p m.0 a m.1 in
          let e = declared p n.0 b n.1 in
          let ao : a.owner ≡ d.set.owner = ap (λ (z : SetShape). z.owner) d.is ∙ ap (λ (z : SetTable). z.owner) d.row in
          let bo : b.owner ≡ e.set.owner = ap (λ (z : SetShape). z.owner) e.is ∙ ap (λ (z : SetTable). z.owner) e.row in
          let al : a.list ≡ owned_among d.set.owner (take m.0 p.sets) = ap (λ (z : SetShape). z.list) d.is
          ∙ ap (λ (z : SetTable). owned_among z.owner (take m.0 p.sets)) d.row in
          let bl : b.list ≡ owned_among e.set.owner (take n.0 p.sets) = ap (λ (z : SetShape). z.list) e.is
          ∙ ap (λ (z : SetTable). owned_among z.owner (take n.0 p.sets)) e.row in
          let owners : e.set.owner ≡ d.set.owner = sym bo ∙ sym eo ∙ ao in
          let index = one_index (λ (t : SetTable). is_same_owner d.set.owner t.owner) p.sets m.0 n.0 d.set e.set d.at
          (same_owner d.set.owner) e.at (ap (is_same_owner d.set.owner) owners ∙ same_owner d.set.owner)
          (sym al ∙ el ∙ bl ∙ ap (λ z. owned_among z (take n.0 p.sets)) owners) in
          d.is ∙ ap (set_shape p) index ∙ sym e.is;
      one_slot = λ a b m n eo el.
          let d = declared p m.0 a m.1 in
          let e = declared p n.0 b n.1 in
          let ao : a.member ≡ d.set.member = ap (λ (z : SetShape). z.member) d.is
          ∙ ap (λ (z : SetTable). z.member) d.row in
          let bo : b.member ≡ e.set.member = ap (λ (z : SetShape). z.member) e.is
          ∙ ap (λ (z : SetTable). z.member) e.row in
          let al : a.slot ≡ joined_among d.set.member (take m.0 p.sets) = ap (λ (z : SetShape). z.slot) d.is
          ∙ ap (λ (z : SetTable). joined_among z.member (take m.0 p.sets)) d.row in
          let bl : b.slot ≡ joined_among e.set.member (take n.0 p.sets) = ap (λ (z : SetShape). z.slot) e.is
          ∙ ap (λ (z : SetTable). joined_among z.member (take n.0 p.sets)) e.row in
          let members : e.set.member ≡ d.set.member = sym bo ∙ sym eo ∙ ao in
          let self : (d.set.member == d.set.member) ≡ true = grind (arith, nat_tests) in
          let index = one_index (λ (t : SetTable). d.set.member == t.member) p.sets m.0 n.0 d.set e.set d.at self e.at
          (ap (λ z. d.set.member == z) members ∙ self)
          (sym al ∙ el ∙ bl ∙ ap (λ z. joined_among z (take n.0 p.sets)) members) in
          d.is ∙ ap (set_shape p) index ∙ sym e.is;
      few_classes = let a = s.few_classes in let b = length-map-range_with_len (class_shape p) 0 (length p.classes) in
          omega (arith, a, b);
      few_owned = λ c. (class_few p c few).0;
      few_joined = λ c. (class_few p c few).1;
      few_system = let d = count_by-le-length (λ (t : SetTable). is_same_owner System t.owner) p.sets in
          omega (arith, d, few);
    }

-- ---- the parts at first

abbrev pub system_heads : ℕ → ℕ → List HeadEntry
system_heads i zero = []
system_heads i (suc n) = record { owner = System; list = i; number = 0 } ∷ system_heads (suc i) n

length_system : (i n : ℕ) → length (system_heads i n) ≡ n
length_system i zero = refl
length_system i (suc n) = ap suc (length_system (suc i) n)

get_system : (i n k : ℕ) → k < n → slice_get (system_heads i n) k
    ≡ Some (record { owner = System; list = i + k; number = 0 })
get_system i zero k lt = absurd (omega (arith, lt))
get_system i (suc n) zero lt = let z : i ≡ i + 0 = omega arith in
    λ j. Some (record { owner = System; list = z j; number = 0 })
get_system i (suc n) (suc k) lt = let z : suc i + k ≡ i + suc k = omega arith in
    get_system (suc i) n k (omega (arith, lt)) ∙ λ j. Some (record { owner = System; list = z j; number = 0 })

rep_index : {A : Type 0} (n c : ℕ) (x : A) → slice_index_or (replicate n x) c x ≡ x
rep_index zero c x = refl
rep_index (suc n) zero x = refl
rep_index (suc n) (suc c) x = rep_index n c x

used_none : (f : ClassShape → ℕ) (cs : List ClassShape) (n : ℕ) → used_made f cs (replicate n no_rows) ≡ 0
used_none f cs zero = refl
used_none f cs (suc n) = let d = used_none f cs n in omega (arith, d)

abbrev pub nothing_made : ℕ → EntityTable
nothing_made n = record { made = replicate n no_rows; references = no_rows }

no_table : (n : ℕ) (w : Option ℕ) → rows_in (nothing_made n) w ≡ no_rows
no_table n None = refl
no_table n (Some c) = rep_index n c no_rows

no_row : (n : ℕ) (w : Option ℕ) (i : ℕ) (r : Row) → slice_get (rows_in (nothing_made n) w).rows i ≡ Some r → ⊥
no_row n w i r e = let bad : None ≡ Some r = ap (λ (t : RowTable). slice_get t.rows i) (sym (no_table n w)) ∙ e in cc

no_value : (n : ℕ) (w : Option ℕ) (i : ℕ) (x : Option (List ℤ))
    → slice_get (rows_in (nothing_made n) w).values i ≡ Some x → ⊥
no_value n w i x e = let bad : None ≡ Some x = ap (λ (t : RowTable). slice_get t.values i) (sym (no_table n w)) ∙ e in
    cc

abbrev pub begun : Tables → StoreParts
begun t = record {
  tables = t;
  rows = nothing_made (length t.classes);
  numbers = [];
  owners = system_heads 0 t.system;
  members = [];
  board = with_heads t.system empty_board;
}

begun_store : (t : Tables) → AreTables t → IsSound (begun t).board → IsStore (begun t)
begun_store t a s = let n = length t.classes in record {
  tables = a;
  sound = s;
  heads = length_system 0 t.system ∙ sym (length_rep {A = List ℕ} t.system []);
  seats = refl;
  numbers = refl;
  classes = length_rep n no_rows;
  rows = λ w. ap (λ (z : RowTable). length z.rows) (no_table n w)
      ∙ ap (λ (z : RowTable). length z.values) (sym (no_table n w));
  each = λ w i r e. absurd (no_row n w i r e);
  value_counts = λ w i r v e f. absurd (no_row n w i r e);
  values_in_range = λ w i v e. absurd (no_value n w i (Some v) e);
  made = λ c i r e. absurd (no_row n (Some c) i r e);
  stays = λ c i e. no_value n (Some c) i None e;
  not_permanent = λ i r e. cc;
  system = λ k lt. let z : 0 + k ≡ k = omega arith in get_system 0 t.system k lt
      ∙ λ j. Some (record { owner = System; list = z j; number = 0 });
  are_members = λ h u e.
      absurd (let bad : has [] u ≡ true = ap (λ l. has l u) (sym (list_more [] t.system h)) ∙ e in cc);
  few_made = λ c. let e : length (rows_in (nothing_made n) (Some c)).rows ≡ 0 =
      ap (λ (z : RowTable). length z.rows) (no_table n (Some c)) in omega (arith, e);
  few_references = omega arith;
  used_heads = let e = length_system 0 t.system in let f = used_none (λ (z : ClassShape). z.owned) t.classes n in
      omega (arith, e, f);
  used_seats = let f = used_none (λ (z : ClassShape). z.joined) t.classes n in omega (arith, f);
}

owned_none : (at : ℕ → List ℕ) (f n : ℕ) → ((j : ℕ) → at j ≡ []) → owned_from at f n ≡ replicate n []
owned_none at f zero s = refl
owned_none at f (suc n) s = λ i. s f i ∷ owned_none at (suc f) n s i

map_rep : {A B : Type 0} (f : A → B) (n : ℕ) (x : A) → map f (replicate n x) ≡ replicate n (f x)
map_rep f zero x = refl
map_rep f (suc n) x = ap (λ l. f x ∷ l) (map_rep f n x)

begun_value : (t : Tables) → value_of (begun t) ≡ empty_value t
begun_value t = let n = length t.classes in λ i. record {
  tables = t;
  state = record {
    made = map_rep (zip_table (made_with t.classes (numbers_under (begun t).board []))) n no_rows i;
    references = [];
    system = owned_none (numbers_under (begun t).board []) 0 t.system
        (λ j. ap (map (number_at [])) (list_more [] t.system j)) i;
  };
  kept = record {
    made = map_rep (λ (z : RowTable). z.rows) n no_rows i;
    references = [];
    heads = length_rep {A = List ℕ} t.system [] i;
    seats = 0;
  };
}

-- the values that the call holds
pub record Begins (t : Tables) (es : EntityTable) (ns : List ℕ) (b : Board) : Type 0 where
  pub rows : es ≡ nothing_made (length t.classes)
  pub numbers : ns ≡ []
  pub board : b ≡ with_heads t.system empty_board
  pub sound : IsSound b

pub begins : (t : Tables) (k : ℕ) (es : EntityTable) (ns : List ℕ) (b start : Board)
    → es ≡ record { made = replicate k no_rows; references = no_rows } → k ≡ length t.classes → ns ≡ []
    → b ≡ with_heads t.system start → start ≡ empty_board → IsSound b → Begins t es ns b
begins t k es ns b start ee ek el eb e0 s = record {
  rows = ee ∙ ap nothing_made ek;
  numbers = el;
  board = eb ∙ ap (with_heads t.system) e0;
  sound = s;
}

begun_with : (t : Tables) (es : EntityTable) (ns : List ℕ) (b : Board) → Begins t es ns b
    → record { tables = t; rows = es; numbers = ns; owners = system_heads 0 t.system; members = []; board = b }
    ≡ begun t
begun_with t es ns b d = λ i. record {
  tables = t;
  rows = d.rows i;
  numbers = d.numbers i;
  owners = system_heads 0 t.system;
  members = [];
  board = d.board i;
}

pub begins_pair : (t : Tables) (es : EntityTable) (ns : List ℕ) (b : Board) → AreTables t → Begins t es ns b
    → (ws : List HeadEntry) × (ms : List SeatEntry)
    × IsStore (record { tables = t; rows = es; numbers = ns; owners = ws; members = ms; board = b })
begins_pair t es ns b a d = (
  system_heads 0 t.system,
  [],
  subst IsStore (sym (begun_with t es ns b d)) (begun_store t a (subst IsSound d.board d.sound)),
)

pub begins_value : (t : Tables) (es : EntityTable) (ns : List ℕ) (b : Board) → Begins t es ns b
    → value_of (record { tables = t; rows = es; numbers = ns; owners = []; members = []; board = b }) ≡ empty_value t
begins_value t es ns b d = ap value_of (begun_with t es ns b d) ∙ begun_value t

-- the tables of a program
pub program_tables : (p : ProgramTable) (cs : List ClassShape) (ss : List SetShape) (sets rows : List SetTable)
    (n m : ℕ)
    → cs ≡ (tables_of p).classes → ss ≡ (tables_of p).sets → n ≡ owned_among System (take m rows) → rows ≡ sets
    → sets ≡ p.sets → m ≡ length sets → record { classes = cs; sets = ss; system = n } ≡ tables_of p
program_tables p cs ss sets rows n m ec es en er ep em =
    let system : n ≡ owned_among System p.sets = en ∙ (λ i. owned_among System (take (em i) (er i)))
    ∙ ap (owned_among System) (take-length sets) ∙ ap (owned_among System) ep in
    λ i. record { classes = ec i; sets = es i; system = system i }

pub program_fits : (p : ProgramTable) (t : Tables) → sound.HasSoundTables p → t ≡ tables_of p → AreTables t
program_fits p t s e = subst AreTables (sym e) (are_tables p s)
