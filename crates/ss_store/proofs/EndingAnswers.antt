-- The results of the calls that end an entity and bring it back.
use Rattle.std.proofs.Common.{◌≡◌, ℕ, ℤ, suc, ◌+◌, ◌-◌, ◌<◌, ◌==◌, ◌&&◌, List, length}
use Rattle.std.proofs.Common.{refl, ap, sym, subst, ◌∙◌, arith, slice_get, Option, Some}
use Rattle.std.proofs.Common.{None}
use Rattle.std.proofs.Common.{Bool, true, false, set}
use Rattle.std.specs.Global.{Vec}
use Rattle.std.specs.Prelude.{is_some, Result, Ok, Err}
use Rattle.std.specs.Option.{option_map}
use Rattle.std.specs.List.{list_any}
use Rattle.ss_words.specs.declared.fault.RunFault.{RunFault}
use Rattle.ss_words.specs.declared.fault.RunFault.TheVariants.{NoEntity, EndedInUse, EndedOwner}
use Rattle.ss_links.specs.Board.{list_at, head_of}
use Rattle.ss_store.specs.Order.{AreInOrder}
use Rattle.ss_store.specs.declared.change.StoreChange.TheVariants as change
use Rattle.ss_store.specs.declared.rows.Row.{Row}
use Rattle.ss_store.specs.declared.shape.SetShape.{SetShape}
use Rattle.ss_store.specs.declared.shape.ClassShape.{ClassShape}
use Rattle.ss_store.specs.Tables.{Tables, class_of}
use Rattle.ss_store.specs.Rows.{EntityTable, rows_in, row_of}
use Rattle.ss_store.specs.Store.{Store, entity, exists, is_member, is_filled, owns_members, without_reference}
use Rattle.ss_store.specs.Store.{AreInRange, without_entity, with_back, entity_back}
use Rattle.ss_store.specs.Invariant.{IsStore}
use Rattle.ss_store.specs.Parts.{StoreParts, HeadEntry, SeatEntry, numbers_under, owned_from}
use Rattle.ss_store.specs.Tables.{IsSet}
use Rattle.ss_store.specs.Value.{StoreValue}
use Rattle.ss_store.specs.Parts.{entity_with, reference_with, state_of, layout_of, value_of}
use Rattle.ss_store.specs.Making.{numbering_by, with_table}
use Rattle.ss_store.specs.Writing.{with_values}
use Rattle.ss_store.specs.Change.{FitsEnded, IsOutcome, Leaves}
use Rattle.ss_store.proofs.Core.{some_eq, found}
use Rattle.ss_store.proofs.OneListChanges.{zipped_some}
use Rattle.ss_store.proofs.Agree.{get_below, entity_is, reference_get, seat_below}
use Rattle.ss_store.proofs.MakingAnswers.{At}
use Rattle.ss_store.proofs.TakingOffAnswers.{its_table, unfilled}
use Rattle.ss_store.proofs.ValueWrites.{get_set, set_twice, set_same}
use Rattle.ss_store.proofs.ReferenceEnds.{put, put_state, is_back, Ends, ended_store, Ended, back_store, ended_empty}
use Rattle.ss_store.proofs.ReferenceEnds.{members_are}
use Rattle.ss_store.proofs.ReferenceEnds.{owns_is}

-- an entity with a reference, and its row and values
pub record Lives (g : StoreParts) (c k : ℕ) (r : Row) : Type 0 where
  pub index : ℕ
  pub number : k ≡ suc index
  pub row : slice_get g.rows.references.rows index ≡ Some r
  pub value : List ℤ
  pub was : slice_get g.rows.references.values index ≡ Some (Some value)
  pub class : r.class ≡ c

pub lives : (g : StoreParts) (v : StoreValue) (c k : ℕ) (shape : ClassShape) (r : Row) → At g v c shape
    → (class_of v.tables c).permanent ≡ false → row_of g.rows c k ≡ Some r → Lives g c k r
lives g v c k shape r a given e =
    let l = found g.rows c k r e in
    let no : shape.permanent ≡ false = ap (λ (z : ClassShape). z.permanent) (sym a.shaped)
    ∙ ap (λ (z : StoreValue). (class_of z.tables c).permanent) a.is ∙ given in
    let table : l.table ≡ None = its_table g v c k shape r a l ∙ ap (λ b. numbering_by b c) no in
    record {
      index = l.index;
      number = l.number;
      row = ap (λ z. slice_get (rows_in g.rows z).rows l.index) (sym table) ∙ l.row;
      value = l.value;
      was = ap (λ z. slice_get (rows_in g.rows z).values l.index) (sym table) ∙ l.there;
      class = l.class;
    }

-- ---- the requirements of the calls

pub seats_below : (g : StoreParts) (v : StoreValue) (c k : ℕ) (shape : ClassShape) (r : Row) (sets : List SetShape)
    → At g v c shape
    → row_of g.rows c k ≡ Some r → sets ≡ g.tables.sets → (p : SetShape) → IsSet sets p → p.member ≡ c
    → r.seat + p.slot < g.board.seats
seats_below g v c k shape r sets a e es p is class =
    let there = subst (λ (z : List SetShape). IsSet z p) es is in
    seat_below g p k (r.seat + p.slot) a.store there
    (ap (option_map (λ (q : Row). q.seat + p.slot)) (ap (λ d. row_of g.rows d k) class ∙ e))

pub heads_below : (g : StoreParts) (v : StoreValue) (c k : ℕ) (shape : ClassShape) (r : Row) → At g v c shape
    → row_of g.rows c k ≡ Some r → (j : ℕ) → j < shape.owned → r.head + j < length g.board.lists
heads_below g v c k shape r a e j lt =
    let l = found g.rows c k r e in
    let under : j < (class_of g.tables r.class).owned = subst (λ z. j < (class_of g.tables z).owned) (sym l.class)
    (subst (λ (z : ClassShape). j < z.owned) (sym a.shaped) lt) in
    let below = get_below g.owners (r.head + j) _ ((a.store.each l.table l.index r l.row).heads j under) in
    let heads = a.store.heads in omega (arith, below, heads)

pub index_below : (g : StoreParts) (c k n : ℕ) (r : Row) → Lives g c k r → n ≡ k - 1 → n
    < length g.rows.references.values
index_below g c k n r l e =
    let below = get_below g.rows.references.values l.index _ l.was in let at = l.number in omega (arith, e, at, below)

-- ---- faults

-- a result that holds for the parts holds for the value
abbrev pub Says : StoreValue → ℕ → ℕ → Result Store RunFault → Type 0
Says v c k r = without_entity v.tables v.state c k ≡ r

pub end_fault : (v : StoreValue) (c k m : ℕ) (f : RunFault) → k ≡ m → Says v c k (Err f)
    → IsOutcome (Err f) (without_entity v.tables v.state c m) v v
end_fault v c k m f e s = rw (ap (without_entity v.tables v.state c) (sym e) ∙ s) (refl, refl)

pub none_ends : (g : StoreParts) (v : StoreValue) (c k : ℕ) → value_of g ≡ v → IsStore g → row_of g.rows c k ≡ None
    → Says v c k (Err NoEntity)
none_ends g v c k is s e = subst (λ (z : StoreValue). Says z c k (Err NoEntity)) is
    (let no : exists (state_of g) c k ≡ false = entity_is g c k s ∙ ap is_some e in rw no refl)

-- the test of the first loop
abbrev pub stands : StoreParts → ℕ → Row → SetShape → Bool
stands g c r p = (p.member == c) && is_some (head_of g.board.lists (r.seat + p.slot))

is_member_is : (g : StoreParts) (c k : ℕ) (r : Row) (b : Bool) (sets : List SetShape) → IsStore g → row_of g.rows c k
    ≡ Some r
    → sets ≡ g.tables.sets → b ≡ list_any (stands g c r) sets → is_member g.tables.sets (state_of g) c k ≡ b
is_member_is g c k r b sets s e es eb =
    sym (eb ∙ ap (list_any (stands g c r)) es ∙ members_are g c k r g.tables.sets s e (λ i p f. (i, f)))

pub member_stays : (g : StoreParts) (v : StoreValue) (c k : ℕ) (r : Row) (b : Bool) (sets : List SetShape) → value_of g
    ≡ v
    → IsStore g → row_of g.rows c k ≡ Some r → sets ≡ g.tables.sets → b ≡ list_any (stands g c r) sets → b ≡ true
    → Says v c k (Err EndedInUse)
member_stays g v c k r b sets is s e es eb t = subst (λ (z : StoreValue). Says z c k (Err EndedInUse)) is
    (let there : exists (state_of g) c k ≡ true = entity_is g c k s ∙ ap is_some e in
    let in_use = is_member_is g c k r b sets s e es eb ∙ t in rw (there, in_use) refl)

owns_by : (g : StoreParts) (c k : ℕ) (r : Row) (shape : ClassShape) (b : Bool) → IsStore g → row_of g.rows c k ≡ Some r
    → class_of g.tables c ≡ shape → b ≡ list_any is_filled (owned_from (list_at g.board.lists) r.head shape.owned)
    → owns_members (entity (state_of g) c k) ≡ b
owns_by g c k r shape b s e es eb =
    sym (eb ∙ owns_is g c k shape.owned r s e (ap (λ (z : ClassShape). z.owned) (sym es)))

pub owner_stays : (g : StoreParts) (v : StoreValue) (c k : ℕ) (r : Row) (shape : ClassShape) (a b : Bool)
    (sets : List SetShape)
    → At g v c shape → row_of g.rows c k ≡ Some r → sets ≡ g.tables.sets → a ≡ list_any (stands g c r) sets → a ≡ false
    → b ≡ list_any is_filled (owned_from (list_at g.board.lists) r.head shape.owned) → b ≡ true
    → Says v c k (Err EndedOwner)
owner_stays g v c k r shape a b sets at e es ea f eb t =
    subst (λ (z : StoreValue). Says z c k (Err EndedOwner)) at.is
    (let there : exists (state_of g) c k ≡ true = entity_is g c k at.store ∙ ap is_some e in
    let out = is_member_is g c k r a sets at.store e es ea ∙ f in
    let owns = owns_by g c k r shape b at.store e at.shaped eb ∙ t in rw (there, out, owns) refl)

-- ---- ended

-- the results of the two loops, and the parts after them
pub record Found_out (g : StoreParts) (v : StoreValue) (c k : ℕ) (shape : ClassShape) (r : Row) : Type 0 where
  pub at : At g v c shape
  pub not_permanent : (class_of v.tables c).permanent ≡ false
  pub row : row_of g.rows c k ≡ Some r
  pub out : is_member g.tables.sets (state_of g) c k ≡ false
  pub none : list_any is_filled (owned_from (list_at g.board.lists) r.head shape.owned) ≡ false

pub found_out : (g : StoreParts) (v : StoreValue) (c k : ℕ) (r : Row) (shape : ClassShape) (a b : Bool)
    (sets : List SetShape)
    → At g v c shape → (class_of v.tables c).permanent ≡ false → row_of g.rows c k ≡ Some r → sets ≡ g.tables.sets
    → a ≡ list_any (stands g c r) sets → a ≡ false
    → b ≡ list_any is_filled (owned_from (list_at g.board.lists) r.head shape.owned) → b ≡ false
    → Found_out g v c k shape r
found_out g v c k r shape a b sets at given e es ea f eb none = record {
  at = at;
  not_permanent = given;
  row = e;
  out = is_member_is g c k r a sets at.store e es ea ∙ f;
  none = sym eb ∙ none;
}

ends : (g : StoreParts) (v : StoreValue) (c k : ℕ) (shape : ClassShape) (r : Row) → Found_out g v c k shape r
    → (l : Lives g c k r)
    → Ends g l.index r
ends g v c k shape r d l = record {
  row = l.row;
  free = (λ i. is_member g.tables.sets (state_of g) (l.class i) (sym l.number i)) ∙ d.out;
  empty = λ j lt.
      let owned : (class_of g.tables r.class).owned ≡ shape.owned = ap (λ z. (class_of g.tables z).owned) l.class
      ∙ ap (λ (z : ClassShape). z.owned) d.at.shaped in
      unfilled (list_at g.board.lists) r.head shape.owned d.none j (subst (λ n. j < n) owned lt);
}

-- the parts once the values were taken out
put_is : (g : StoreParts) (c k n : ℕ) (r : Row) (u : Option (List ℤ)) (es : EntityTable) → n ≡ k - 1 → (i : ℕ) → k
    ≡ suc i
    → es ≡ with_table (with_values n u) g.rows None → record g { rows = es } ≡ put g i u
put_is g c k n r u es e i number f =
    let at : n ≡ i = omega (arith, e, number) in
    λ j. record g { rows = (f ∙ ap (λ z. with_table (with_values z u) g.rows None) at) j }

pub ended_pair : (g : StoreParts) (v : StoreValue) (c k n : ℕ) (shape : ClassShape) (r : Row) (es : EntityTable)
    → Found_out g v c k shape r → n ≡ k - 1 → es ≡ with_table (with_values n None) g.rows None
    → (fs : List Bool) → AreInOrder (record g { rows = es }) fs
    → (ws : List HeadEntry) × (ms : List SeatEntry) × IsStore (record {
      tables = g.tables;
      rows = es;
      numbers = g.numbers;
      owners = ws;
      members = ms;
      board = g.board;
    }) × AreInOrder (record {
      tables = g.tables;
      rows = es;
      numbers = g.numbers;
      owners = ws;
      members = ms;
      board = g.board;
    }) fs
ended_pair g v c k n shape r es d e f fs o =
    let l = lives g v c k shape r d.at d.not_permanent d.row in
    let is = put_is g c k n r None es e l.index l.number f in
    (g.owners, g.members, subst IsStore (sym is) (ended_store g l.index r d.at.store (ends g v c k shape r d l)), o)

leaves : (g : StoreParts) (v : StoreValue) (c k n : ℕ) (shape : ClassShape) (r : Row) (values : Vec ℤ)
    → Found_out g v c k shape r
    → (l : Lives g c k r) → l.value ≡ values.items
    → Leaves (change.Ended c k shape.owned values) (without_reference (state_of g) k) (value_of g)
    (value_of (put g l.index None))
leaves g v c k n shape r values d l ev =
    let refs = (state_of g).references in
    let back = ends g v c k shape r d l in
    let at : k - 1 ≡ l.index = let e = l.number in omega (arith, e) in
    let state = put_state g l.index r None l.row in
    let was = reference_get g l.index r (Some l.value) l.row l.was in
    let gone : slice_get (set refs (k - 1) None) (k - 1) ≡ Some None =
    get_set refs (k - 1) None _ (ap (slice_get refs) at ∙ was) in
    let owned : shape.owned ≡ (class_of g.tables r.class).owned = ap (λ (z : ClassShape). z.owned) (sym d.at.shaped)
    ∙ ap (λ z. (class_of g.tables z).owned) (sym l.class) in
    let now : state_of (put g l.index None) ≡ without_reference (state_of g) k =
    state ∙ (λ i. record (state_of g) { references = set refs (sym at i) None }) in
    let mine : entity_with g.tables.classes (numbers_under g.board g.numbers) r l.value
    ≡ entity_back c shape.owned values.items =
    is_back g r l.value back.empty ∙ (λ i. entity_back (l.class i) (sym owned i) (ev i)) in
    record {
      state = now;
      fits = record {
        is_class = d.at.below;
        not_permanent = ap (λ (z : ClassShape). z.permanent) d.at.shaped
            ∙ ap (λ (z : ClassShape). z.permanent) (sym d.at.shaped)
            ∙ ap (λ (z : StoreValue). (class_of z.tables c).permanent) d.at.is ∙ d.not_permanent;
        number = let e = l.number in omega (arith, e);
        gone = ap (λ (z : Store). slice_get z.references (k - 1)) now ∙ gone;
        row = ap (λ z. option_map (λ (q : Row). q.class) (slice_get g.rows.references.rows z)) at
            ∙ ap (option_map (λ (q : Row). q.class)) l.row ∙ ap Some l.class;
        owned_sets = ap (λ (z : ClassShape). z.owned) (sym d.at.shaped);
        values = ap (length {A = ℤ}) (sym ev) ∙ d.at.store.value_counts None l.index r l.value l.row l.was
            ∙ ap (λ z. (class_of g.tables z).attributes) l.class;
        values_in_range = subst AreInRange ev (d.at.store.values_in_range None l.index l.value l.was);
      };
      back = λ i. record {
        tables = g.tables;
        state = ((λ j. with_back (now j) k (entity_back c shape.owned values.items))
            ∙ (λ j. record (state_of g) {
              references =
                  (set_twice refs (k - 1) None (Some (entity_back c shape.owned values.items))
                  ∙ set_same refs (k - 1) (Some (entity_back c shape.owned values.items)) (ap (slice_get refs) at ∙ was
                  ∙ ap (λ z. Some (Some z)) mine)) j;
            })) i;
        kept = layout_of g;
      };
    }

ends_ok : (st : Store) (t : Tables) (c k : ℕ) → exists st c k ≡ true → is_member t.sets st c k ≡ false
    → owns_members (entity st c k) ≡ false → without_entity t st c k ≡ Ok (without_reference st k)
ends_ok st t c k a b d = rw (a, b, d) refl

pub ended_outcome : (g : StoreParts) (v : StoreValue) (c k m n : ℕ) (shape : ClassShape) (r : Row) (es : EntityTable)
    (values : Vec ℤ)
    → (d : Found_out g v c k shape r) → n ≡ k - 1 → es ≡ with_table (with_values n None) g.rows None
    → slice_get g.rows.references.values n ≡ Some (Some values.items) → k ≡ m
    → IsOutcome (Ok (change.Ended c k shape.owned values)) (without_entity v.tables v.state c m) v (value_of (record {
      tables = g.tables;
      rows = es;
      numbers = g.numbers;
      owners = g.owners;
      members = g.members;
      board = g.board;
    }))
ended_outcome g v c k m n shape r es values d e f was em =
    let l = lives g v c k shape r d.at d.not_permanent d.row in
    let is = put_is g c k n r None es e l.index l.number f in
    let at : n ≡ l.index = let number = l.number in omega (arith, e, number) in
    let value : l.value ≡ values.items = some_eq
    (some_eq (sym l.was ∙ ap (slice_get g.rows.references.values) (sym at) ∙ was)) in
    let there : exists (state_of g) c k ≡ true = entity_is g c k d.at.store ∙ ap is_some d.row in
    let none = owns_by g c k r shape false d.at.store d.row d.at.shaped (sym d.none) in
    let ok = ends_ok (state_of g) g.tables c k there d.out none in
    let all = leaves g v c k n shape r values d l value in
    let mine : IsOutcome (Ok (change.Ended c k shape.owned values)) (without_entity g.tables (state_of g) c k)
    (value_of g)
    (value_of (put g l.index None)) = rw ok all in
    let here = subst (λ (z : StoreParts). IsOutcome (Ok (change.Ended c k shape.owned values))
    (without_entity g.tables (state_of g) c k) (value_of g) (value_of z)) (sym is) mine in
    subst (λ z. IsOutcome (Ok (change.Ended c k shape.owned values)) (without_entity v.tables v.state c z) v
    (value_of (record g { rows = es }))) em
    (subst (λ (z : StoreValue). IsOutcome (Ok (change.Ended c k shape.owned values))
    (without_entity z.tables z.state c k) z
    (value_of (record g { rows = es }))) d.at.is here)

-- the values that were taken out
pub taken_out : {V : Type 0} (f : V → List ℤ) (o : Option V) (q : V) (x : Option (Option (List ℤ)))
    → x ≡ Some (option_map f o) → o ≡ Some q → x ≡ Some (Some (f q))
taken_out f o q x e h = e ∙ ap (λ z. Some (option_map f z)) h

-- ---- brought back

-- a reference that has ended, and its row
pub record Lay (g : StoreParts) (c k : ℕ) : Type 0 where
  pub index : ℕ
  pub number : k ≡ suc index
  pub row : Row
  pub ended : Ended g index row
  pub class : row.class ≡ c

reference_none : (cs : List ClassShape) (at : ℕ → List ℕ) (r : Row) (v : Option (List ℤ))
    → reference_with cs at r v ≡ None
    → v ≡ None
reference_none cs at r None e = refl
reference_none cs at r (Some v) e = cc

lay_at : (g : StoreParts) (c k i n : ℕ) (xs : List ℤ) → k ≡ suc i → FitsEnded (value_of g) c k n xs → Lay g c k
lay_at g c k i n xs e f =
    let at : k - 1 ≡ i = omega (arith, e) in
    let refs = (state_of g).references in
    let z = zipped_some (reference_with g.tables.classes (numbers_under g.board g.numbers)) g.rows.references.rows
    g.rows.references.values i None (ap (slice_get refs) (sym at) ∙ f.gone) in
    record {
      index = i;
      number = e;
      row = z.0;
      ended = record {
        row = z.2;
        none = z.3 ∙ ap Some (reference_none g.tables.classes (numbers_under g.board g.numbers) z.0 z.1 z.4);
      };
      class = some_eq (ap (option_map (λ (q : Row). q.class)) (sym z.2)
          ∙ ap (λ j. option_map (λ (q : Row). q.class) (slice_get g.rows.references.rows j)) (sym at) ∙ f.row);
    }

pub lay : (g : StoreParts) (v : StoreValue) (c k n : ℕ) (xs : List ℤ) → value_of g ≡ v → IsStore g
    → FitsEnded v c k n xs
    → Lay g c k
lay g v c k n xs is s f =
    let here = subst (λ (z : StoreValue). FitsEnded z c k n xs) (sym is) f in
    let low = here.number in
    lay_at g c k (k - 1) n xs (omega (arith, low)) here

pub lay_below : (g : StoreParts) (c k n : ℕ) → Lay g c k → n ≡ k - 1 → n < length g.rows.references.values
lay_below g c k n l e =
    let below = get_below g.rows.references.values l.index _ l.ended.none in
    let at = l.number in omega (arith, e, at, below)

pub back_pair : (g : StoreParts) (v : StoreValue) (c k n o : ℕ) (xs : List ℤ) (es : EntityTable) → value_of g ≡ v
    → IsStore g
    → FitsEnded v c k o xs → Lay g c k → n ≡ k - 1 → es ≡ with_table (with_values n (Some xs)) g.rows None
    → (ws : List HeadEntry) × (ms : List SeatEntry) × IsStore (record {
      tables = g.tables;
      rows = es;
      numbers = g.numbers;
      owners = ws;
      members = ms;
      board = g.board;
    })
back_pair g v c k n o xs es is s f l e h =
    let here = subst (λ (z : StoreValue). FitsEnded z c k o xs) (sym is) f in
    let long = here.values ∙ ap (λ z. (class_of g.tables z).attributes) (sym l.class) in
    let same = put_is g c k n l.row (Some xs) es e l.index l.number h in
    (g.owners, g.members, subst IsStore (sym same) (back_store g l.index l.row xs s l.ended long here.values_in_range))

pub back_value : (g : StoreParts) (v : StoreValue) (c k n : ℕ) (xs : List ℤ) (es : EntityTable) → value_of g ≡ v
    → IsStore g
    → Lay g c k → n ≡ k - 1 → es ≡ with_table (with_values n (Some xs)) g.rows None
    → value_of (record {
      tables = g.tables;
      rows = es;
      numbers = g.numbers;
      owners = g.owners;
      members = g.members;
      board = g.board;
    }) ≡ record {
      tables = v.tables;
      state = with_back v.state k (entity_back c (class_of v.tables c).owned xs);
      kept = v.kept;
    }
back_value g v c k n xs es is s l e h =
    let same = put_is g c k n l.row (Some xs) es e l.index l.number h in
    let at : l.index ≡ k - 1 = let number = l.number in omega (arith, number) in
    let mine : entity_with g.tables.classes (numbers_under g.board g.numbers) l.row xs
    ≡ entity_back c (class_of g.tables c).owned xs =
    is_back g l.row xs (ended_empty g l.index l.row s l.ended)
    ∙ (λ i. entity_back (l.class i) (class_of g.tables (l.class i)).owned xs) in
    let state : state_of (put g l.index (Some xs))
    ≡ with_back (state_of g) k (entity_back c (class_of g.tables c).owned xs) =
    put_state g l.index l.row (Some xs) l.ended.row
    ∙ (λ i. record (state_of g) { references = set (state_of g).references (at i) (Some (mine i)) }) in
    ap value_of same ∙ (λ i. record { tables = g.tables; state = state i; kept = layout_of g })
    ∙ ap (λ (z : StoreValue). record {
      tables = z.tables;
      state = with_back z.state k (entity_back c (class_of z.tables c).owned xs);
      kept = z.kept;
    }) is
