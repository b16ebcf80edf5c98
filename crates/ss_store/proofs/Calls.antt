-- The results of FILE.
use Rattle.std.proofs.Common.{◌≡◌, ℕ, ◌<◌, ◌^◌, List, length, map, refl, ap, sym, subst, ◌∙◌, arith, slice_get}
use Rattle.std.proofs.Common.{slice_index_or, Option, Some, None}
use Rattle.std.specs.Prelude.{Result, Ok, Err, is_some, unwrap_or}
use Rattle.ss_words.specs.declared.fault.RunFault.{RunFault}
use Rattle.ss_words.specs.declared.fault.RunFault.TheVariants.{NoEntity, AlreadyInSet}
use Rattle.ss_links.specs.Board.{Board, IsSound, CanRelink, list_at, head_of, after_relink}
use Rattle.ss_links.specs.Seats.{has, put_at}
use Rattle.ss_store.specs.declared.shape.SetShape.{SetShape}
use Rattle.ss_store.specs.declared.shape.How.{How}
use Rattle.ss_store.specs.declared.shape.How.TheVariants.{ByRule, First, Last, Before, After}
use Rattle.ss_store.specs.declared.places.Spot.{Spot}
use Rattle.ss_store.specs.declared.change.StoreChange.{StoreChange}
use Rattle.ss_store.specs.declared.change.StoreChange.TheVariants.{Filed}
use Rattle.ss_store.specs.Tables.{Tables, no_set, set_of}
use Rattle.ss_store.specs.Store.{Store, number_of, with_list, members_of, is_owner}
use Rattle.ss_store.specs.Filing.{after_filing, filed_in}
use Rattle.ss_store.specs.Change.{IsOutcome, Leaves}
use Rattle.ss_store.specs.Finding.{SpotBelow}
use Rattle.ss_store.specs.Invariant.{IsStore}
use Rattle.ss_store.specs.Parts.{StoreParts, head_at, seat_at, layout_of, state_of}
use Rattle.ss_store.specs.Tables.{IsSet}
use Rattle.ss_store.specs.Value.{StoreValue}
use Rattle.ss_store.specs.Finding.{spot_before, spot_after, spot_by, place_by}
use Rattle.ss_store.specs.Parts.{value_of, number_at}
use Rattle.ss_store.proofs.Boards.{relisted_set}
use Rattle.ss_store.proofs.Agree.{get_read, owner_is, member_is, is_filed_is, head_below, seat_below}
use Rattle.ss_store.proofs.FilingChanges.{Spots, Puts, placed, unplaced, spotted, unspotted, put_store, put_state}
use Rattle.ss_store.proofs.FilingChanges.{put_back}
use Rattle.ss_store.proofs.FilingChanges.{put_stands, spot_eq, filed_ok, no_owner, no_member, none_named, already}
use Rattle.ss_store.proofs.FilingChanges.{not_there}

-- a call on a set of a store
pub record Case (g : StoreParts) (v : StoreValue) (set : ℕ) (rule : SetShape) : Type 0 where
  pub is : value_of g ≡ v
  pub store : IsStore g
  pub is_set : IsSet g.tables.sets rule
  pub at : set_of v.tables set ≡ rule
  pub below : set < length v.tables.sets

pub case_of : (g : StoreParts) (v : StoreValue) (set : ℕ) (rule : SetShape) → value_of g ≡ v → IsStore g
    → set < length v.tables.sets → rule ≡ slice_index_or g.tables.sets set rule → Case g v set rule
case_of g v set rule w s lt e =
    let sets : g.tables.sets ≡ v.tables.sets = ap (λ (z : StoreValue). z.tables.sets) w in
    let under : set < length g.tables.sets = subst (λ (z : List SetShape). set < length z) (sym sets) lt in
    let there = get_read g.tables.sets set rule under e in
    record {
      is = w;
      store = s;
      is_set = (set, there);
      below = lt;
      at = ap (λ z. unwrap_or (slice_get z set) no_set) (sym sets) ∙ ap (λ z. unwrap_or z no_set) there;
    }

pub head_small : (g : StoreParts) (v : StoreValue) (set : ℕ) (rule : SetShape) (o n : ℕ) → Case g v set rule
    → n ≡ length g.board.lists → n < 2 ^ 32 → (h : ℕ) → head_at g.rows rule o ≡ Some h → h < 2 ^ 32
head_small g v set rule o n k e lt h w = let b = head_below g rule o h k.store k.is_set w in omega (arith, b, e, lt)

pub seat_small : (g : StoreParts) (v : StoreValue) (set : ℕ) (rule : SetShape) (n : ℕ) → Case g v set rule → n
    ≡ g.board.seats
    → n < 2 ^ 32 → (x t : ℕ) → seat_at g.rows rule x ≡ Some t → t < 2 ^ 32
seat_small g v set rule n k e lt x t w = let b = seat_below g rule x t k.store k.is_set w in omega (arith, b, e, lt)

-- a value that is read from the state and the set is the value that the caller sees
pub over : {A : Type 0} (g : StoreParts) (v : StoreValue) (set : ℕ) (rule : SetShape) (f : SetShape → Store → A) (r : A)
    → Case g v set rule → f rule (state_of g) ≡ r → f (set_of v.tables set) v.state ≡ r
over g v set rule f r k e = ap (λ z. f z v.state) k.at ∙ ap (λ (z : StoreValue). f rule z.state) (sym k.is) ∙ e

-- a fault changes nothing
pub faulted : (s : Result Store RunFault) (e : RunFault) (v : StoreValue) → s ≡ Err e → IsOutcome (Err e) s v v
faulted s e v w = rw w (refl, refl)

pub file_no_owner : (g : StoreParts) (v : StoreValue) (set : ℕ) (rule : SetShape) (o x : ℕ) (how : How)
    → Case g v set rule
    → head_at g.rows rule o ≡ None → IsOutcome (Err NoEntity) (after_filing (set_of v.tables set) v.state o x how) v v
file_no_owner g v set rule o x how k e =
    faulted _ NoEntity v (over g v set rule (λ r s. after_filing r s o x how) (Err NoEntity) k
    (no_owner rule (state_of g) o x how (owner_is g rule o k.store ∙ ap is_some e)))

pub file_no_member : (g : StoreParts) (v : StoreValue) (set : ℕ) (rule : SetShape) (o x h : ℕ) (how : How)
    → Case g v set rule
    → head_at g.rows rule o ≡ Some h → seat_at g.rows rule x ≡ None
    → IsOutcome (Err NoEntity) (after_filing (set_of v.tables set) v.state o x how) v v
file_no_member g v set rule o x h how k e f =
    faulted _ NoEntity v (over g v set rule (λ r s. after_filing r s o x how) (Err NoEntity) k
    (no_member rule (state_of g) o x how (owner_is g rule o k.store ∙ ap is_some e) (member_is g rule x k.store
    ∙ ap is_some f)))

pub spots : (g : StoreParts) (v : StoreValue) (set : ℕ) (rule : SetShape) (o x h t : ℕ) → Case g v set rule
    → head_at g.rows rule o ≡ Some h → seat_at g.rows rule x ≡ Some t → Spots g rule o x h t
spots g v set rule o x h t k e f = record { store = k.store; is_set = k.is_set; head = e; seat = f }

pub file_none_named : (g : StoreParts) (v : StoreValue) (set : ℕ) (rule : SetShape) (o x h t : ℕ) (how : How)
    (d : RunFault)
    → Case g v set rule → head_at g.rows rule o ≡ Some h → seat_at g.rows rule x ≡ Some t
    → spot_by g.rows rule how ≡ Err d → IsOutcome (Err d) (after_filing (set_of v.tables set) v.state o x how) v v
file_none_named g v set rule o x h t how d k e f w =
    let u = unspotted g rule how d k.store w in
    faulted _ d v (over g v set rule (λ r s. after_filing r s o x how) (Err d) k
    (none_named rule (state_of g) o x how (owner_is g rule o k.store ∙ ap is_some e) (member_is g rule x k.store
    ∙ ap is_some f) u.1 ∙ ap Err (sym u.0)))

pub file_already : (g : StoreParts) (v : StoreValue) (set : ℕ) (rule : SetShape) (o x h t j : ℕ) (how : How) (sp : Spot)
    → Case g v set rule → head_at g.rows rule o ≡ Some h → seat_at g.rows rule x ≡ Some t
    → spot_by g.rows rule how ≡ Ok sp → head_of g.board.lists t ≡ Some j
    → IsOutcome (Err AlreadyInSet) (after_filing (set_of v.tables set) v.state o x how) v v
file_already g v set rule o x h t j how sp k e f w q =
    faulted _ AlreadyInSet v (over g v set rule (λ r s. after_filing r s o x how) (Err AlreadyInSet) k
    (already rule (state_of g) o x how (owner_is g rule o k.store ∙ ap is_some e) (member_is g rule x k.store
    ∙ ap is_some f) (spotted g rule how sp k.store w) (is_filed_is g rule t x k.store k.is_set f ∙ ap is_some q)))

pub file_not_there : (g : StoreParts) (v : StoreValue) (set : ℕ) (rule : SetShape) (o x h t : ℕ) (how : How) (sp : Spot)
    (d : RunFault) → Case g v set rule → head_at g.rows rule o ≡ Some h → seat_at g.rows rule x ≡ Some t
    → spot_by g.rows rule how ≡ Ok sp → head_of g.board.lists t ≡ None
    → place_by g.rows g.numbers g.board.lists rule h x sp ≡ Err d
    → IsOutcome (Err d) (after_filing (set_of v.tables set) v.state o x how) v v
file_not_there g v set rule o x h t how sp d k e f w q z =
    let u = unplaced g rule o x h t d how sp (spots g v set rule o x h t k e f) w z in
    faulted _ d v (over g v set rule (λ r s. after_filing r s o x how) (Err d) k
    (not_there rule (state_of g) o x how (owner_is g rule o k.store ∙ ap is_some e) (member_is g rule x k.store
    ∙ ap is_some f) (spotted g rule how sp k.store w) (is_filed_is g rule t x k.store k.is_set f ∙ ap is_some q) u.1
    ∙ ap Err (sym u.0)))

-- the seat that BEFORE or AFTER names is one of the board
before_below : (g : StoreParts) (rule : SetShape) (y : ℕ) (q : Option ℕ) (sp : Spot) → IsStore g
    → IsSet g.tables.sets rule
    → seat_at g.rows rule y ≡ q → spot_before q ≡ Ok sp → SpotBelow sp g.board.seats
before_below g rule y None sp s is w e = absurd cc
before_below g rule y (Some t) sp s is w e =
    subst (λ z. SpotBelow z g.board.seats) (spot_eq e) (seat_below g rule y t s is w)

after_below : (g : StoreParts) (rule : SetShape) (y : ℕ) (q : Option ℕ) (sp : Spot) → IsStore g
    → IsSet g.tables.sets rule
    → seat_at g.rows rule y ≡ q → spot_after q ≡ Ok sp → SpotBelow sp g.board.seats
after_below g rule y None sp s is w e = absurd cc
after_below g rule y (Some t) sp s is w e =
    subst (λ z. SpotBelow z g.board.seats) (spot_eq e) (seat_below g rule y t s is w)

pub spot_below : (g : StoreParts) (rule : SetShape) (how : How) (sp : Spot) → IsStore g → IsSet g.tables.sets rule
    → spot_by g.rows rule how ≡ Ok sp → SpotBelow sp g.board.seats
spot_below g rule First sp s is e = subst (λ z. SpotBelow z g.board.seats) (spot_eq e) tt
spot_below g rule Last sp s is e = subst (λ z. SpotBelow z g.board.seats) (spot_eq e) tt
spot_below g rule ByRule sp s is e = subst (λ z. SpotBelow z g.board.seats) (spot_eq e) tt
spot_below g rule (Before y) sp s is e =
    before_below g rule (number_of y) (seat_at g.rows rule (number_of y)) sp s is refl e
spot_below g rule (After y) sp s is e = after_below g rule (number_of y) (seat_at g.rows rule (number_of y)) sp s is
    refl e

pub can_relink : (g : StoreParts) (v : StoreValue) (set : ℕ) (rule : SetShape) (o x h t : ℕ) (p : Option ℕ) (how : How)
    (sp : Spot) → Case g v set rule → head_at g.rows rule o ≡ Some h → seat_at g.rows rule x ≡ Some t
    → spot_by g.rows rule how ≡ Ok sp → head_of g.board.lists t ≡ None
    → place_by g.rows g.numbers g.board.lists rule h x sp ≡ Ok p → CanRelink g.board t (record { head = h; before = p })
can_relink g v set rule o x h t p how sp k e f w free q = record {
  is_seat = seat_below g rule x t k.store k.is_set f;
  is_free = free;
  is_head = head_below g rule o h k.store k.is_set e;
  is_there = (placed g rule o x h t p how sp (spots g v set rule o x h t k e f) w q).before;
}

pub puts : (g : StoreParts) (v : StoreValue) (new : Board) (set : ℕ) (rule : SetShape) (o x h t : ℕ) (p : Option ℕ)
    (how : How) (sp : Spot) → Case g v set rule → head_at g.rows rule o ≡ Some h → seat_at g.rows rule x ≡ Some t
    → spot_by g.rows rule how ≡ Ok sp → head_of g.board.lists t ≡ None
    → place_by g.rows g.numbers g.board.lists rule h x sp ≡ Ok p
    → new ≡ after_relink g.board t (record { head = h; before = p }) → IsSound new
    → Puts g new rule o x h t (put_at (list_at g.board.lists h) p t) p
puts g v new set rule o x h t p how sp k e f w free q is sound = record {
  store = k.store;
  is_set = k.is_set;
  head = e;
  seat = f;
  free = free;
  relisted = relisted_set g.board new h (put_at (list_at g.board.lists h) p t)
      (head_below g rule o h k.store k.is_set e) is sound;
  put = refl;
  before = (placed g rule o x h t p how sp (spots g v set rule o x h t k e f) w q).before;
}

pub file_store : (g : StoreParts) (v : StoreValue) (new : Board) (set : ℕ) (rule : SetShape) (o x h t : ℕ)
    (p : Option ℕ)
    (how : How) (sp : Spot) → Case g v set rule → head_at g.rows rule o ≡ Some h → seat_at g.rows rule x ≡ Some t
    → spot_by g.rows rule how ≡ Ok sp → head_of g.board.lists t ≡ None
    → place_by g.rows g.numbers g.board.lists rule h x sp ≡ Ok p
    → new ≡ after_relink g.board t (record { head = h; before = p }) → IsSound new → IsStore (record g { board = new })
file_store g v new set rule o x h t p how sp k e f w free q is sound =
    put_store g new rule o x h t _ p (puts g v new set rule o x h t p how sp k e f w free q is sound)

-- the kept part stays if one list is replaced
pub kept_same : (g : StoreParts) (new : Board) → length new.lists ≡ length g.board.lists → new.seats ≡ g.board.seats
    → layout_of (record g { board = new }) ≡ layout_of g
kept_same g new e f = λ i. record {
  made = (layout_of g).made;
  references = (layout_of g).references;
  heads = e i;
  seats = f i;
}

left_filed : (g : StoreParts) (new : Board) (set : ℕ) (rule : SetShape) (o x h t : ℕ) (m l : List ℕ) (p : Option ℕ)
    → Puts g new rule o x h t m p → set < length g.tables.sets → set_of g.tables set ≡ rule
    → l ≡ map (number_at g.numbers) m
    → Leaves (Filed set rule.owner rule.list o x) (with_list rule (state_of g) o l) (value_of g)
    (value_of (record g { board = new }))
left_filed g new set rule o x h t m l p d lt at e = record {
  state = put_state g new rule o x h t m p d ∙ ap (with_list rule (state_of g) o) (sym e);
  fits = record {
    is_set = lt;
    owner = ap (λ (z : SetShape). z.owner) (sym at);
    list = ap (λ (z : SetShape). z.list) (sym at);
    is_owner = ap (λ z. is_owner z (state_of (record g { board = new })) o) at
        ∙ owner_is (record g { board = new }) rule o (put_store g new rule o x h t m p d) ∙ ap is_some d.head;
    stands = ap (λ z. has (members_of z (state_of (record g { board = new })) o) x) at
        ∙ put_stands g new rule o x h t m p d;
  };
  back = λ i. record {
    tables = g.tables;
    state = put_back g new rule o x h t m p d i;
    kept = kept_same g new d.relisted.heads d.relisted.seats i;
  };
}

pub file_left : (g : StoreParts) (v : StoreValue) (new : Board) (set : ℕ) (rule : SetShape) (o x h t : ℕ) (p : Option ℕ)
    (how : How) (sp : Spot) → Case g v set rule → head_at g.rows rule o ≡ Some h → seat_at g.rows rule x ≡ Some t
    → spot_by g.rows rule how ≡ Ok sp → head_of g.board.lists t ≡ None
    → place_by g.rows g.numbers g.board.lists rule h x sp ≡ Ok p
    → new ≡ after_relink g.board t (record { head = h; before = p }) → IsSound new
    → IsOutcome (Ok (Filed set rule.owner rule.list o x)) (after_filing (set_of v.tables set) v.state o x how) v
    (value_of (record g { board = new }))
file_left g v new set rule o x h t p how sp k e f w free q is sound =
    let d = puts g v new set rule o x h t p how sp k e f w free q is sound in
    let l = placed g rule o x h t p how sp (spots g v set rule o x h t k e f) w q in
    let tables : g.tables ≡ v.tables = ap (λ (z : StoreValue). z.tables) k.is in
    let ok = filed_ok rule (state_of g) o x how _ (owner_is g rule o k.store ∙ ap is_some e) (member_is g rule x k.store
    ∙ ap is_some f) l.named (is_filed_is g rule t x k.store k.is_set f ∙ ap is_some free) l.there refl in
    rw (over g v set rule (λ r s. after_filing r s o x how) _ k ok)
    (subst (λ (z : StoreValue). Leaves (Filed set rule.owner rule.list o x)
    (with_list rule (state_of g) o (filed_in rule (state_of g) how x (members_of rule (state_of g) o))) z
    (value_of (record g { board = new }))) k.is
    (left_filed g new set rule o x h t _ _ p d (subst (λ (z : Tables). set < length z.sets) (sym tables) k.below)
    (ap (λ z. set_of z set) tables ∙ k.at) l.list_is))

-- the same of the numbers that values name
pub file_to : (r : Result StoreChange RunFault) (v w : StoreValue) (set o x y z : ℕ) (how : How) → o ≡ y → x ≡ z
    → IsOutcome r (after_filing (set_of v.tables set) v.state o x how) v w
    → IsOutcome r (after_filing (set_of v.tables set) v.state y z how) v w
file_to r v w set o x y z how eo ex d = subst
    (λ n. IsOutcome r (after_filing (set_of v.tables set) v.state n z how) v w) eo
    (subst (λ n. IsOutcome r (after_filing (set_of v.tables set) v.state o n how) v w) ex d)
