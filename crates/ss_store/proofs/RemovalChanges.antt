-- A member taken out of a list, and put back.
use Rattle.std.proofs.lemmas.Bool.Decides.{nat_tests}
use Rattle.std.proofs.Common.{◌≡◌, ℕ, ◌<◌, List, length, map, refl, ap, sym, subst, ◌∙◌, arith, Option, Some, None}
use Rattle.std.proofs.Common.{true, false, inl, inr}
use Rattle.std.specs.Prelude.{is_some}
use Rattle.std.specs.Option.{option_map, ForSome, IsSome}
use Rattle.ss_links.specs.Board.{Board, IsSound, CanRelink, list_at, list_of, head_of, after_unlink, after_relink}
use Rattle.ss_links.specs.Seats.{has, put_at, list_without, prev_in}
use Rattle.ss_links.proofs.BoardLaws.{head_of-found, head_of-list_at, head_of-free, times-unlinked}
use Rattle.ss_links.proofs.SeatLaws.{without-absent, put_at-without, has-without_other, has-without, has-seat_before}
use Rattle.ss_links.proofs.SeatLaws.{has-without-seat_before}
use Rattle.ss_program.specs.declared.kinds.Owner.{Owner}
use Rattle.ss_store.specs.declared.shape.SetShape.{SetShape}
use Rattle.ss_store.specs.declared.change.StoreChange.TheVariants.{Filed, Removed}
use Rattle.ss_store.specs.Tables.{set_of}
use Rattle.ss_store.specs.Store.{exists, is_owner, members_of, is_filed, with_list, with_list_by}
use Rattle.ss_store.specs.Change.{FitsFiled, FitsRemoved, Leaves, unapply_store}
use Rattle.ss_store.specs.Store.{members_by}
use Rattle.ss_store.specs.Invariant.{IsStore}
use Rattle.ss_store.specs.Parts.{StoreParts, head_at, seat_at, number_at, state_of, value_of}
use Rattle.ss_store.specs.Tables.{IsSet}
use Rattle.ss_store.specs.Value.{StoreValue}
use Rattle.ss_store.proofs.Core.{some_eq, one_seat, seat_number, member_of}
use Rattle.ss_store.proofs.OneListChanges.{Relisted, is_or_not, relisted_store, relisted_state}
use Rattle.ss_store.proofs.Boards.{Apart, has-map, map-without, map-put_behind, relisted_map, relisted_back}
use Rattle.ss_store.proofs.Boards.{relisted_set}
use Rattle.ss_store.proofs.Agree.{member_is, owner_is, members_look, is_filed_is, apart, head_below, seat_below}
use Rattle.ss_store.proofs.FilingChanges.{has_map_seat, once_in, Puts, put_store, put_state}
use Rattle.ss_store.proofs.Calls.{kept_same}

-- a seat taken out of the list of a head
pub record Cuts (g : StoreParts) (new : Board) (rule : SetShape) (o x h t : ℕ) : Type 0 where
  pub store : IsStore g
  pub is_set : IsSet g.tables.sets rule
  pub head : head_at g.rows rule o ≡ Some h
  pub seat : seat_at g.rows rule x ≡ Some t
  pub stands : head_of g.board.lists t ≡ Some h
  pub board : new ≡ after_unlink g.board t
  pub sound : IsSound new

pub cut_relisted : (g : StoreParts) (new : Board) (rule : SetShape) (o x h t : ℕ) → Cuts g new rule o x h t
    → Relisted g.board new h (list_without (list_at g.board.lists h) t)
cut_relisted g new rule o x h t d = relisted_map g.board new (λ l. list_without l t) h t refl
    (λ l e. without-absent l t e)
    d.store.sound d.stands d.board d.sound

cut_other : (l : List ℕ) (t u : ℕ) → has (list_without l t) u ≡ true → has l u ≡ true
cut_other l t u e = elim (is_or_not u t) [
  | inl is ↦ absurd (let bad : has (list_without l t) t ≡ true = subst (λ z. has (list_without l t) z ≡ true) is e in
      let out = has-without l t in cc)
  | inr far ↦ sym (has-without_other l t u (grind (arith, nat_tests))) ∙ e
]

pub cut_store : (g : StoreParts) (new : Board) (rule : SetShape) (o x h t : ℕ) → Cuts g new rule o x h t
    → IsStore (record g { board = new })
cut_store g new rule o x h t d = relisted_store g new h (list_without (list_at g.board.lists h) t) d.store
    (cut_relisted g new rule o x h t d) (λ u e. d.store.are_members h u (cut_other (list_at g.board.lists h) t u e))

cut_numbers : (g : StoreParts) (new : Board) (rule : SetShape) (o x h t : ℕ) → Cuts g new rule o x h t
    → map (number_at g.numbers) (list_without (list_at g.board.lists h) t)
    ≡ list_without (members_of rule (state_of g) o) x
cut_numbers g new rule o x h t d =
    map-without (number_at g.numbers) (list_at g.board.lists h) t (apart g rule o h t x d.store d.is_set d.head d.seat)
    ∙ (λ i. list_without (sym (members_look g rule o h d.store d.is_set d.head) i)
    (seat_number g rule x t d.store d.is_set d.seat i))

pub cut_state : (g : StoreParts) (new : Board) (rule : SetShape) (o x h t : ℕ) → Cuts g new rule o x h t
    → state_of (record g { board = new })
    ≡ with_list rule (state_of g) o (list_without (members_of rule (state_of g) o) x)
cut_state g new rule o x h t d = relisted_state g new rule o h
    (list_without (list_at g.board.lists h) t) _ d.store d.is_set
    d.head (cut_relisted g new rule o x h t d) (cut_numbers g new rule o x h t d)

cut_members : (g : StoreParts) (new : Board) (rule : SetShape) (o x h t : ℕ) → Cuts g new rule o x h t
    → members_of rule (state_of (record g { board = new })) o
    ≡ map (number_at g.numbers) (list_without (list_at g.board.lists h) t)
cut_members g new rule o x h t d = members_look (record g { board = new }) rule o h (cut_store g new rule o x h t d)
    d.is_set d.head ∙ ap (map (number_at g.numbers)) (cut_relisted g new rule o x h t d).here

-- the place of the removed seat
pub cut_before : (g : StoreParts) (h t : ℕ) → head_of g.board.lists t ≡ Some h
    → prev_in (list_of g.board.lists t) t ≡ prev_in (list_at g.board.lists h) t
cut_before g h t e = ap (λ l. prev_in l t) (head_of-found g.board.lists t h e).2

-- numbers of a list with a seat put back
put_numbers : (g : StoreParts) (l : List ℕ) (p : Option ℕ) (t : ℕ)
    → ((at : ℕ) → p ≡ Some at → Apart (number_at g.numbers) l at)
    → map (number_at g.numbers) (put_at l p t)
    ≡ put_at (map (number_at g.numbers) l) (option_map (number_at g.numbers) p) (number_at g.numbers t)
put_numbers g l None t a = refl
put_numbers g l (Some at) t a = map-put_behind (number_at g.numbers) l at t (a at refl)

-- the place's seat has a number of its own among those that stay
before_apart : (g : StoreParts) (new : Board) (rule : SetShape) (o x h t : ℕ) (p : Option ℕ) → Cuts g new rule o x h t
    → p ≡ prev_in (list_at g.board.lists h) t → (at : ℕ) → p ≡ Some at
    → Apart (number_at g.numbers) (list_without (list_at g.board.lists h) t) at
before_apart g new rule o x h t p d e at f u w v =
    let m = member_of g rule o h at d.store d.is_set d.head
    (has-seat_before (list_at g.board.lists h) t at (sym e ∙ f)) in
    one_seat g rule o h at u m.number d.store d.is_set d.head m.seat (cut_other (list_at g.board.lists h) t u w) (v
    ∙ m.is)

pub cut_back : (g : StoreParts) (new : Board) (rule : SetShape) (o x h t : ℕ) (p : Option ℕ) → Cuts g new rule o x h t
    → p ≡ prev_in (list_at g.board.lists h) t
    → with_list rule (state_of (record g { board = new })) o
    (put_at (members_of rule (state_of (record g { board = new })) o) (option_map (number_at g.numbers) p) x)
    ≡ state_of g
cut_back g new rule o x h t p d e =
    let there = (head_of-found g.board.lists t h d.stands).1 in
    let back : put_at (list_without (list_at g.board.lists h) t) p t ≡ list_at g.board.lists h =
    ap (λ q. put_at (list_without (list_at g.board.lists h) t) q t) e
    ∙ put_at-without (list_at g.board.lists h) t (once_in g h d.store) there in
    let numbers : map (number_at g.numbers) (list_at g.board.lists h)
    ≡ put_at (members_of rule (state_of (record g { board = new })) o) (option_map (number_at g.numbers) p) x =
    ap (map (number_at g.numbers)) (sym back)
    ∙ put_numbers g (list_without (list_at g.board.lists h) t) p t (before_apart g new rule o x h t p d e)
    ∙ (λ i. put_at (sym (cut_members g new rule o x h t d) i) (option_map (number_at g.numbers) p)
    (seat_number g rule x t d.store d.is_set d.seat i)) in
    sym (relisted_state (record g { board = new }) g.board rule o h (list_at g.board.lists h) _
    (cut_store g new rule o x h t d) d.is_set d.head
    (relisted_back g.board new h _ d.store.sound (cut_relisted g new rule o x h t d)) numbers)

-- the member before it stays in the list
before_stands : (g : StoreParts) (new : Board) (rule : SetShape) (o x h t : ℕ) (p : Option ℕ) → Cuts g new rule o x h t
    → p ≡ prev_in (list_at g.board.lists h) t
    → ForSome (option_map (number_at g.numbers) p)
    (λ y. has (members_of rule (state_of (record g { board = new })) o) y ≡ true)
before_stands g new rule o x h t None d e y f = cc
before_stands g new rule o x h t (Some at) d e y f =
    subst (λ z. has (members_of rule (state_of (record g { board = new })) o) z ≡ true) (some_eq f)
    (ap (λ l. has l (number_at g.numbers at)) (cut_members g new rule o x h t d)
    ∙ has-map (number_at g.numbers) (list_without (list_at g.board.lists h) t) at
    (before_apart g new rule o x h t (Some at) d e at refl)
    ∙ has-without-seat_before (list_at g.board.lists h) t at (once_in g h d.store) (sym e))

pub cut_leaves : (g : StoreParts) (new : Board) (set : ℕ) (rule : SetShape) (o x h t : ℕ) (p : Option ℕ)
    → Cuts g new rule o x h t → set < length g.tables.sets → set_of g.tables set ≡ rule
    → p ≡ prev_in (list_at g.board.lists h) t
    → Leaves (Removed set rule.owner rule.list o x (option_map (number_at g.numbers) p))
    (with_list rule (state_of g) o (list_without (members_of rule (state_of g) o) x)) (value_of g)
    (value_of (record g { board = new }))
cut_leaves g new set rule o x h t p d lt at e = record {
  state = cut_state g new rule o x h t d;
  fits = let now = state_of (record g { board = new }) in record {
    is_set = lt;
    owner = ap (λ (z : SetShape). z.owner) (sym at);
    list = ap (λ (z : SetShape). z.list) (sym at);
    is_owner = ap (λ z. is_owner z now o) at
        ∙ owner_is (record g { board = new }) rule o (cut_store g new rule o x h t d) ∙ ap is_some d.head;
    member = ap (λ (z : SetShape). exists now z.member x) at
        ∙ member_is (record g { board = new }) rule x (cut_store g new rule o x h t d) ∙ ap is_some d.seat;
    in_no_list = ap (λ z. is_filed z now x) at ∙ is_filed_is (record g { board = new }) rule t x
        (cut_store g new rule o x h t d) d.is_set d.seat
        ∙ ap is_some (ap (λ (z : Board). head_of z.lists t) d.board
        ∙ head_of-free (map (λ l. list_without l t) g.board.lists) t (times-unlinked g.board.lists t));
    before = λ y f. ap (λ z. has (members_of z now o) y) at ∙ before_stands g new rule o x h t p d e y f;
  };
  back = λ i. record {
    tables = g.tables;
    state = cut_back g new rule o x h t p d e i;
    kept = kept_same g new (cut_relisted g new rule o x h t d).heads (cut_relisted g new rule o x h t d).seats i;
  };
}

-- ---- undoing

pub is_some_of : (o : Option ℕ) → is_some o ≡ true → (x : ℕ) × (o ≡ Some x)
is_some_of None e = cc
is_some_of (Some x) e = (x, refl)

none_of : (o : Option ℕ) → is_some o ≡ false → o ≡ None
none_of None e = refl
none_of (Some x) e = cc

-- a member of the list is in it with its seat
pub record Stands (g : StoreParts) (rule : SetShape) (o h x : ℕ) : Type 0 where
  pub at : ℕ
  pub seat : seat_at g.rows rule x ≡ Some at
  pub there : has (list_at g.board.lists h) at ≡ true
  pub number : number_at g.numbers at ≡ x

pub stands_at : (g : StoreParts) (rule : SetShape) (o h x : ℕ) → IsStore g → IsSet g.tables.sets rule
    → head_at g.rows rule o ≡ Some h → has (members_of rule (state_of g) o) x ≡ true → Stands g rule o h x
stands_at g rule o h x s is eh e =
    let u = has_map_seat (number_at g.numbers) (list_at g.board.lists h) x
    (ap (λ l. has l x) (sym (members_look g rule o h s is eh)) ∙ e) in
    let m = member_of g rule o h u.0 s is eh u.1 in
    record { at = u.0; seat = ap (seat_at g.rows rule) (sym u.2 ∙ m.is) ∙ m.seat; there = u.1; number = u.2 }

-- a call that takes back a change of a set
pub record Undoes (g : StoreParts) (v : StoreValue) (set : ℕ) (rule : SetShape) : Type 0 where
  pub is : value_of g ≡ v
  pub store : IsStore g
  pub is_set : IsSet g.tables.sets rule
  pub at : set_of v.tables set ≡ rule

-- the head of the list
pub undo_head : (g : StoreParts) (rule : SetShape) (o : ℕ) → IsStore g → is_owner rule (state_of g) o ≡ true
    → (h : ℕ) × (head_at g.rows rule o ≡ Some h)
undo_head g rule o s e = is_some_of (head_at g.rows rule o) (sym (owner_is g rule o s) ∙ e)

-- a filing that fits, on the board
pub record Unfiles (g : StoreParts) (rule : SetShape) (o x : ℕ) : Type 0 where
  pub h : ℕ
  pub t : ℕ
  pub is_set : IsSet g.tables.sets rule
  pub head : head_at g.rows rule o ≡ Some h
  pub seat : seat_at g.rows rule x ≡ Some t
  pub stands : head_of g.board.lists t ≡ Some h

pub unfiles : (g : StoreParts) (v : StoreValue) (set : ℕ) (rule : SetShape) (w : Owner) (n o x : ℕ)
    → Undoes g v set rule
    → FitsFiled v set w n o x → Unfiles g rule o x
unfiles g v set rule w n o x d f =
    let h = undo_head g rule o d.store (ap (λ (z : StoreValue). is_owner rule z.state o) d.is
    ∙ ap (λ z. is_owner z v.state o) (sym d.at) ∙ f.is_owner) in
    let s = stands_at g rule o h.0 x d.store d.is_set h.1
    (ap (λ (z : StoreValue). has (members_of rule z.state o) x) d.is
    ∙ ap (λ z. has (members_of z v.state o) x) (sym d.at) ∙ f.stands) in
    record {
      h = h.0;
      t = s.at;
      is_set = d.is_set;
      head = h.1;
      seat = s.seat;
      stands = head_of-list_at g.board.lists h.0 s.at s.there (d.store.sound.once s.at);
    }

pub unfiles_cuts : (g : StoreParts) (new : Board) (rule : SetShape) (o x : ℕ) (u : Unfiles g rule o x) → IsStore g
    → new ≡ after_unlink g.board u.t → IsSound new → Cuts g new rule o x u.h u.t
unfiles_cuts g new rule o x u s e f = record {
  store = s;
  is_set = u.is_set;
  head = u.head;
  seat = u.seat;
  stands = u.stands;
  board = e;
  sound = f;
}

-- the seat that is looked up is that one
pub unfile_seat : (g : StoreParts) (rule : SetShape) (o x t : ℕ) (u : Unfiles g rule o x) → seat_at g.rows rule x
    ≡ Some t
    → u.t ≡ t
unfile_seat g rule o x t u e = some_eq (sym u.seat ∙ e)

pub unfile_below : (g : StoreParts) (rule : SetShape) (o x t : ℕ) → IsStore g → (u : Unfiles g rule o x)
    → seat_at g.rows rule x ≡ Some t → t < g.board.seats
unfile_below g rule o x t s u e = seat_below g rule x t s u.is_set e

pub unfile_linked : (g : StoreParts) (rule : SetShape) (o x t : ℕ) (u : Unfiles g rule o x) → seat_at g.rows rule x
    ≡ Some t
    → IsSome (head_of g.board.lists t)
unfile_linked g rule o x t u e = rw (ap (head_of g.board.lists) (sym (unfile_seat g rule o x t u e)) ∙ u.stands) refl

pub unfile_store : (g : StoreParts) (new : Board) (rule : SetShape) (o x t : ℕ) → IsStore g → (u : Unfiles g rule o x)
    → seat_at g.rows rule x ≡ Some t → new ≡ after_unlink g.board t → IsSound new → IsStore (record g { board = new })
unfile_store g new rule o x t s u e b f =
    cut_store g new rule o x u.h u.t (unfiles_cuts g new rule o x u s (b
    ∙ ap (after_unlink g.board) (sym (unfile_seat g rule o x t u e))) f)

-- the effect of `unapply` on a list of this set
unapply_list : (v : StoreValue) (set : ℕ) (rule : SetShape) (w : Owner) (n o : ℕ) (f : List ℕ → List ℕ)
    → set_of v.tables set ≡ rule → w ≡ (set_of v.tables set).owner → n ≡ (set_of v.tables set).list
    → with_list rule v.state o (f (members_of rule v.state o))
    ≡ with_list_by w n v.state o (f (members_by w n v.state o))
unapply_list v set rule w n o f at ew en =
    let a : rule.owner ≡ w = ap (λ (z : SetShape). z.owner) (sym at) ∙ sym ew in
    let b : rule.list ≡ n = ap (λ (z : SetShape). z.list) (sym at) ∙ sym en in
    λ i. with_list_by (a i) (b i) v.state o (f (members_by (a i) (b i) v.state o))

pub unfile_left : (g : StoreParts) (v : StoreValue) (new : Board) (set : ℕ) (rule : SetShape) (w : Owner) (n o x t : ℕ)
    (d : Undoes g v set rule) (f : FitsFiled v set w n o x) → seat_at g.rows rule x ≡ Some t → new
    ≡ after_unlink g.board t
    → IsSound new
    → value_of (record g { board = new }) ≡ unapply_store (Filed set w n o x) v
unfile_left g v new set rule w n o x t d f e b sound =
    let u = unfiles g v set rule w n o x d f in
    let c = unfiles_cuts g new rule o x u d.store (b
    ∙ ap (after_unlink g.board) (sym (unfile_seat g rule o x t u e))) sound in
    let state = cut_state g new rule o x u.h u.t c
    ∙ ap (λ (z : StoreValue). with_list rule z.state o (list_without (members_of rule z.state o) x)) d.is
    ∙ unapply_list v set rule w n o (λ l. list_without l x) d.at f.owner f.list in
    let r = cut_relisted g new rule o x u.h u.t c in
    λ i. record {
      tables = (d.is i).tables;
      state = state i;
      kept = (kept_same g new r.heads r.seats ∙ ap (λ (z : StoreValue). z.kept) d.is) i;
    }

-- a removal that fits, on the board
pub record Refiles (g : StoreParts) (rule : SetShape) (o x : ℕ) (b : Option ℕ) : Type 0 where
  pub h : ℕ
  pub t : ℕ
  pub is_set : IsSet g.tables.sets rule
  pub head : head_at g.rows rule o ≡ Some h
  pub seat : seat_at g.rows rule x ≡ Some t
  pub free : head_of g.board.lists t ≡ None
  pub before : (y : ℕ) → b ≡ Some y → Stands g rule o h y

pub refiles : (g : StoreParts) (v : StoreValue) (set : ℕ) (rule : SetShape) (w : Owner) (n o x : ℕ) (b : Option ℕ)
    → Undoes g v set rule → FitsRemoved v set w n o x b → Refiles g rule o x b
refiles g v set rule w n o x b d f =
    let h = undo_head g rule o d.store (ap (λ (z : StoreValue). is_owner rule z.state o) d.is
    ∙ ap (λ z. is_owner z v.state o) (sym d.at) ∙ f.is_owner) in
    let u = is_some_of (seat_at g.rows rule x) (sym (member_is g rule x d.store)
    ∙ ap (λ (z : StoreValue). exists z.state rule.member x) d.is
    ∙ ap (λ (z : SetShape). exists v.state z.member x) (sym d.at) ∙ f.member) in
    record {
      h = h.0;
      t = u.0;
      is_set = d.is_set;
      head = h.1;
      seat = u.1;
      free = none_of (head_of g.board.lists u.0) (sym (is_filed_is g rule u.0 x d.store d.is_set u.1)
          ∙ ap (λ (z : StoreValue). is_filed rule z.state x) d.is ∙ ap (λ z. is_filed z v.state x) (sym d.at)
          ∙ f.in_no_list);
      before = λ y e. stands_at g rule o h.0 y d.store d.is_set h.1
          (ap (λ (z : StoreValue). has (members_of rule z.state o) y) d.is
          ∙ ap (λ z. has (members_of z v.state o) y) (sym d.at) ∙ f.before y e);
    }

-- the place on the board is that of the member before it
pub record Behind (g : StoreParts) (rule : SetShape) (b p : Option ℕ) : Type 0 where
  pub none : b ≡ None → p ≡ None
  pub some : (y : ℕ) → b ≡ Some y → p ≡ seat_at g.rows rule y

place_there : (g : StoreParts) (rule : SetShape) (o x : ℕ) (b p : Option ℕ) (u : Refiles g rule o x b)
    → Behind g rule b p
    → (at : ℕ) → p ≡ Some at → (has (list_at g.board.lists u.h) at ≡ true)
    × (seat_at g.rows rule (number_at g.numbers at) ≡ Some at)
place_there g rule o x None p u k at e = let bad : None ≡ Some at = sym (k.none refl) ∙ e in cc
place_there g rule o x (Some y) p u k at e =
    let s = u.before y refl in
    let is : s.at ≡ at = some_eq (sym s.seat ∙ sym (k.some y refl) ∙ e) in (
      subst (λ z. has (list_at g.board.lists u.h) z ≡ true) is s.there,
      ap (seat_at g.rows rule) (ap (number_at g.numbers) (sym is) ∙ s.number) ∙ s.seat ∙ ap Some is,
    )

place_number : (g : StoreParts) (rule : SetShape) (o x : ℕ) (b p : Option ℕ) (u : Refiles g rule o x b)
    → Behind g rule b p
    → option_map (number_at g.numbers) p ≡ b
place_number g rule o x None p u k = ap (option_map (number_at g.numbers)) (k.none refl)
place_number g rule o x (Some y) p u k = let s = u.before y refl in
    ap (option_map (number_at g.numbers)) (k.some y refl ∙ s.seat) ∙ ap Some s.number

pub refile_can : (g : StoreParts) (rule : SetShape) (o x h t : ℕ) (b p : Option ℕ) → IsStore g
    → (u : Refiles g rule o x b)
    → head_at g.rows rule o ≡ Some h → seat_at g.rows rule x ≡ Some t → Behind g rule b p
    → CanRelink g.board t (record { head = h; before = p })
refile_can g rule o x h t b p s u eh et k =
    let is : u.h ≡ h = some_eq (sym u.head ∙ eh) in
    record {
      is_seat = seat_below g rule x t s u.is_set et;
      is_free = ap (head_of g.board.lists) (some_eq (sym et ∙ u.seat)) ∙ u.free;
      is_head = head_below g rule o h s u.is_set eh;
      is_there = λ at e. subst (λ z. has (list_at g.board.lists z) at ≡ true) is
          (place_there g rule o x b p u k at e).0;
    }

refile_puts : (g : StoreParts) (new : Board) (rule : SetShape) (o x h t : ℕ) (b p : Option ℕ) → IsStore g
    → (u : Refiles g rule o x b) → head_at g.rows rule o ≡ Some h → seat_at g.rows rule x ≡ Some t → Behind g rule b p
    → new ≡ after_relink g.board t (record { head = h; before = p }) → IsSound new
    → Puts g new rule o x h t (put_at (list_at g.board.lists h) p t) p
refile_puts g new rule o x h t b p s u eh et k e sound = record {
  store = s;
  is_set = u.is_set;
  head = eh;
  seat = et;
  free = ap (head_of g.board.lists) (some_eq (sym et ∙ u.seat)) ∙ u.free;
  relisted = relisted_set g.board new h _ (head_below g rule o h s u.is_set eh) e sound;
  put = refl;
  before = (refile_can g rule o x h t b p s u eh et k).is_there;
}

pub refile_store : (g : StoreParts) (new : Board) (rule : SetShape) (o x h t : ℕ) (b p : Option ℕ) → IsStore g
    → (u : Refiles g rule o x b) → head_at g.rows rule o ≡ Some h → seat_at g.rows rule x ≡ Some t → Behind g rule b p
    → new ≡ after_relink g.board t (record { head = h; before = p }) → IsSound new → IsStore (record g { board = new })
refile_store g new rule o x h t b p s u eh et k e sound =
    put_store g new rule o x h t _ p (refile_puts g new rule o x h t b p s u eh et k e sound)

pub refile_left : (g : StoreParts) (v : StoreValue) (new : Board) (set : ℕ) (rule : SetShape) (w : Owner)
    (n o x h t : ℕ)
    (b p : Option ℕ) (d : Undoes g v set rule) (f : FitsRemoved v set w n o x b) → head_at g.rows rule o ≡ Some h
    → seat_at g.rows rule x ≡ Some t → Behind g rule b p
    → new ≡ after_relink g.board t (record { head = h; before = p }) → IsSound new
    → value_of (record g { board = new }) ≡ unapply_store (Removed set w n o x b) v
refile_left g v new set rule w n o x h t b p d f eh et k e sound =
    let u = refiles g v set rule w n o x b d f in
    let q = refile_puts g new rule o x h t b p d.store u eh et k e sound in
    let is : u.h ≡ h = some_eq (sym u.head ∙ eh) in
    let numbers : map (number_at g.numbers) (put_at (list_at g.board.lists h) p t)
    ≡ put_at (members_of rule (state_of g) o) b x =
    put_numbers g (list_at g.board.lists h) p t
    (λ at z. apart g rule o h at (number_at g.numbers at) d.store d.is_set eh
    (place_there g rule o x b p u k at z).1)
    ∙ (λ i. put_at (sym (members_look g rule o h d.store d.is_set eh) i) (place_number g rule o x b p u k i)
    (seat_number g rule x t d.store d.is_set et i)) in
    let state = put_state g new rule o x h t _ p q ∙ ap (with_list rule (state_of g) o) numbers
    ∙ ap (λ (z : StoreValue). with_list rule z.state o (put_at (members_of rule z.state o) b x)) d.is
    ∙ unapply_list v set rule w n o (λ l. put_at l b x) d.at f.owner f.list in
    λ i. record {
      tables = (d.is i).tables;
      state = state i;
      kept = (kept_same g new q.relisted.heads q.relisted.seats ∙ ap (λ (z : StoreValue). z.kept) d.is) i;
    }
