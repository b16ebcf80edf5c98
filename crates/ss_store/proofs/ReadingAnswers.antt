-- The results of the reading calls.
use Rattle.std.proofs.lemmas.Bool.Decides.{nat_tests}
use Rattle.std.proofs.Common.{◌≡◌, ◌⊎◌, inl, inr, ℕ, ◌<◌, ◌==◌, List, [], ◌∷◌, length, map, refl, ap, sym, ◌∙◌, arith}
use Rattle.std.proofs.Common.{Option, Some, None, Bool, true, false, cond}
use Rattle.std.specs.Prelude.{Result, Ok, Err, is_some, unwrap_or}
use Rattle.std.specs.Option.{option_map, ForSome}
use Rattle.ss_words.specs.declared.fault.RunFault.{RunFault}
use Rattle.ss_words.specs.declared.fault.RunFault.TheVariants.{NoEntity, MemberLeft}
use Rattle.ss_links.specs.Board.{list_at, list_of, head_of}
use Rattle.ss_links.specs.Seats.{has, first_of, last_of, begins_with, next_in, prev_in}
use Rattle.ss_links.proofs.BoardLaws.{head_of-found}
use Rattle.ss_links.proofs.SeatLaws.{has-seat_before, has-last_of}
use Rattle.ss_store.specs.declared.shape.SetShape.{SetShape}
use Rattle.ss_store.specs.Tables.{set_of}
use Rattle.ss_store.specs.Store.{exists, is_owner, members_of}
use Rattle.ss_store.specs.Filing.{is_in, count, walk_first, walk_last, at_member, walk_next, walk_prev}
use Rattle.ss_store.specs.Finding.{is_at}
use Rattle.ss_store.specs.Invariant.{IsStore}
use Rattle.ss_store.specs.Parts.{StoreParts, head_at, seat_at, number_at, state_of}
use Rattle.ss_store.specs.Tables.{IsSet}
use Rattle.ss_store.specs.Value.{StoreValue}
use Rattle.ss_store.specs.Finding.{seat_under, seat_in}
use Rattle.ss_store.proofs.Core.{some_eq, member_of, seat_number}
use Rattle.ss_store.proofs.Boards.{Apart, tests_same, has_head, has_tail, apart_tail}
use Rattle.ss_store.proofs.Agree.{member_is, owner_is, members_look, apart, seat_below, length_mapped, numbers_length}
use Rattle.ss_store.proofs.FilingChanges.{is_at_eq, stands_there, stands_not}
use Rattle.ss_store.proofs.Calls.{Case, over}

pub first-map : (f : ℕ → ℕ) (l : List ℕ) → first_of (map f l) ≡ option_map f (first_of l)
first-map f [] = refl
first-map f (y ∷ l) = refl

pub last-map : (f : ℕ → ℕ) (l : List ℕ) → last_of (map f l) ≡ option_map f (last_of l)
last-map f [] = refl
last-map f (y ∷ l) = ap (λ o. Some (unwrap_or o (f y))) (last-map f l)
    ∙ (elim (last_of l) as (λ o. Some (unwrap_or (option_map f o) (f y)) ≡ option_map f (Some (unwrap_or o y))) [
      | None ↦
          refl
      | Some z ↦ refl
    ])

pub has-first : (l : List ℕ) (t : ℕ) → first_of l ≡ Some t → has l t ≡ true
has-first [] t e = cc
has-first (y ∷ l) t e = let is : y ≡ t = some_eq e in grind (arith, nat_tests, is)

pub map-seat_behind : (f : ℕ → ℕ) (l : List ℕ) (t : ℕ) → Apart f l t
    → next_in (map f l) (f t) ≡ option_map f (next_in l t)
map-seat_behind f [] t a = refl
map-seat_behind f (y ∷ l) t a =
    rw (tests_same f y t (a y (has_head y l)))
    (elim (y == t) as (λ k. cond k (first_of (map f l)) (next_in (map f l) (f t))
    ≡ option_map f (cond k (first_of l) (next_in l t))) [
      | true ↦ first-map f l
      | false ↦ map-seat_behind f l t (apart_tail f y l t a)
    ])

pub has-seat_behind : (l : List ℕ) (t u : ℕ) → next_in l t ≡ Some u → has l u ≡ true
has-seat_behind [] t u e = cc
has-seat_behind (y ∷ l) t u e =
    (elim (y == t) as (λ k. cond k (first_of l) (next_in l t) ≡ Some u → has (y ∷ l) u ≡ true) [
      | true ↦ λ f. has_tail y u l (has-first l u f)
      | false ↦ λ f. has_tail y u l (has-seat_behind l t u f)
    ]) e

begins-map : (f : ℕ → ℕ) (l : List ℕ) (t : ℕ) → Apart f l t → begins_with (map f l) (f t) ≡ begins_with l t
begins-map f [] t a = refl
begins-map f (y ∷ l) t a = tests_same f y t (a y (has_head y l))

pub map-seat_before : (f : ℕ → ℕ) (l : List ℕ) (t : ℕ) → Apart f l t
    → prev_in (map f l) (f t) ≡ option_map f (prev_in l t)
map-seat_before f [] t a = refl
map-seat_before f (y ∷ l) t a =
    rw (begins-map f l t (apart_tail f y l t a))
    (elim (begins_with l t) as (λ k. cond k (Some (f y)) (prev_in (map f l) (f t))
    ≡ option_map f (cond k (Some y) (prev_in l t))) [
      | true ↦ refl
      | false ↦ map-seat_before f l t (apart_tail f y l t a)
    ])

-- ---- calls

pub count_no_owner : (g : StoreParts) (v : StoreValue) (set : ℕ) (rule : SetShape) (o : ℕ) → Case g v set rule
    → head_at g.rows rule o ≡ None → Err NoEntity ≡ count (set_of v.tables set) v.state o
count_no_owner g v set rule o k e = sym (over g v set rule (λ r s. count r s o) (Err NoEntity) k
    (rw (owner_is g rule o k.store ∙ ap is_some e) refl))

pub count_is : (g : StoreParts) (v : StoreValue) (set : ℕ) (rule : SetShape) (o h n : ℕ) → Case g v set rule
    → head_at g.rows rule o ≡ Some h → n ≡ length (list_at g.board.lists h)
    → Ok n ≡ count (set_of v.tables set) v.state o
count_is g v set rule o h n k e w = sym (over g v set rule (λ r s. count r s o) (Ok n) k
    (rw (owner_is g rule o k.store ∙ ap is_some e)
    (ap Ok (ap (length {A = ℕ}) (members_look g rule o h k.store k.is_set e)
    ∙ length_mapped (number_at g.numbers) (list_at g.board.lists h) ∙ sym w))))

pub first_no_owner : (g : StoreParts) (v : StoreValue) (set : ℕ) (rule : SetShape) (o : ℕ) → Case g v set rule
    → head_at g.rows rule o ≡ None → Err NoEntity ≡ walk_first (set_of v.tables set) v.state o
first_no_owner g v set rule o k e = sym (over g v set rule (λ r s. walk_first r s o) (Err NoEntity) k
    (rw (owner_is g rule o k.store ∙ ap is_some e) refl))

pub first_is : (g : StoreParts) (v : StoreValue) (set : ℕ) (rule : SetShape) (o h : ℕ) (q r : Option ℕ)
    → Case g v set rule
    → head_at g.rows rule o ≡ Some h → q ≡ first_of (list_at g.board.lists h) → r ≡ option_map (number_at g.numbers) q
    → Ok r ≡ walk_first (set_of v.tables set) v.state o
first_is g v set rule o h q r k e w z = sym
    (over g v set rule (λ p s. walk_first p s o) (Ok r) k (rw (owner_is g rule o k.store ∙ ap is_some e)
    (ap Ok (ap first_of (members_look g rule o h k.store k.is_set e)
    ∙ first-map (number_at g.numbers) (list_at g.board.lists h) ∙ ap (option_map (number_at g.numbers)) (sym w)
    ∙ sym z))))

pub last_no_owner : (g : StoreParts) (v : StoreValue) (set : ℕ) (rule : SetShape) (o : ℕ) → Case g v set rule
    → head_at g.rows rule o ≡ None → Err NoEntity ≡ walk_last (set_of v.tables set) v.state o
last_no_owner g v set rule o k e = sym (over g v set rule (λ r s. walk_last r s o) (Err NoEntity) k
    (rw (owner_is g rule o k.store ∙ ap is_some e) refl))

pub last_is : (g : StoreParts) (v : StoreValue) (set : ℕ) (rule : SetShape) (o h : ℕ) (q r : Option ℕ)
    → Case g v set rule
    → head_at g.rows rule o ≡ Some h → q ≡ last_of (list_at g.board.lists h) → r ≡ option_map (number_at g.numbers) q
    → Ok r ≡ walk_last (set_of v.tables set) v.state o
last_is g v set rule o h q r k e w z = sym
    (over g v set rule (λ p s. walk_last p s o) (Ok r) k (rw (owner_is g rule o k.store ∙ ap is_some e)
    (ap Ok (ap last_of (members_look g rule o h k.store k.is_set e)
    ∙ last-map (number_at g.numbers) (list_at g.board.lists h) ∙ ap (option_map (number_at g.numbers)) (sym w)
    ∙ sym z))))

-- a seat in the list of a head has a number
pub in_list : (g : StoreParts) (rule : SetShape) (o h at : ℕ) → IsStore g → IsSet g.tables.sets rule
    → head_at g.rows rule o ≡ Some h → has (list_at g.board.lists h) at ≡ true → at < length g.numbers
in_list g rule o h at s is e f =
    let m = member_of g rule o h at s is e f in
    let l = seat_below g rule m.number at s is m.seat in
    let n = numbers_length g s in
    omega (arith, l, n)

pub first_below : (g : StoreParts) (v : StoreValue) (set : ℕ) (rule : SetShape) (o h : ℕ) (q : Option ℕ)
    → Case g v set rule
    → head_at g.rows rule o ≡ Some h → q ≡ first_of (list_at g.board.lists h) → ForSome q (λ at. at < length g.numbers)
first_below g v set rule o h q k e w at f =
    in_list g rule o h at k.store k.is_set e (has-first (list_at g.board.lists h) at (sym w ∙ f))

pub last_below : (g : StoreParts) (v : StoreValue) (set : ℕ) (rule : SetShape) (o h : ℕ) (q : Option ℕ)
    → Case g v set rule
    → head_at g.rows rule o ≡ Some h → q ≡ last_of (list_at g.board.lists h) → ForSome q (λ at. at < length g.numbers)
last_below g v set rule o h q k e w at f =
    in_list g rule o h at k.store k.is_set e (has-last_of (list_at g.board.lists h) at (sym w ∙ f))

-- ---- at a member

-- a member that is in the list
pub record Within (g : StoreParts) (rule : SetShape) (o x t : ℕ) : Type 0 where
  pub h : ℕ
  pub head : head_at g.rows rule o ≡ Some h
  pub seat : seat_at g.rows rule x ≡ Some t
  pub at : head_of g.board.lists t ≡ Some h

ok_some : {a b : Option ℕ} → ◌≡◌ {A = Result (Option ℕ) RunFault} (Ok a) (Ok b) → a ≡ b
ok_some e = cc

within_if : (g : StoreParts) (rule : SetShape) (o x t h u : ℕ) (b : Bool) → head_at g.rows rule o ≡ Some h
    → seat_at g.rows rule x ≡ Some u → is_at (head_of g.board.lists u) h ≡ b → cond b (Some u) None ≡ Some t
    → Within g rule o x t
within_if g rule o x t h u true eh es w e = let is : u ≡ t = some_eq e in
    record {
      h = h;
      head = eh;
      seat = es ∙ ap Some is;
      at = ap (head_of g.board.lists) (sym is)
          ∙ is_at_eq (head_of g.board.lists u) h w;
    }
within_if g rule o x t h u false eh es w e = cc

within_by : (g : StoreParts) (rule : SetShape) (o x t : ℕ) (a b : Option ℕ) → head_at g.rows rule o ≡ a
    → seat_at g.rows rule x ≡ b → seat_under g.board.lists a b ≡ Ok (Some t) → Within g rule o x t
within_by g rule o x t None b ea eb e = cc
within_by g rule o x t (Some h) None ea eb e = cc
within_by g rule o x t (Some h) (Some u) ea eb e =
    within_if g rule o x t h u (is_at (head_of g.board.lists u) h) ea eb refl (ok_some e)

pub within : (g : StoreParts) (rule : SetShape) (o x t : ℕ) → seat_in g.rows g.board.lists rule o x ≡ Ok (Some t)
    → Within g rule o x t
within g rule o x t e = within_by g rule o x t (head_at g.rows rule o) (seat_at g.rows rule x) refl refl e

-- one that isn't
record Outside (g : StoreParts) (rule : SetShape) (o x : ℕ) : Type 0 where
  pub owner : is_owner rule (state_of g) o ≡ true
  pub member : exists (state_of g) rule.member x ≡ true
  pub out : has (members_of rule (state_of g) o) x ≡ false

out_if : (b : Bool) (u : ℕ) → cond b (Some u) None ≡ None → b ≡ false
out_if true u e = cc
out_if false u e = refl

outside_by : (g : StoreParts) (rule : SetShape) (o x : ℕ) (a b : Option ℕ) → IsStore g → IsSet g.tables.sets rule
    → head_at g.rows rule o ≡ a → seat_at g.rows rule x ≡ b → seat_under g.board.lists a b ≡ Ok None
    → Outside g rule o x
outside_by g rule o x None b s is ea eb e = cc
outside_by g rule o x (Some h) None s is ea eb e = cc
outside_by g rule o x (Some h) (Some u) s is ea eb e = record {
  owner = owner_is g rule o s ∙ ap is_some ea;
  member = member_is g rule x s ∙ ap is_some eb;
  out = stands_not g rule o h u x s is ea eb (out_if (is_at (head_of g.board.lists u) h) u (ok_some e));
}

outside : (g : StoreParts) (rule : SetShape) (o x : ℕ) → IsStore g → IsSet g.tables.sets rule
    → seat_in g.rows g.board.lists rule o x ≡ Ok None → Outside g rule o x
outside g rule o x s is e = outside_by g rule o x (head_at g.rows rule o) (seat_at g.rows rule x) s is refl refl e

-- or does not exist
missing_by : (g : StoreParts) (rule : SetShape) (o x : ℕ) (a b : Option ℕ) (f : RunFault) → IsStore g
    → head_at g.rows rule o ≡ a → seat_at g.rows rule x ≡ b → seat_under g.board.lists a b ≡ Err f
    → (f ≡ NoEntity) × ((is_owner rule (state_of g) o ≡ false)
    ⊎ ((is_owner rule (state_of g) o ≡ true) × (exists (state_of g) rule.member x ≡ false)))
missing_by g rule o x None b f s ea eb e = (cc, inl (owner_is g rule o s ∙ ap is_some ea))
missing_by g rule o x (Some h) None f s ea eb e =
    (cc, inr (owner_is g rule o s ∙ ap is_some ea, member_is g rule x s ∙ ap is_some eb))
missing_by g rule o x (Some h) (Some u) f s ea eb e = cc

missing : (g : StoreParts) (rule : SetShape) (o x : ℕ) (f : RunFault) → IsStore g
    → seat_in g.rows g.board.lists rule o x ≡ Err f
    → (f ≡ NoEntity) × ((is_owner rule (state_of g) o ≡ false)
    ⊎ ((is_owner rule (state_of g) o ≡ true) × (exists (state_of g) rule.member x ≡ false)))
missing g rule o x f s e = missing_by g rule o x (head_at g.rows rule o) (seat_at g.rows rule x) f s refl refl e

pub is_in_fault : (g : StoreParts) (v : StoreValue) (set : ℕ) (rule : SetShape) (o x : ℕ) (f : RunFault)
    → Case g v set rule
    → seat_in g.rows g.board.lists rule o x ≡ Err f → Err f ≡ is_in (set_of v.tables set) v.state o x
is_in_fault g v set rule o x f k e =
    let d = missing g rule o x f k.store e in
    sym (over g v set rule (λ r s. is_in r s o x) (Err f) k (elim d.1 [
      | inl a ↦ rw a (ap Err (sym d.0))
      | inr b ↦ rw (b.0, b.1) (ap Err (sym d.0))
    ]))

pub is_in_false : (g : StoreParts) (v : StoreValue) (set : ℕ) (rule : SetShape) (o x : ℕ) → Case g v set rule
    → seat_in g.rows g.board.lists rule o x ≡ Ok None → Ok false ≡ is_in (set_of v.tables set) v.state o x
is_in_false g v set rule o x k e = let d = outside g rule o x k.store k.is_set e in
    sym (over g v set rule (λ r s. is_in r s o x) (Ok false) k (rw (d.owner, d.member, d.out) refl))

pub is_in_true : (g : StoreParts) (v : StoreValue) (set : ℕ) (rule : SetShape) (o x t : ℕ) → Case g v set rule
    → seat_in g.rows g.board.lists rule o x ≡ Ok (Some t) → Ok true ≡ is_in (set_of v.tables set) v.state o x
is_in_true g v set rule o x t k e =
    let d = within g rule o x t e in
    sym (over g v set rule (λ r s. is_in r s o x) (Ok true) k
    (rw (
      owner_is g rule o k.store ∙ ap is_some d.head,
      member_is g rule x k.store
          ∙ ap is_some d.seat,
      stands_there g rule o d.h t x k.store k.is_set d.head d.seat d.at,
    ) refl))

-- the value that is read at a member
at_fault : {A : Type 0} (g : StoreParts) (rule : SetShape) (o x : ℕ) (f : RunFault) (a : A) → IsStore g
    → seat_in g.rows g.board.lists rule o x ≡ Err f → at_member rule (state_of g) o x a ≡ Err f
at_fault g rule o x f a s e =
    let d = missing g rule o x f s e in
    elim d.1 [
      | inl w ↦ rw w (ap Err (sym d.0))
      | inr w ↦ rw (w.0, w.1) (ap Err (sym d.0))
    ]

at_left : {A : Type 0} (g : StoreParts) (rule : SetShape) (o x : ℕ) (a : A) → IsStore g → IsSet g.tables.sets rule
    → seat_in g.rows g.board.lists rule o x ≡ Ok None → at_member rule (state_of g) o x a ≡ Err MemberLeft
at_left g rule o x a s is e = let d = outside g rule o x s is e in rw (d.owner, d.member, d.out) refl

at_there : {A : Type 0} (g : StoreParts) (rule : SetShape) (o x t : ℕ) (a : A) → IsStore g → IsSet g.tables.sets rule
    → Within g rule o x t → at_member rule (state_of g) o x a ≡ Ok a
at_there g rule o x t a s is d = rw (
  owner_is g rule o s ∙ ap is_some d.head,
  member_is g rule x s
      ∙ ap is_some d.seat,
  stands_there g rule o d.h t x s is d.head d.seat d.at,
) refl

pub next_fault : (g : StoreParts) (v : StoreValue) (set : ℕ) (rule : SetShape) (o x : ℕ) (f : RunFault)
    → Case g v set rule
    → seat_in g.rows g.board.lists rule o x ≡ Err f → Err f ≡ walk_next (set_of v.tables set) v.state o x
next_fault g v set rule o x f k e = sym (over g v set rule (λ r s. walk_next r s o x) (Err f) k
    (at_fault g rule o x f _ k.store e))

pub next_left : (g : StoreParts) (v : StoreValue) (set : ℕ) (rule : SetShape) (o x : ℕ) → Case g v set rule
    → seat_in g.rows g.board.lists rule o x ≡ Ok None → Err MemberLeft ≡ walk_next (set_of v.tables set) v.state o x
next_left g v set rule o x k e = sym (over g v set rule (λ r s. walk_next r s o x) (Err MemberLeft) k
    (at_left g rule o x _ k.store k.is_set e))

pub next_is : (g : StoreParts) (v : StoreValue) (set : ℕ) (rule : SetShape) (o x t : ℕ) (n b : Option ℕ)
    → Case g v set rule
    → seat_in g.rows g.board.lists rule o x ≡ Ok (Some t) → n ≡ next_in (list_of g.board.lists t) t
    → b ≡ option_map (number_at g.numbers) n → Ok b ≡ walk_next (set_of v.tables set) v.state o x
next_is g v set rule o x t n b k e en eb =
    let d = within g rule o x t e in
    let f = head_of-found g.board.lists t d.h d.at in
    let behind : next_in (members_of rule (state_of g) o) x ≡ b =
    (λ i. next_in (members_look g rule o d.h k.store k.is_set d.head i)
    (sym (seat_number g rule x t k.store k.is_set d.seat) i))
    ∙ map-seat_behind (number_at g.numbers) (list_at g.board.lists d.h) t
    (apart g rule o d.h t x k.store k.is_set d.head d.seat)
    ∙ ap (option_map (number_at g.numbers)) (ap (λ l. next_in l t) (sym f.2) ∙ sym en) ∙ sym eb in
    sym (over g v set rule (λ r s. walk_next r s o x) (Ok b) k (at_there g rule o x t _ k.store k.is_set d
    ∙ ap Ok behind))

pub next_below : (g : StoreParts) (v : StoreValue) (set : ℕ) (rule : SetShape) (o x t : ℕ) (n : Option ℕ)
    → Case g v set rule
    → seat_in g.rows g.board.lists rule o x ≡ Ok (Some t) → n ≡ next_in (list_of g.board.lists t) t
    → ForSome n (λ at. at < length g.numbers)
next_below g v set rule o x t n k e en at is =
    let d = within g rule o x t e in
    let f = head_of-found g.board.lists t d.h d.at in
    in_list g rule o d.h at k.store k.is_set d.head
    (has-seat_behind (list_at g.board.lists d.h) t at (ap (λ l. next_in l t) (sym f.2) ∙ sym en ∙ is))

pub seat_there : (g : StoreParts) (v : StoreValue) (set : ℕ) (rule : SetShape) (o x t : ℕ) → Case g v set rule
    → seat_in g.rows g.board.lists rule o x ≡ Ok (Some t) → t < g.board.seats
seat_there g v set rule o x t k e = let d = within g rule o x t e in seat_below g rule x t k.store k.is_set d.seat

pub prev_fault : (g : StoreParts) (v : StoreValue) (set : ℕ) (rule : SetShape) (o x : ℕ) (f : RunFault)
    → Case g v set rule
    → seat_in g.rows g.board.lists rule o x ≡ Err f → Err f ≡ walk_prev (set_of v.tables set) v.state o x
prev_fault g v set rule o x f k e = sym (over g v set rule (λ r s. walk_prev r s o x) (Err f) k
    (at_fault g rule o x f _ k.store e))

pub prev_left : (g : StoreParts) (v : StoreValue) (set : ℕ) (rule : SetShape) (o x : ℕ) → Case g v set rule
    → seat_in g.rows g.board.lists rule o x ≡ Ok None
    → Err MemberLeft ≡ walk_prev (set_of v.tables set) v.state o x
prev_left g v set rule o x k e = sym (over g v set rule (λ r s. walk_prev r s o x) (Err MemberLeft) k
    (at_left g rule o x _ k.store k.is_set e))

pub prev_is : (g : StoreParts) (v : StoreValue) (set : ℕ) (rule : SetShape) (o x t : ℕ) (n b : Option ℕ)
    → Case g v set rule
    → seat_in g.rows g.board.lists rule o x ≡ Ok (Some t) → n ≡ prev_in (list_of g.board.lists t) t
    → b ≡ option_map (number_at g.numbers) n → Ok b ≡ walk_prev (set_of v.tables set) v.state o x
prev_is g v set rule o x t n b k e en eb =
    let d = within g rule o x t e in
    let f = head_of-found g.board.lists t d.h d.at in
    let before : prev_in (members_of rule (state_of g) o) x ≡ b =
    (λ i. prev_in (members_look g rule o d.h k.store k.is_set d.head i)
    (sym (seat_number g rule x t k.store k.is_set d.seat) i))
    ∙ map-seat_before (number_at g.numbers) (list_at g.board.lists d.h) t
    (apart g rule o d.h t x k.store k.is_set d.head d.seat)
    ∙ ap (option_map (number_at g.numbers)) (ap (λ l. prev_in l t) (sym f.2) ∙ sym en) ∙ sym eb in
    sym (over g v set rule (λ r s. walk_prev r s o x) (Ok b) k (at_there g rule o x t _ k.store k.is_set d
    ∙ ap Ok before))

pub prev_below : (g : StoreParts) (v : StoreValue) (set : ℕ) (rule : SetShape) (o x t : ℕ) (n : Option ℕ)
    → Case g v set rule
    → seat_in g.rows g.board.lists rule o x ≡ Ok (Some t) → n ≡ prev_in (list_of g.board.lists t) t
    → ForSome n (λ at. at < length g.numbers)
prev_below g v set rule o x t n k e en at is =
    let d = within g rule o x t e in
    let f = head_of-found g.board.lists t d.h d.at in
    in_list g rule o d.h at k.store k.is_set d.head
    (has-seat_before (list_at g.board.lists d.h) t at (ap (λ l. prev_in l t) (sym f.2) ∙ sym en ∙ is))
