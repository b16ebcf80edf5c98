-- Kept attributes of a member.
use Rattle.std.proofs.Common.{◌≡◌, ℕ, suc, ◌<◌, ◌||◌, List, [], ◌∷◌, length, map, refl, ap, sym, ◌∙◌, subst, slice_get}
use Rattle.std.proofs.Common.{Option, Some, None, Bool, true, false}
use Rattle.std.specs.Prelude.{Ok, Err, find, is_some, unwrap_or}
use Rattle.std.specs.Option.{option_map, ForSome}
use Rattle.std.specs.List.{list_any}
use Rattle.ss_words.specs.declared.fault.RunFault.TheVariants.{NoEntity}
use Rattle.ss_links.specs.Board.{list_at, list_of, head_of}
use Rattle.ss_links.specs.Seats.{has, prev_in, next_in}
use Rattle.ss_links.proofs.BoardLaws.{head_of-found, head_of-list_at, times-free, list_of-free}
use Rattle.ss_links.proofs.SeatLaws.{has-seat_before}
use Rattle.ss_store.specs.declared.shape.SetShape.{SetShape}
use Rattle.ss_store.specs.Tables.{set_of}
use Rattle.ss_store.specs.Store.{lists_by, list_holding}
use Rattle.ss_store.specs.declared.shape.Neighbours.{Neighbours}
use Rattle.ss_store.specs.Filing.{predecessor, successor, membership, AreNeighbours}
use Rattle.ss_store.specs.Invariant.{IsStore}
use Rattle.ss_store.specs.Parts.{StoreParts, seat_at, number_at, numbers_under, state_of}
use Rattle.ss_store.specs.Tables.{IsSet}
use Rattle.ss_store.specs.Value.{StoreValue}
use Rattle.ss_store.proofs.Core.{some_eq, seat_number, owner_of_seat}
use Rattle.ss_store.proofs.Agree.{member_is, is_filed_is, list_owner, stands_is, apart, seat_below}
use Rattle.ss_store.proofs.ReadingAnswers.{map-seat_before, map-seat_behind, has-seat_behind, in_list}
use Rattle.ss_store.proofs.Calls.{Case, over}

-- the first that passes a test
record Finds (test : List ℕ → Bool) (ls : List (List ℕ)) (o : Option (List ℕ)) : Type 0 where
  pub list : List ℕ
  pub index : ℕ
  pub is : o ≡ Some list
  pub at : slice_get ls index ≡ Some list
  pub passes : test list ≡ true

finds : (test : List ℕ → Bool) (ls : List (List ℕ)) → list_any test ls ≡ true → Finds test ls (find test ls)
finds test [] e = cc
finds test (l ∷ ls) e =
    (elim (test l) as (λ k. test l ≡ k → (k || list_any test ls) ≡ true → Finds test (l ∷ ls) (find test (l ∷ ls))) [
      | true ↦ λ w f. record { list = l; index = 0; is = rw w refl; at = refl; passes = w }
      | false ↦ λ w f. let d = finds test ls f in
          record { list = d.list; index = suc d.index; is = rw w d.is; at = d.at; passes = d.passes }
    ]) refl e

finds_none : (test : List ℕ → Bool) (ls : List (List ℕ)) → list_any test ls ≡ false → find test ls ≡ None
finds_none test [] e = refl
finds_none test (l ∷ ls) e =
    (elim (test l) as (λ k. test l ≡ k → (k || list_any test ls) ≡ false → find test (l ∷ ls) ≡ None) [
      | true ↦ λ w f. cc
      | false ↦ λ w f. rw w (finds_none test ls f)
    ]) refl e

-- the list that holds a member is the list that holds its seat
pub holding_is : (g : StoreParts) (rule : SetShape) (t x : ℕ) → IsStore g → IsSet g.tables.sets rule
    → seat_at g.rows rule x ≡ Some t → list_holding rule (state_of g) x
    ≡ map (number_at g.numbers) (list_of g.board.lists t)
holding_is g rule t x s is et =
    (elim (head_of g.board.lists t) as (λ q. head_of g.board.lists t ≡ q
    → list_holding rule (state_of g) x ≡ map (number_at g.numbers) (list_of g.board.lists t)) [
      | None ↦ λ e.
          ap (λ (z : Option (List ℕ)). unwrap_or z [])
          (finds_none (λ ks. has ks x) (lists_by rule.owner rule.list (state_of g)) (is_filed_is g rule t x s is et
          ∙ ap is_some e))
          ∙ ap (map (number_at g.numbers)) (sym (list_of-free g.board.lists t (times-free g.board.lists t e)))
      | Some h ↦ λ e.
          let d = finds (λ ks. has ks x) (lists_by rule.owner rule.list (state_of g)) (is_filed_is g rule t x s is et
          ∙ ap is_some e) in
          let o = list_owner g rule.owner rule d.index d.list s (s.tables.lists rule is) d.at in
          let there : has (list_at g.board.lists o.1) t ≡ true = sym (stands_is g rule o.0 o.1 t x s is o.2 et)
          ∙ ap (λ l. has l x) o.3 ∙ d.passes in
          let same : h ≡ o.1 = some_eq (sym e ∙ head_of-list_at g.board.lists o.1 t there (s.sound.once t)) in
          ap (λ (z : Option (List ℕ)). unwrap_or z []) d.is ∙ sym o.3 ∙ ap (numbers_under g.board g.numbers) (sym same)
          ∙ ap (map (number_at g.numbers)) (sym (head_of-found g.board.lists t h e).2)
    ]) refl

-- seats of that list have numbers of their own
holding_apart : (g : StoreParts) (rule : SetShape) (t x : ℕ) → IsStore g → IsSet g.tables.sets rule
    → seat_at g.rows rule x ≡ Some t → (u : ℕ) → has (list_of g.board.lists t) u ≡ true
    → number_at g.numbers u ≡ number_at g.numbers t → u ≡ t
holding_apart g rule t x s is et u f e =
    (elim (head_of g.board.lists t) as (λ q. head_of g.board.lists t ≡ q → u ≡ t) [
      | None ↦ λ w. absurd (let l = list_of-free g.board.lists t (times-free g.board.lists t w) in
          let bad : has [] u ≡ true = ap (λ z. has z u) (sym l) ∙ f in cc)
      | Some h ↦ λ w.
          let k = head_of-found g.board.lists t h w in
          let o = owner_of_seat g rule h t x s is et k.1 in
          apart g rule o.0 h t x s is o.1 et u (ap (λ z. has z u) (sym k.2) ∙ f) e
    ]) refl

-- a seat of that list has a number
holding_in : (g : StoreParts) (rule : SetShape) (t x at : ℕ) → IsStore g → IsSet g.tables.sets rule
    → seat_at g.rows rule x ≡ Some t → has (list_of g.board.lists t) at ≡ true → at < length g.numbers
holding_in g rule t x at s is et f =
    (elim (head_of g.board.lists t) as (λ q. head_of g.board.lists t ≡ q → at < length g.numbers) [
      | None ↦ λ w. absurd (let l = list_of-free g.board.lists t (times-free g.board.lists t w) in
          let bad : has [] at ≡ true = ap (λ z. has z at) (sym l) ∙ f in cc)
      | Some h ↦ λ w.
          let k = head_of-found g.board.lists t h w in
          let o = owner_of_seat g rule h t x s is et k.1 in
          in_list g rule o.0 h at s is o.1 (ap (λ z. has z at) (sym k.2) ∙ f)
    ]) refl

-- ---- calls

pub kept_seat : (g : StoreParts) (v : StoreValue) (set : ℕ) (rule : SetShape) (x t : ℕ) → Case g v set rule
    → seat_at g.rows rule x ≡ Some t → t < g.board.seats
kept_seat g v set rule x t k e = seat_below g rule x t k.store k.is_set e

pub predecessor_none : (g : StoreParts) (v : StoreValue) (set : ℕ) (rule : SetShape) (x : ℕ) → Case g v set rule
    → seat_at g.rows rule x ≡ None → Err NoEntity ≡ predecessor (set_of v.tables set) v.state x
predecessor_none g v set rule x k e = sym
    (over g v set rule (λ r s. predecessor r s x) (Err NoEntity) k
    (rw (member_is g rule x k.store ∙ ap is_some e) refl))

pub predecessor_is : (g : StoreParts) (v : StoreValue) (set : ℕ) (rule : SetShape) (x t : ℕ) (n b : Option ℕ)
    → Case g v set rule → seat_at g.rows rule x ≡ Some t → n ≡ prev_in (list_of g.board.lists t) t
    → b ≡ option_map (number_at g.numbers) n → Ok b ≡ predecessor (set_of v.tables set) v.state x
predecessor_is g v set rule x t n b k e en eb =
    let value : prev_in (list_holding rule (state_of g) x) x ≡ b =
    (λ i. prev_in (holding_is g rule t x k.store k.is_set e i) (sym (seat_number g rule x t k.store k.is_set e) i))
    ∙ map-seat_before (number_at g.numbers) (list_of g.board.lists t) t (holding_apart g rule t x k.store k.is_set e)
    ∙ ap (option_map (number_at g.numbers)) (sym en) ∙ sym eb in
    sym (over g v set rule (λ r s. predecessor r s x) (Ok b) k
    (rw (member_is g rule x k.store ∙ ap is_some e) (ap Ok value)))

pub predecessor_below : (g : StoreParts) (v : StoreValue) (set : ℕ) (rule : SetShape) (x t : ℕ) (n : Option ℕ)
    → Case g v set rule → seat_at g.rows rule x ≡ Some t → n ≡ prev_in (list_of g.board.lists t) t
    → ForSome n (λ at. at < length g.numbers)
predecessor_below g v set rule x t n k e en at is =
    holding_in g rule t x at k.store k.is_set e (has-seat_before (list_of g.board.lists t) t at (sym en ∙ is))

pub successor_none : (g : StoreParts) (v : StoreValue) (set : ℕ) (rule : SetShape) (x : ℕ) → Case g v set rule
    → seat_at g.rows rule x ≡ None → Err NoEntity ≡ successor (set_of v.tables set) v.state x
successor_none g v set rule x k e = sym (over g v set rule (λ r s. successor r s x) (Err NoEntity) k
    (rw (member_is g rule x k.store ∙ ap is_some e) refl))

pub successor_is : (g : StoreParts) (v : StoreValue) (set : ℕ) (rule : SetShape) (x t : ℕ) (n b : Option ℕ)
    → Case g v set rule → seat_at g.rows rule x ≡ Some t → n ≡ next_in (list_of g.board.lists t) t
    → b ≡ option_map (number_at g.numbers) n → Ok b ≡ successor (set_of v.tables set) v.state x
successor_is g v set rule x t n b k e en eb =
    let value : next_in (list_holding rule (state_of g) x) x ≡ b =
    (λ i. next_in (holding_is g rule t x k.store k.is_set e i) (sym (seat_number g rule x t k.store k.is_set e) i))
    ∙ map-seat_behind (number_at g.numbers) (list_of g.board.lists t) t (holding_apart g rule t x k.store k.is_set e)
    ∙ ap (option_map (number_at g.numbers)) (sym en) ∙ sym eb in
    sym (over g v set rule (λ r s. successor r s x) (Ok b) k
    (rw (member_is g rule x k.store ∙ ap is_some e) (ap Ok value)))

pub successor_below : (g : StoreParts) (v : StoreValue) (set : ℕ) (rule : SetShape) (x t : ℕ) (n : Option ℕ)
    → Case g v set rule → seat_at g.rows rule x ≡ Some t → n ≡ next_in (list_of g.board.lists t) t
    → ForSome n (λ at. at < length g.numbers)
successor_below g v set rule x t n k e en at is =
    holding_in g rule t x at k.store k.is_set e (has-seat_behind (list_of g.board.lists t) t at (sym en ∙ is))

pub membership_none : (g : StoreParts) (v : StoreValue) (set : ℕ) (rule : SetShape) (x : ℕ) → Case g v set rule
    → seat_at g.rows rule x ≡ None → Err NoEntity ≡ membership (set_of v.tables set) v.state x
membership_none g v set rule x k e = sym
    (over g v set rule (λ r s. membership r s x) (Err NoEntity) k (rw (member_is g rule x k.store ∙ ap is_some e) refl))

pub membership_is : (g : StoreParts) (v : StoreValue) (set : ℕ) (rule : SetShape) (x t : ℕ) (q : Option ℕ) (b : Bool)
    → Case g v set rule → seat_at g.rows rule x ≡ Some t → q ≡ head_of g.board.lists t → b ≡ is_some q
    → Ok b ≡ membership (set_of v.tables set) v.state x
membership_is g v set rule x t q b k e eq eb =
    sym (over g v set rule (λ r s. membership r s x) (Ok b) k
    (rw (member_is g rule x k.store ∙ ap is_some e)
    (ap Ok (is_filed_is g rule t x k.store k.is_set e ∙ ap is_some (sym eq) ∙ sym eb))))

pub neighbours_none : (g : StoreParts) (v : StoreValue) (set : ℕ) (rule : SetShape) (x y : ℕ) → Case g v set rule
    → seat_at g.rows rule x ≡ None → x ≡ y → AreNeighbours (set_of v.tables set) v.state y (Err NoEntity)
neighbours_none g v set rule x y k e w = subst (λ z. AreNeighbours (set_of v.tables set) v.state z (Err NoEntity)) w (
  sym (predecessor_none g v set rule x k e),
  sym (successor_none g v set rule x k e),
  sym (membership_none g v set rule x k e),
)

pub neighbours_are : (g : StoreParts) (v : StoreValue) (set : ℕ) (rule : SetShape) (x y t : ℕ) (n : Neighbours)
    (earlier later place : Option ℕ) → Case g v set rule → seat_at g.rows rule x ≡ Some t → x ≡ y
    → earlier ≡ prev_in (list_of g.board.lists t) t → n.before ≡ option_map (number_at g.numbers) earlier
    → later ≡ next_in (list_of g.board.lists t) t → n.behind ≡ option_map (number_at g.numbers) later
    → place ≡ head_of g.board.lists t → n.is_filed ≡ is_some place
    → AreNeighbours (set_of v.tables set) v.state y (Ok n)
neighbours_are g v set rule x y t n earlier later place k e w ee eb el eh ep ef =
    subst (λ z. AreNeighbours (set_of v.tables set) v.state z (Ok n)) w (
      sym (predecessor_is g v set rule x t earlier n.before k e ee eb),
      sym (successor_is g v set rule x t later n.behind k e el eh),
      sym (membership_is g v set rule x t place n.is_filed k e ep ef),
    )
