-- The member that is removed.
use Rattle.std.proofs.Common.{◌≡◌, ◌⊎◌, inl, inr, ℕ, ℤ, ◌<◌, List, length, refl, ap, sym, subst, ◌∙◌, arith, Option}
use Rattle.std.proofs.Common.{Some, None, true, false}
use Rattle.std.specs.Prelude.{Result, Ok, Err, is_some}
use Rattle.std.specs.Option.{option_map, ForSome, IsSome}
use Rattle.ss_words.specs.declared.fault.RunFault.{RunFault}
use Rattle.ss_words.specs.declared.fault.RunFault.TheVariants.{NoEntity, NotInList, EmptySet}
use Rattle.ss_links.specs.Board.{Board, IsSound, list_at, list_of, head_of, after_unlink}
use Rattle.ss_links.specs.Seats.{has, first_of, last_of, prev_in, list_without}
use Rattle.ss_links.proofs.BoardLaws.{head_of-list_at}
use Rattle.ss_links.proofs.SeatLaws.{has-last_of, has-seat_before}
use Rattle.ss_store.specs.declared.shape.SetShape.{SetShape}
use Rattle.ss_store.specs.declared.shape.Which.{Which}
use Rattle.ss_store.specs.declared.shape.Which.TheVariants as which
use Rattle.ss_store.specs.declared.change.StoreChange.{StoreChange}
use Rattle.ss_store.specs.declared.change.StoreChange.TheVariants.{Removed}
use Rattle.ss_store.specs.Tables.{Tables, set_of}
use Rattle.ss_store.specs.Store.{Store, number_of, exists, is_owner, members_of, with_list}
use Rattle.ss_store.specs.Filing.{or_fault, member_named, without_member, after_removing}
use Rattle.ss_store.specs.Change.{IsRemoval, Leaves}
use Rattle.ss_store.specs.Invariant.{IsStore}
use Rattle.ss_store.specs.Parts.{StoreParts, head_at, seat_at, number_at, state_of, value_of}
use Rattle.ss_store.specs.Tables.{IsSet}
use Rattle.ss_store.specs.Value.{StoreValue}
use Rattle.ss_store.specs.Finding.{seat_to_remove}
use Rattle.ss_store.proofs.Core.{seat_number, member_of}
use Rattle.ss_store.proofs.Agree.{member_is, owner_is, members_look, seat_below, numbers_length}
use Rattle.ss_store.proofs.FilingChanges.{ok_eq, ok_err, err_eq, standing_ok, standing_err, stands_there}
use Rattle.ss_store.proofs.Calls.{Case, over}
use Rattle.ss_store.proofs.ReadingAnswers.{first-map, last-map, has-first}
use Rattle.ss_store.proofs.RemovalChanges.{Cuts, cut_store, cut_before, cut_leaves}

-- a member named, with its seat
pub record Names (g : StoreParts) (rule : SetShape) (o h t : ℕ) (w : Which) : Type 0 where
  pub x : ℕ
  pub number : number_at g.numbers t ≡ x
  pub seat : seat_at g.rows rule x ≡ Some t
  pub stands : head_of g.board.lists t ≡ Some h
  pub named : member_named rule (state_of g) (members_of rule (state_of g) o) w ≡ Ok x

names_here : (g : StoreParts) (rule : SetShape) (o h t : ℕ) (w : Which) → IsStore g → IsSet g.tables.sets rule
    → head_at g.rows rule o ≡ Some h → has (list_at g.board.lists h) t ≡ true
    → ((x : ℕ) → number_at g.numbers t ≡ x → member_named rule (state_of g) (members_of rule (state_of g) o) w ≡ Ok x)
    → Names g rule o h t w
names_here g rule o h t w s is eh e f =
    let m = member_of g rule o h t s is eh e in
    record {
      x = m.number;
      number = m.is;
      seat = m.seat;
      stands = head_of-list_at g.board.lists h t e (s.sound.once t);
      named = f m.number m.is;
    }

fault_ok : (f : RunFault) (o : Option ℕ) (t : ℕ) → or_fault f o ≡ Ok t → o ≡ Some t
fault_ok f None t e = absurd (ok_err t f (sym e))
fault_ok f (Some u) t e = ap Some (ok_eq e)

fault_err : (f : RunFault) (o : Option ℕ) (e : RunFault) → or_fault f o ≡ Err e → (o ≡ None) × (f ≡ e)
fault_err f None e w = (refl, err_eq w)
fault_err f (Some u) e w = absurd (ok_err u e w)

pub names : (g : StoreParts) (rule : SetShape) (o h t : ℕ) (w : Which) → IsStore g → IsSet g.tables.sets rule
    → head_at g.rows rule o ≡ Some h → seat_to_remove g.rows g.board.lists rule h w ≡ Ok t → Names g rule o h t w
names g rule o h t which.First s is eh e =
    let f = fault_ok EmptySet (first_of (list_at g.board.lists h)) t e in
    names_here g rule o h t which.First s is eh (has-first (list_at g.board.lists h) t f) (λ x n.
    ap (λ l. or_fault EmptySet (first_of l)) (members_look g rule o h s is eh)
    ∙ ap (or_fault EmptySet) (first-map (number_at g.numbers) (list_at g.board.lists h)
    ∙ ap (option_map (number_at g.numbers)) f ∙ ap Some n))
names g rule o h t which.Last s is eh e =
    let f = fault_ok EmptySet (last_of (list_at g.board.lists h)) t e in
    names_here g rule o h t which.Last s is eh (has-last_of (list_at g.board.lists h) t f) (λ x n.
    ap (λ l. or_fault EmptySet (last_of l)) (members_look g rule o h s is eh)
    ∙ ap (or_fault EmptySet) (last-map (number_at g.numbers) (list_at g.board.lists h)
    ∙ ap (option_map (number_at g.numbers)) f ∙ ap Some n))
names g rule o h t (which.Member y) s is eh e =
    let k = standing_ok g.board.lists h (seat_at g.rows rule (number_of y)) t e in
    record {
      x = number_of y;
      number = seat_number g rule (number_of y) t s is k.0;
      seat = k.0;
      stands = k.1;
      named = rw (
        member_is g rule (number_of y) s
            ∙ ap is_some k.0,
        stands_there g rule o h t (number_of y) s is eh k.0 k.1,
      ) refl;
    }

unnamed_member : (rule : SetShape) (st : Store) (ks : List ℕ) (y : ℤ) (e : RunFault)
    → ((e ≡ NoEntity) × (exists st rule.member (number_of y) ≡ false))
    ⊎ ((e ≡ NotInList) × (exists st rule.member (number_of y) ≡ true) × (has ks (number_of y) ≡ false))
    → member_named rule st ks (which.Member y) ≡ Err e
unnamed_member rule st ks y e (inl a) = rw a.1 (ap Err (sym a.0))
unnamed_member rule st ks y e (inr a) = rw (a.1, a.2) (ap Err (sym a.0))

pub unnamed : (g : StoreParts) (rule : SetShape) (o h : ℕ) (e : RunFault) (w : Which) → IsStore g
    → IsSet g.tables.sets rule
    → head_at g.rows rule o ≡ Some h → seat_to_remove g.rows g.board.lists rule h w ≡ Err e
    → member_named rule (state_of g) (members_of rule (state_of g) o) w ≡ Err e
unnamed g rule o h e which.First s is eh w =
    let f = fault_err EmptySet (first_of (list_at g.board.lists h)) e w in
    ap (λ l. or_fault EmptySet (first_of l)) (members_look g rule o h s is eh)
    ∙ ap (or_fault EmptySet) (first-map (number_at g.numbers) (list_at g.board.lists h)
    ∙ ap (option_map (number_at g.numbers)) f.0) ∙ ap Err f.1
unnamed g rule o h e which.Last s is eh w =
    let f = fault_err EmptySet (last_of (list_at g.board.lists h)) e w in
    ap (λ l. or_fault EmptySet (last_of l)) (members_look g rule o h s is eh)
    ∙ ap (or_fault EmptySet) (last-map (number_at g.numbers) (list_at g.board.lists h)
    ∙ ap (option_map (number_at g.numbers)) f.0) ∙ ap Err f.1
unnamed g rule o h e (which.Member y) s is eh w =
    unnamed_member rule (state_of g) (members_of rule (state_of g) o) y e
    (standing_err g rule o h (number_of y) (seat_at g.rows rule (number_of y)) e s is eh refl w)

-- ---- the results of REMOVE

faulted : (s : Result (ℕ × Store) RunFault) (e : RunFault) (v : StoreValue) → s ≡ Err e → IsRemoval (Err e) s v v
faulted s e v w = rw w (refl, refl)

no_owner : (rule : SetShape) (st : Store) (o : ℕ) (w : Which) → is_owner rule st o ≡ false
    → after_removing rule st o w ≡ Err NoEntity
no_owner rule st o w a = rw a refl

removed_err : (rule : SetShape) (st : Store) (o : ℕ) (w : Which) (e : RunFault) → is_owner rule st o ≡ true
    → member_named rule st (members_of rule st o) w ≡ Err e → after_removing rule st o w ≡ Err e
removed_err rule st o w e a n = rw a (ap (without_member rule st o) n)

removed_ok : (rule : SetShape) (st : Store) (o x : ℕ) (w : Which) → is_owner rule st o ≡ true
    → member_named rule st (members_of rule st o) w ≡ Ok x
    → after_removing rule st o w ≡ Ok (x, with_list rule st o (list_without (members_of rule st o) x))
removed_ok rule st o x w a n = rw a (ap (without_member rule st o) n)

pub remove_no_owner : (g : StoreParts) (v : StoreValue) (set : ℕ) (rule : SetShape) (o : ℕ) (w : Which)
    → Case g v set rule
    → head_at g.rows rule o ≡ None → IsRemoval (Err NoEntity) (after_removing (set_of v.tables set) v.state o w) v v
remove_no_owner g v set rule o w k e = faulted _ NoEntity v
    (over g v set rule (λ r s. after_removing r s o w) (Err NoEntity) k
    (no_owner rule (state_of g) o w (owner_is g rule o k.store ∙ ap is_some e)))

pub remove_unnamed : (g : StoreParts) (v : StoreValue) (set : ℕ) (rule : SetShape) (o h : ℕ) (d : RunFault) (w : Which)
    → Case g v set rule → head_at g.rows rule o ≡ Some h → seat_to_remove g.rows g.board.lists rule h w ≡ Err d
    → IsRemoval (Err d) (after_removing (set_of v.tables set) v.state o w) v v
remove_unnamed g v set rule o h d w k e f = faulted _ d v (over g v set rule (λ r s. after_removing r s o w) (Err d) k
    (removed_err rule (state_of g) o w d (owner_is g rule o k.store
    ∙ ap is_some e) (unnamed g rule o h d w k.store k.is_set e f)))

cuts : (g : StoreParts) (v : StoreValue) (new : Board) (set : ℕ) (rule : SetShape) (o h t : ℕ) (w : Which)
    (k : Case g v set rule) (e : head_at g.rows rule o ≡ Some h)
    (f : seat_to_remove g.rows g.board.lists rule h w ≡ Ok t)
    → new ≡ after_unlink g.board t → IsSound new
    → Cuts g new rule o (names g rule o h t w k.store k.is_set e f).x h t
cuts g v new set rule o h t w k e f is sound = let n = names g rule o h t w k.store k.is_set e f in
    record { store = k.store; is_set = k.is_set; head = e; seat = n.seat; stands = n.stands; board = is; sound = sound }

pub remove_store : (g : StoreParts) (v : StoreValue) (new : Board) (set : ℕ) (rule : SetShape) (o h t : ℕ) (w : Which)
    → Case g v set rule → head_at g.rows rule o ≡ Some h → seat_to_remove g.rows g.board.lists rule h w ≡ Ok t
    → new ≡ after_unlink g.board t → IsSound new → IsStore (record g { board = new })
remove_store g v new set rule o h t w k e f is sound =
    cut_store g new rule o _ h t (cuts g v new set rule o h t w k e f is sound)

pub remove_left : (g : StoreParts) (v : StoreValue) (new : Board) (set : ℕ) (rule : SetShape) (o h t : ℕ) (w : Which)
    (p : Option ℕ) (x : ℕ) (b : Option ℕ) → Case g v set rule → head_at g.rows rule o ≡ Some h
    → seat_to_remove g.rows g.board.lists rule h w ≡ Ok t → new ≡ after_unlink g.board t → IsSound new
    → p ≡ prev_in (list_of g.board.lists t) t → x ≡ number_at g.numbers t → b ≡ option_map (number_at g.numbers) p
    → IsRemoval (Ok (x, Removed set rule.owner rule.list o x b)) (after_removing (set_of v.tables set) v.state o w) v
    (value_of (record g { board = new }))
remove_left g v new set rule o h t w p x b k e f is sound eb ex ebn =
    let n = names g rule o h t w k.store k.is_set e f in
    let tables : g.tables ≡ v.tables = ap (λ (z : StoreValue). z.tables) k.is in
    let c = cuts g v new set rule o h t w k e f is sound in
    let left = cut_leaves g new set rule o n.x h t p c
    (subst (λ (z : Tables). set < length z.sets) (sym tables) k.below) (ap (λ z. set_of z set) tables ∙ k.at) (eb
    ∙ cut_before g h t n.stands) in
    let ok = over g v set rule (λ r s. after_removing r s o w)
    (Ok (n.x, with_list rule (state_of g) o (list_without (members_of rule (state_of g) o) n.x))) k
    (removed_ok rule (state_of g) o n.x w (owner_is g rule o k.store ∙ ap is_some e) n.named) in
    let same : x ≡ n.x = ex ∙ n.number in
    subst (λ z. IsRemoval (Ok (x, Removed set rule.owner rule.list o x b)) z v (value_of (record g { board = new })))
    (sym ok) (
      same,
      subst (λ z. Leaves (Removed set rule.owner rule.list o z b)
          (with_list rule (state_of g) o (list_without (members_of rule (state_of g) o) n.x)) v
          (value_of (record g { board = new }))) (sym same)
          (subst (λ z. Leaves (Removed set rule.owner rule.list o n.x z)
          (with_list rule (state_of g) o (list_without (members_of rule (state_of g) o) n.x)) v
          (value_of (record g { board = new }))) (sym ebn)
          (subst (λ (z : StoreValue). Leaves (Removed set rule.owner rule.list o n.x
          (option_map (number_at g.numbers) p)) (with_list rule (state_of g) o
          (list_without (members_of rule (state_of g) o) n.x)) z (value_of (record g { board = new }))) k.is left)),
    )

pub named_below : (g : StoreParts) (v : StoreValue) (set : ℕ) (rule : SetShape) (o h t : ℕ) (w : Which)
    → Case g v set rule
    → head_at g.rows rule o ≡ Some h → seat_to_remove g.rows g.board.lists rule h w ≡ Ok t → t < g.board.seats
named_below g v set rule o h t w k e f = let n = names g rule o h t w k.store k.is_set e f in
    seat_below g rule n.x t k.store k.is_set n.seat

pub named_linked : (g : StoreParts) (v : StoreValue) (set : ℕ) (rule : SetShape) (o h t : ℕ) (w : Which)
    → Case g v set rule
    → head_at g.rows rule o ≡ Some h → seat_to_remove g.rows g.board.lists rule h w ≡ Ok t
    → IsSome (head_of g.board.lists t)
named_linked g v set rule o h t w k e f = let n = names g rule o h t w k.store k.is_set e f in rw n.stands refl

pub named_number : (g : StoreParts) (v : StoreValue) (set : ℕ) (rule : SetShape) (o h t : ℕ) (w : Which)
    → Case g v set rule
    → head_at g.rows rule o ≡ Some h → seat_to_remove g.rows g.board.lists rule h w ≡ Ok t → t < length g.numbers
named_number g v set rule o h t w k e f = let b = named_below g v set rule o h t w k e f in
    let n = numbers_length g k.store in omega (arith, b, n)

pub before_below : (g : StoreParts) (v : StoreValue) (set : ℕ) (rule : SetShape) (o h t : ℕ) (w : Which) (p : Option ℕ)
    → Case g v set rule → head_at g.rows rule o ≡ Some h → seat_to_remove g.rows g.board.lists rule h w ≡ Ok t
    → p ≡ prev_in (list_of g.board.lists t) t → ForSome p (λ at. at < length g.numbers)
before_below g v set rule o h t w p k e f b at is =
    let n = names g rule o h t w k.store k.is_set e f in
    let m = member_of g rule o h at k.store k.is_set e
    (has-seat_before (list_at g.board.lists h) t at (sym (cut_before g h t n.stands) ∙ sym b ∙ is)) in
    let s = numbers_length g k.store in
    let l = seat_below g rule m.number at k.store k.is_set m.seat in
    omega (arith, l, s)

-- the same of the number that a value names
pub remove_to : (r : Result (ℕ × StoreChange) RunFault) (v w : StoreValue) (set o y : ℕ) (which : Which) → o ≡ y
    → IsRemoval r (after_removing (set_of v.tables set) v.state o which) v w
    → IsRemoval r (after_removing (set_of v.tables set) v.state y which) v w
remove_to r v w set o y which eo d = subst
    (λ n. IsRemoval r (after_removing (set_of v.tables set) v.state n which) v w) eo d
