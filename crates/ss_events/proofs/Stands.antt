-- The facts given by a pending notice's seat.
use Rattle.std.proofs.Common.{◌≡◌, ℕ, ◌≤◌, ◌<◌, ◌++◌, ◌||◌, true, false, cond, eqb, List, [], ◌∷◌, length, get_or}
use Rattle.std.proofs.Common.{Option, Some, None, refl, ap, ◌∙◌, arith, suc, zero, subst}
use Rattle.std.proofs.lemmas.Bool.Decides.{nat_tests}
use Rattle.std.specs.Option.{IsSome, option_map}
use Rattle.std.proofs.lemmas.Grind.{get_or_default_zero}
use Rattle.ss_links.specs.Board.{Board, list_at, head_of, list_of, IsSound}
use Rattle.ss_links.specs.Seats.{has, times_in, first_of, last_of, prev_in, next_in}
use Rattle.ss_links.proofs.SeatLaws.{times_in-append, times_in-present, seat_before-between, seat_behind-between}
use Rattle.ss_links.proofs.BoardLaws.{head_of-found, once-list_at}
use Rattle.ss_events.specs.Agenda.{Pending, of_class}
use Rattle.ss_events.specs.Agenda.{pending_at}
use Rattle.ss_events.specs.State.{AgendaState, seat_in, seats_of, order, board_of, Each, NoneNoted, IsPending}
use Rattle.ss_events.specs.Places.{notice_on, IsTaken}
use Rattle.ss_events.specs.declared.pending_notice.Row.{Row}
use Rattle.ss_events.specs.Rules.{is_event_class, event_classes, event_number}
use Rattle.ss_events.proofs.EventLaws.{list_at-by, length-lists_by}
use Rattle.ss_events.specs.declared.pending_notice.PendingNotice.{PendingNotice}
use Rattle.ss_events.specs.Views.{notice_of}
use Rattle.ss_events.specs.Rows.{IsAgenda, IsEntry}
use Rattle.ss_events.proofs.RowLaws.{AreNoted-from, pending_at-each}
use Rattle.ss_events.proofs.OrderLaws.{AreNoted, Each-of_class, Each-map}
use Rattle.ss_events.proofs.StateLaws.{seat_in-below, seat_in-notice}
use Rattle.ss_events.proofs.BeforeLaws.{IsKeyed}
use Rattle.ss_events.proofs.BoardOf.{IsTold, class_seats, Each-order, linked-seat}

-- each notice is the one with its number
pub Each-pending_at : (es : List Pending) → AreNoted es → Each (λ e. pending_at es e.notice ≡ Some e) es
Each-pending_at [] h = tt
Each-pending_at (e ∷ es) h =
    let same : eqb e.notice e.notice ≡ true = grind (arith, nat_tests) in
    (rw same refl, later e es h.0 es h.0 (Each-pending_at es h.1))
  where
    later : (e : Pending) (all : List Pending) → NoneNoted e.notice all → (es : List Pending) →
        NoneNoted e.notice es → Each (λ f. pending_at all f.notice ≡ Some f) es →
        Each (λ f. pending_at (e ∷ all) f.notice ≡ Some f) es
    later e all n [] h k = tt
    later e all n (f ∷ fs) h k = let apart : eqb e.notice f.notice ≡ false = grind (arith, nat_tests, h.0) in
        (rw apart k.0, later e all n fs h.1 k.1)

pub Each-class : (c : ℕ) (es : List Pending) → Each (λ e. e.class ≡ c) (of_class c es)
Each-class c [] = tt
Each-class c (e ∷ es) = elim (eqb e.class c)
    as (λ t. eqb e.class c ≡ t → Each (λ f. f.class ≡ c) (cond t (e ∷ of_class c es) (of_class c es))) [
      | true ↦ λ t. (grind (arith, nat_tests, t), Each-class c es)
      | false ↦ λ t. Each-class c es
    ] refl

-- a property of each notice is a property of the one between two parts
pub each-between : (P : Pending → Type 0) (a b : List Pending) (f : Pending) → Each P (a ++ f ∷ b) → P f
each-between P [] b f h = h.0
each-between P (e ∷ es) b f h = each-between P es b f h.1

pub once-between : (a b : List ℕ) (x : ℕ) → times_in (a ++ x ∷ b) x ≤ 1 → (has a x ≡ false) × (has b x ≡ false)
once-between a b x h =
    let count = times_in-append a (x ∷ b) x in
    let same : eqb x x ≡ true = grind (arith, nat_tests) in (
      elim (has a x) as (λ t. has a x ≡ t → t ≡ false) [
        | true ↦ λ t. absurd (grind (arith, nat_tests, count, times_in-present a x t))
        | false ↦ λ t. refl
      ] refl,
      elim (has b x) as (λ t. has b x ≡ t → t ≡ false) [
        | true ↦ λ t. absurd (grind (arith, nat_tests, count, times_in-present b x t))
        | false ↦ λ t. refl
      ] refl,
    )

pub seats_of-append : (ns : List ℕ) (a b : List Pending) → seats_of ns (a ++ b) ≡ seats_of ns a ++ seats_of ns b
seats_of-append ns [] b = refl
seats_of-append ns (e ∷ es) b = ap (λ (l : List ℕ). seat_in ns e.notice ∷ l) (seats_of-append ns es b)

-- the facts known about the seat of a notice between two parts of its class's notices
pub record Stands (s : AgendaState) (c : ℕ) (a : List Pending) (f : Pending) (b : List Pending) : Type 0 where
  pub seat : seat_in s.notices f.notice < length s.notices
  pub notice : notice_on s (seat_in s.notices f.notice) ≡ f.notice
  pub pending : pending_at s.agenda.pending f.notice ≡ Some f
  pub class : f.class ≡ c
  pub prev : prev_in (list_of (board_of s).lists (seat_in s.notices f.notice)) (seat_in s.notices f.notice) ≡
      last_of (seats_of s.notices a)
  pub next : next_in (list_of (board_of s).lists (seat_in s.notices f.notice)) (seat_in s.notices f.notice) ≡
      first_of (seats_of s.notices b)

pub stands : (s : AgendaState) (c : ℕ) (a : List Pending) (f : Pending) (b : List Pending) → IsTold s →
    IsSound (board_of s) → is_event_class s.rules c ≡ true → of_class c (order s) ≡ a ++ f ∷ b → Stands s c a f b
stands s c a f b t sound k h =
    let P : (Q : Pending → Type 0) → Each Q s.agenda.pending →
    Q f = λ Q q. each-between Q a b f (rw h at (Each-of_class Q c (order s) (Each-order Q s t q))) in
    let has_seat = P (λ e. has s.notices e.notice ≡ true) t.seated in
    let pending = P (λ e. pending_at s.agenda.pending e.notice ≡ Some e) (Each-pending_at s.agenda.pending t.noted) in
    let class = each-between (λ e. e.class ≡ c) a b f (rw h at (Each-class c (order s))) in
    let linked : head_of (board_of s).lists (seat_in s.notices f.notice) ≡ Some (event_number s.rules c) =
    linked-seat s f.notice f t sound (rw class k) pending ∙ ap (λ (d : ℕ). Some (event_number s.rules d)) class in
    let found = head_of-found (board_of s).lists (seat_in s.notices f.notice) (event_number s.rules c) linked in
    let here : list_at (board_of s).lists (event_number s.rules c) ≡ seats_of s.notices a ++ seat_in s.notices f.notice
    ∷ seats_of s.notices
    b = list_at-by (class_seats s) s.rules c k ∙ (ap (seats_of s.notices) h ∙
    seats_of-append s.notices a (f ∷ b)) in
    let apart = once-between (seats_of s.notices a) (seats_of s.notices b) (seat_in s.notices f.notice) (rw here at
    (once-list_at (board_of s) sound (event_number s.rules c) (seat_in s.notices f.notice))) in
    record {
      seat = seat_in-below s.notices f.notice has_seat;
      notice = seat_in-notice s.notices f.notice 0 has_seat;
      pending = pending;
      class = class;
      prev = rw (found.2, here) (seat_before-between (seats_of s.notices a) (seats_of s.notices b) (seat_in s.notices
          f.notice) apart.0 apart.1);
      next = rw (found.2, here) (seat_behind-between (seats_of s.notices a) (seats_of s.notices b) (seat_in s.notices
          f.notice) apart.0);
    }

pub taken-stands : (s : AgendaState) (c : ℕ) (a : List Pending) (f : Pending) (b : List Pending) →
    Stands s c a f b → IsTaken s (seat_in s.notices f.notice)
taken-stands s c a f b t = record { made = t.seat; pending = rw (t.notice, t.pending) refl }

-- the facts about the state that the invariant gives
pub told : (rows : List Row) (s : AgendaState) (b : Board) → IsAgenda rows s b → IsTold s
told rows s b k = record {
  noted = rw k.read (AreNoted-from 1 rows);
  filed = k.filed;
  seated = Each-map (IsPending s.rules s.notices s.agenda.next_filing) (λ e. has s.notices e.notice ≡ true) (λ e p.
      p.seat) s.agenda.pending k.pending;
  keyed = Each-map (IsPending s.rules s.notices s.agenda.next_filing) (IsKeyed s.rules) (λ e p. (
    p.well.class,
    p.well.keys,
  )) s.agenda.pending k.pending;
  ranked = k.ranked;
}

-- the state's invariant, from that of the fields
pub kept : (rows : List Row) (r s : AgendaState) (b : Board) → r ≡ s → IsAgenda rows r b → IsAgenda rows s b
kept rows r s b e k = subst (λ (t : AgendaState). IsAgenda rows t b) e k

pub has-get_or : (ns : List ℕ) (i d : ℕ) → i < length ns → has ns (get_or ns i d) ≡ true
has-get_or [] i d h = absurd (omega arith)
has-get_or (n ∷ ns) zero d h = let same : eqb n n ≡ true = grind (arith, nat_tests) in rw same refl
has-get_or (n ∷ ns) (suc i) d h = rw (has-get_or ns i d (omega arith)) (elim (eqb n (get_or ns i d))
    as (λ t. (t || true) ≡ true) [
      | true ↦ refl
      | false ↦ refl
    ])

-- the notice of a seat is a number
pub notice_on-above : (rows : List Row) (s : AgendaState) (b : Board) (x : ℕ) → IsAgenda rows s b →
    x < length s.notices → 0 < notice_on s x
notice_on-above rows s b x k h = (k.seated (notice_on s x) (has-get_or s.notices x 0 h)).0

-- the entry of a pending notice is one of its class
pub entry-pending : (rows : List Row) (s : AgendaState) (b : Board) (n : ℕ) (y : PendingNotice) → IsAgenda rows s b →
    pending_at s.agenda.pending n ≡ Some (notice_of n y) → IsEntry s.rules y
entry-pending rows s b n y k h = let p = (pending_at-each (IsPending s.rules s.notices s.agenda.next_filing)
    s.agenda.pending n (notice_of n y) k.pending h).0 in (p.well.class, p.well.keys)

pub length-lists : (rows : List Row) (s : AgendaState) (b : Board) → IsAgenda rows s b →
    length b.lists ≡ length (event_classes s.rules)
length-lists rows s b k = rw k.board (length-lists_by (class_seats s) s.rules)

pub sound_board : (rows : List Row) (s : AgendaState) (b : Board) → IsAgenda rows s b → IsSound (board_of s)
sound_board rows s b k = rw k.board at k.sound

-- a number that is read off a list
pub on-index : (ms ns : List ℕ) (i r : ℕ) → ms ≡ ns → i < length ns → r ≡ get_or ms i r → r ≡ get_or ns i 0
on-index ms ns i r e h k = k ∙ (ap (λ (l : List ℕ). get_or l i r) e ∙ get_or_default_zero ns i r h)

pub is-some-map : {A B : Type 0} (f : A → B) (o : Option A) → IsSome (option_map f o) → IsSome o
is-some-map f None h = h
is-some-map f (Some a) h = refl
