-- Laws of the board of a state.
use Rattle.std.proofs.Common.{◌≡◌, ℕ, ◌+◌, ◌<◌, ◌++◌, Bool, true, false, cond, eqb, ltb, List, [], ◌∷◌, length}
use Rattle.std.proofs.Common.{Option, Some, None, refl, sym, ap, ◌∙◌, arith, suc, length-append, get_or}
use Rattle.std.proofs.lemmas.Bool.Decides.{nat_tests}
use Rattle.ss_links.specs.Board.{Board, list_at, head_of, IsSound, CanRelink, with_seat, after_relink, after_unlink}
use Rattle.ss_links.specs.Seats.{has, put_at}
use Rattle.ss_links.specs.Seats.{list_without as without_seat}
use Rattle.ss_links.proofs.SeatLaws.{has-last_of}
use Rattle.ss_links.proofs.BoardLaws.{head_of-list_at}
use Rattle.ss_events.specs.Agenda.{Pending, is_before, without_notice, of_class}
use Rattle.ss_events.specs.Agenda.{pending_at, with_notice}
use Rattle.ss_events.specs.State.{AgendaState, seat_in, seats_of, order, board_of, Each, NoneNoted, NoneFiled, AreFiled}
use Rattle.ss_events.proofs.OrderLaws.{AreNoted, AreNoted-without, AreFiled-without, placed, sorted, Each-sorted}
use Rattle.ss_events.proofs.OrderLaws.{Each-of_class, Each-without, Each-with, sorted-with, without-sorted}
use Rattle.ss_events.proofs.OrderLaws.{of_class-placed, of_class-placed_other, of_class-without, IsSorted}
use Rattle.ss_events.proofs.OrderLaws.{IsSorted-sorted}
use Rattle.ss_events.specs.State.{AreRanked}
use Rattle.ss_events.specs.Agenda.{least}
use Rattle.ss_events.specs.Places.{first}
use Rattle.ss_events.proofs.OrderLaws.{first-sorted}
use Rattle.ss_events.proofs.BeforeLaws.{IsKeyed, IsOrder-is_before}
use Rattle.ss_events.proofs.InOrder.{in_order-sorted, least-first}
use Rattle.ss_events.specs.Places.{notices_passed, rank_place}
use Rattle.ss_events.specs.Changes.{with_pending, with_notices}
use Rattle.ss_events.proofs.StateLaws.{seat_in-below, AreSeated, AreNoted-sorted, AreNoted-of_class, seats_of-placed}
use Rattle.ss_events.proofs.StateLaws.{seats_of-without, seats_of-more, has-seats_of_none, has-seats_of_some}
use Rattle.ss_events.proofs.StateLaws.{has-passed}
use Rattle.ss_events.specs.Rules.{is_event_class, event_classes, event_number}
use Rattle.ss_events.proofs.EventLaws.{list_at-by, list_at-head, length-lists_by, lists_by-set, lists_by-map}
use Rattle.ss_events.proofs.EventLaws.{lists_by-same, event-at}

abbrev pub board_with : List (List ℕ) → ℕ → Board
board_with ls k = record { lists = ls; seats = k }

-- the pending notices have different numbers, different filing numbers, and seats
pub record IsTold (s : AgendaState) : Type 0 where
  pub noted : AreNoted s.agenda.pending
  pub filed : AreFiled s.agenda.pending
  pub seated : AreSeated s.notices s.agenda.pending
  pub keyed : Each (IsKeyed s.rules) s.agenda.pending
  pub ranked : AreRanked s.rules

-- the seats of a class's notices, in their order
abbrev pub class_seats : AgendaState → ℕ → List ℕ
class_seats s c = seats_of s.notices (of_class c (order s))

pub order-sorted : (s : AgendaState) → IsTold s → order s ≡ sorted (is_before s.rules) s.agenda.pending
order-sorted s t = in_order-sorted s.rules s.agenda t.ranked t.keyed t.filed t.noted

pub least-sorted : (s : AgendaState) → IsTold s → least s.rules s.agenda.pending ≡ first (order s)
least-sorted s t = least-first s.rules s.agenda.pending t.ranked t.keyed t.filed ∙
    (sym (first-sorted (is_before s.rules) s.agenda.pending t.noted) ∙ ap first (sym (order-sorted s t)))

pub Each-order : (P : Pending → Type 0) (s : AgendaState) → IsTold s → Each P s.agenda.pending → Each P (order s)
Each-order P s t h = rw (order-sorted s t) (Each-sorted P (is_before s.rules) s.agenda.pending h)

pub IsSorted-order : (s : AgendaState) → IsTold s → IsSorted (is_before s.rules) (order s)
IsSorted-order s t = rw (order-sorted s t) (IsSorted-sorted (IsKeyed s.rules) (is_before s.rules) (IsOrder-is_before
    s.rules t.ranked) s.agenda.pending t.keyed t.filed)

-- each has a key for each of its class's
pub AreKeyed-order : (s : AgendaState) → IsTold s → Each (IsKeyed s.rules) (order s)
AreKeyed-order s t = Each-order (IsKeyed s.rules) s t t.keyed

pub AreNoted-order : (s : AgendaState) → IsTold s → AreNoted (order s)
AreNoted-order s t = rw (order-sorted s t) (AreNoted-sorted (is_before s.rules) s.agenda.pending t.noted)

AreNoted-with : (e : Pending) (es : List Pending) → NoneNoted e.notice es → AreNoted es → AreNoted (with_notice e es)
AreNoted-with e [] n h = (tt, tt)
AreNoted-with e (f ∷ fs) n h = elim (ltb e.notice f.notice)
    as (λ t. AreNoted (cond t (e ∷ f ∷ fs) (f ∷ with_notice e fs))) [
      | true ↦ (n, h)
      | false ↦ let apart : eqb e.notice f.notice ≡ false = grind (arith, nat_tests, n.0) in
          (Each-with (λ g. eqb g.notice f.notice ≡ false) e fs apart h.0, AreNoted-with e fs n.1 h.1)
    ]

AreFiled-with : (e : Pending) (es : List Pending) → NoneFiled e.filing es → AreFiled es → AreFiled (with_notice e es)
AreFiled-with e [] n h = (tt, tt)
AreFiled-with e (f ∷ fs) n h = elim (ltb e.notice f.notice)
    as (λ t. AreFiled (cond t (e ∷ f ∷ fs) (f ∷ with_notice e fs))) [
      | true ↦ (n, h)
      | false ↦ let apart : eqb e.filing f.filing ≡ false = grind (arith, nat_tests, n.0) in
          (Each-with (λ g. eqb g.filing f.filing ≡ false) e fs apart h.0, AreFiled-with e fs n.1 h.1)
    ]

-- a notice that is not pending yet
pub record IsNew (s : AgendaState) (e : Pending) : Type 0 where
  pub notice : NoneNoted e.notice s.agenda.pending
  pub filing : NoneFiled e.filing s.agenda.pending
  pub seat : has s.notices e.notice ≡ true
  pub keyed : IsKeyed s.rules e

pub IsTold-with : (s : AgendaState) (e : Pending) → IsTold s → IsNew s e →
    IsTold (with_pending s (with_notice e s.agenda.pending))
IsTold-with s e t n = record {
  noted = AreNoted-with e s.agenda.pending n.notice t.noted;
  filed = AreFiled-with e s.agenda.pending n.filing t.filed;
  seated = Each-with (λ f. has s.notices f.notice ≡ true) e s.agenda.pending n.seat t.seated;
  keyed = Each-with (IsKeyed s.rules) e s.agenda.pending n.keyed t.keyed;
  ranked = t.ranked;
}

pub IsTold-without : (s : AgendaState) (n : ℕ) → IsTold s →
    IsTold (with_pending s (without_notice n s.agenda.pending))
IsTold-without s n t = record {
  noted = AreNoted-without n s.agenda.pending t.noted;
  filed = AreFiled-without n s.agenda.pending t.filed;
  seated = Each-without (λ f. has s.notices f.notice ≡ true) n s.agenda.pending t.seated;
  keyed = Each-without (IsKeyed s.rules) n s.agenda.pending t.keyed;
  ranked = t.ranked;
}

-- the order with one notice more, and with one less
pub order-with : (s : AgendaState) (e : Pending) → IsTold s → IsNew s e →
    order (with_pending s (with_notice e s.agenda.pending)) ≡ placed (is_before s.rules) e (order s)
order-with s e t n = order-sorted (with_pending s (with_notice e s.agenda.pending)) (IsTold-with s e t n) ∙
    (sorted-with (IsKeyed s.rules) (is_before s.rules) (IsOrder-is_before s.rules t.ranked) e s.agenda.pending n.keyed
    t.keyed n.filing ∙
    ap (placed (is_before s.rules) e) (sym (order-sorted s t)))

pub order-without : (s : AgendaState) (n : ℕ) → IsTold s →
    order (with_pending s (without_notice n s.agenda.pending)) ≡ without_notice n (order s)
order-without s n t = order-sorted (with_pending s (without_notice n s.agenda.pending)) (IsTold-without s n t) ∙
    (without-sorted (IsKeyed s.rules) (is_before s.rules)
    (IsOrder-is_before s.rules t.ranked) n s.agenda.pending t.keyed
    t.filed ∙
    ap (without_notice n) (sym (order-sorted s t)))

pub relinked-with : (s : AgendaState) (e : Pending) → IsTold s → IsNew s e →
    after_relink (board_of s) (seat_in s.notices e.notice) (rank_place s e) ≡ board_of (with_pending s (with_notice e
    s.agenda.pending))
relinked-with s e t n =
    let new = with_pending s (with_notice e s.agenda.pending) in
    let here = list_at-by (class_seats s) s.rules e.class n.keyed.0 in
    let same : eqb e.class e.class ≡ true = grind (arith, nat_tests) in
    let own : put_at (class_seats s e.class) (rank_place s e).before (seat_in s.notices e.notice) ≡ class_seats new
    e.class = seats_of-placed s.notices (is_before s.rules) e (of_class e.class (order s)) (Each-of_class (λ f. has
    s.notices f.notice ≡ true) e.class (order s) (Each-order (λ f. has s.notices f.notice ≡ true) s t t.seated))
    (AreNoted-of_class e.class (order s) (AreNoted-order s t)) ∙
    ap (seats_of s.notices) (sym (of_class-placed (IsKeyed s.rules) (is_before s.rules) (IsOrder-is_before s.rules
    t.ranked) e.class e (order s) n.keyed (AreKeyed-order s t) (IsSorted-order s t) same) ∙
    ap (of_class e.class) (sym (order-with s e t n))) in
    let lists = lists_by-set (class_seats s) (class_seats new) s.rules e.class n.keyed.0 (λ d a. ap
    (seats_of s.notices) (sym (of_class-placed_other (is_before s.rules) d e (order s) a) ∙
    ap (of_class d) (sym (order-with s e t n)))) in
    rw (here, own) (ap (λ (ls : List (List ℕ)). board_with ls (length s.notices)) lists)

pub unlinked-without : (s : AgendaState) (n : ℕ) → IsTold s → has s.notices n ≡ true →
    after_unlink (board_of s) (seat_in s.notices n) ≡ board_of (with_pending s (without_notice n s.agenda.pending))
unlinked-without s n t h =
    let new = with_pending s (without_notice n s.agenda.pending) in
    let each : (c : ℕ) → without_seat (class_seats s c) (seat_in s.notices n) ≡ class_seats new c = λ c.
    seats_of-without s.notices n (of_class c (order s)) h (Each-of_class (λ f. has s.notices f.notice ≡ true) c
    (order s) (Each-order (λ f. has s.notices f.notice ≡ true) s t t.seated)) ∙
    ap (seats_of s.notices) (sym (of_class-without c n (order s)) ∙
    ap (of_class c) (sym (order-without s n t))) in
    ap (λ (ls : List (List ℕ)). board_with ls (length s.notices)) (lists_by-map (class_seats s) (class_seats new) (λ
    l. without_seat l (seat_in s.notices n)) s.rules each)

-- a seat more
pub with_seat-more : (s : AgendaState) (n : ℕ) → IsTold s →
    with_seat (board_of s) ≡ board_of (with_notices s (s.notices ++ n ∷ []))
with_seat-more s n t =
    let new = with_notices s (s.notices ++ n ∷ []) in
    let each : (c : ℕ) → class_seats s c ≡ class_seats new c = λ c. sym (seats_of-more s.notices n (of_class c (order
    s)) (Each-of_class (λ f. has s.notices f.notice ≡ true) c (order s) (Each-order (λ f. has s.notices f.notice
    ≡ true) s t t.seated))) in
    let count : length s.notices + 1 ≡ length (s.notices ++ n ∷ []) = omega (
      arith,
      length-append s.notices (n ∷ []),
    ) in
    rw (← count) (ap (λ (ls : List (List ℕ)). board_with ls (length s.notices + 1)) (lists_by-same (class_seats s)
    (class_seats new) s.rules each))

-- a seat that no list has is free
head_of-none : (ls : List (List ℕ)) (x : ℕ) → ((c : ℕ) → c < length ls → has (list_at ls c) x ≡ false) →
    head_of ls x ≡ None
head_of-none [] x h = refl
head_of-none (l ∷ ls) x h = rw (h 0 (omega arith), head_of-none ls x (λ c k. h (suc c) (omega arith))) refl

pub free-seat : (s : AgendaState) (n : ℕ) → IsTold s → has s.notices n ≡ true → NoneNoted n s.agenda.pending →
    head_of (board_of s).lists (seat_in s.notices n) ≡ None
free-seat s n t h k =
    head_of-none (board_of s).lists (seat_in s.notices n) (λ c d.
    let own = get_or (event_classes s.rules) c 0 in
    let within : c < length (event_classes s.rules) = omega (arith, d, length-lists_by (class_seats s) s.rules) in
    rw (list_at-head (class_seats s) s.rules c within) (has-seats_of_none s.notices n (of_class own (order s)) h
    (Each-of_class (λ f. has s.notices f.notice ≡ true) own (order s) (Each-order (λ f. has s.notices f.notice ≡
    true) s t t.seated)) (Each-of_class (λ f. eqb f.notice n ≡ false) own (order s) (Each-order (λ f. eqb f.notice
    n ≡ false) s t k))))

-- the seat of a pending notice is in its class's list
pending_at-placed : (lt : Pending → Pending → Bool) (f : Pending) (es : List Pending) (n : ℕ) →
    NoneNoted f.notice es → pending_at (placed lt f es) n ≡ cond (eqb f.notice n) (Some f) (pending_at es n)
pending_at-placed lt f [] n h = refl
pending_at-placed lt f (g ∷ gs) n h = elim (lt f g)
    as (λ t. pending_at (cond t (f ∷ g ∷ gs) (g ∷ placed lt f gs)) n ≡ cond (eqb f.notice n) (Some f) (pending_at (g
    ∷ gs) n)) [
      | true ↦ refl
      | false ↦ rw (pending_at-placed lt f gs n h.1) (elim (eqb f.notice n)
          as (λ u. eqb f.notice n ≡ u → cond (eqb g.notice n) (Some g) (cond u (Some f) (pending_at gs n)) ≡ cond u
          (Some
          f) (cond (eqb g.notice n) (Some g) (pending_at gs n))) [
            | true ↦ λ u. let apart : eqb g.notice n ≡ false = grind (arith, nat_tests, u, h.0) in rw apart refl
            | false ↦ λ u. refl
          ] refl)
    ]

pending_at-of_class : (c n : ℕ) (e : Pending) (es : List Pending) → eqb e.class c ≡ true →
    pending_at es n ≡ Some e → pending_at (of_class c es) n ≡ Some e
pending_at-of_class c n e [] k h = absurd (cc)
pending_at-of_class c n e (f ∷ fs) k h =
    let rest = pending_at-of_class c n e fs k in
    elim (eqb f.notice n)
    as (λ t. eqb f.notice n ≡ t → cond t (Some f) (pending_at fs n) ≡ Some e →
    pending_at (cond (eqb f.class c) (f ∷ of_class c fs) (of_class c fs)) n ≡ Some e) [
      | true ↦ λ t a. let same : f ≡ e = cc in let of : eqb f.class c ≡ true = rw same k in rw (of, t) a
      | false ↦ λ t a. elim (eqb f.class c)
          as (λ u. pending_at (cond u (f ∷ of_class c fs) (of_class c fs)) n ≡ Some e) [
            | true ↦ rw t (rest a)
            | false ↦ rest a
          ]
    ] refl h

pending_at-sorted : (lt : Pending → Pending → Bool) (es : List Pending) (n : ℕ) → AreNoted es →
    pending_at (sorted lt es) n ≡ pending_at es n
pending_at-sorted lt [] n h = refl
pending_at-sorted lt (e ∷ es) n h = pending_at-placed lt e (sorted lt es) n (Each-sorted (λ f. eqb f.notice e.notice
    ≡ false) lt es h.0) ∙ ap (λ (o : Option Pending). cond (eqb e.notice n) (Some e) o) (pending_at-sorted lt es n
    h.1)

-- a pending notice is one of its class's in order
pub pending_in-class : (s : AgendaState) (n : ℕ) (e : Pending) → IsTold s → pending_at s.agenda.pending n ≡ Some e →
    pending_at (of_class e.class (order s)) n ≡ Some e
pending_in-class s n e t h =
    let same : eqb e.class e.class ≡ true = grind (arith, nat_tests) in
    let there : pending_at (order s) n ≡ Some e = rw (order-sorted s t) (pending_at-sorted (is_before s.rules)
    s.agenda.pending n t.noted ∙ h) in
    pending_at-of_class e.class n e (order s) same there

pub linked-seat : (s : AgendaState) (n : ℕ) (e : Pending) → IsTold s → IsSound (board_of s) →
    is_event_class s.rules e.class ≡ true → pending_at s.agenda.pending n ≡ Some e →
    head_of (board_of s).lists (seat_in s.notices n) ≡ Some (event_number s.rules e.class)
linked-seat s n e t sound k h =
    let here = has-seats_of_some s.notices n (of_class e.class (order s)) e (pending_in-class s n e t h) in
    head_of-list_at (board_of s).lists (event_number s.rules e.class) (seat_in s.notices n) (rw (list_at-by
    (class_seats s) s.rules
    e.class k) here) (sound.once (seat_in s.notices n))

-- a notice that isn't pending can be put at its place in the order
pub CanRelink-rank : (s : AgendaState) (e : Pending) → IsTold s → IsNew s e →
    CanRelink (board_of s) (seat_in s.notices e.notice) (rank_place s e)
CanRelink-rank s e t n = record {
  is_seat = seat_in-below s.notices e.notice n.seat;
  is_free = free-seat s e.notice t n.seat n.notice;
  is_head = omega (
    arith,
    (event-at s.rules e.class n.keyed.0).0,
    length-lists_by (class_seats s) s.rules,
  );
  is_there = λ at k. rw (list_at-by (class_seats s) s.rules e.class n.keyed.0) (has-passed s.notices (is_before
      s.rules) e (of_class e.class (order s)) at (has-last_of (seats_of s.notices (notices_passed (is_before s.rules) e
      (of_class e.class (order s)))) at k));
}
