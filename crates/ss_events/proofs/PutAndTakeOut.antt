-- How the agenda's invariant is kept.
use Rattle.std.proofs.Common.{◌≡◌, ℕ, ◌+◌, ◌-◌, ◌<◌, true, false, cond, eqb, List, [], ◌∷◌, length, get_or, Option}
use Rattle.std.proofs.Common.{Some, None, refl, sym, ap, ◌∙◌, arith, suc, zero}
use Rattle.std.proofs.Math.ListN.{set, length-set}
use Rattle.std.proofs.lemmas.List.{get_or-set_same, get_or-set_other}
use Rattle.std.proofs.lemmas.Bool.Decides.{nat_tests}
use Rattle.std.specs.Option.{IsSome, option_map}
use Rattle.ss_links.specs.Board.{Board, head_of, IsSound, CanRelink, after_relink, after_unlink}
use Rattle.ss_links.specs.Seats.{has, last_of}
use Rattle.ss_links.specs.declared.board.Place.{Place}
use Rattle.ss_events.specs.declared.pending_notice.PendingNotice.{PendingNotice}
use Rattle.ss_events.specs.declared.pending_notice.Row.{Row}
use Rattle.ss_events.specs.Agenda.{Pending, is_before, of_class, without_notice}
use Rattle.ss_events.specs.Rules.{is_event_class, event_number}
use Rattle.ss_events.specs.Agenda.{pending_at, with_notice}
use Rattle.ss_events.specs.State.{AgendaState, seat_in, seats_of, order, NoneNoted, IsPending}
use Rattle.ss_events.specs.Places.{notices_passed, rank_place}
use Rattle.ss_events.specs.Views.{notice_of}
use Rattle.ss_events.specs.Rows.{notices_from, row_at, empty_row, IsAgenda}
use Rattle.ss_events.specs.Changes.{with_pending, CanPend}
use Rattle.ss_events.proofs.OrderLaws.{Each-with, Each-without}
use Rattle.ss_events.proofs.RowLaws.{pending_row, pending_at-none, pending_at-each, from-with, from-without}
use Rattle.ss_events.proofs.StateLaws.{seat_in-below}
use Rattle.ss_events.proofs.BoardOf.{IsTold-with, IsTold-without, IsNew, relinked-with, unlinked-without, linked-seat}
use Rattle.ss_events.proofs.BoardOf.{CanRelink-rank}
use Rattle.ss_events.proofs.Stands.{told, sound_board}

-- a notice that may become pending is new
pub new-notice : (s : AgendaState) (e : Pending) → CanPend s e → IsNew s e
new-notice s e p = record {
  notice = p.notice;
  filing = p.filing;
  seat = p.kept.seat;
  keyed = (
    p.kept.well.class,
    p.kept.well.keys,
  );
}

-- the row of a notice that has a seat
pub has-row : (rows : List Row) (s : AgendaState) (b : Board) (n : ℕ) → IsAgenda rows s b → has s.notices n ≡ true →
    n - 1 < length rows
has-row rows s b n k h = let r = k.seated n h in omega (arith, r.0, r.1)

pub seat-is : (rows : List Row) (s : AgendaState) (b : Board) (n : ℕ) → IsAgenda rows s b → has s.notices n ≡ true →
    (row_at rows (n - 1)).seat ≡ Some (seat_in s.notices n)
seat-is rows s b n k h =
    let r = k.seated n h in
    let same : n - 1 + 1 ≡ n = omega (arith, r.0) in
    let seat = rw same at (k.seats (n - 1) (has-row rows s b n k h)) in
    seat ∙ rw h refl

pub pending-seat : (rows : List Row) (s : AgendaState) (b : Board) (n : ℕ) (e : Pending) → IsAgenda rows s b →
    pending_at s.agenda.pending n ≡ Some e → (has s.notices n ≡ true) × (is_event_class s.rules e.class ≡ true)
pending-seat rows s b n e k h =
    let p = pending_at-each (IsPending s.rules s.notices s.agenda.next_filing) s.agenda.pending n e k.pending h in
    (rw p.1 at p.0.seat, p.0.well.class)

-- an entry that is read off a row
none-map : (n : ℕ) (o : Option PendingNotice) → option_map (notice_of n) o ≡ None → o ≡ None
none-map n None h = refl
none-map n (Some x) h = absurd (cc)

pub row-none : (rows : List Row) (s : AgendaState) (b : Board) (n : ℕ) → IsAgenda rows s b → 0 < n →
    NoneNoted n s.agenda.pending → (row_at rows (n - 1)).pending ≡ None
row-none rows s b n k a h = none-map n (row_at rows (n - 1)).pending (sym (pending_row rows n a) ∙
    (ap (λ (es : List Pending). pending_at es n) (sym k.read) ∙ pending_at-none n s.agenda.pending h))

-- a row in which only the entry changes
row-seat_set : (rows : List Row) (j i : ℕ) (r : Row) → j < length rows → r.seat ≡ (row_at rows j).seat →
    (row_at (set rows j r) i).seat ≡ (row_at rows i).seat
row-seat_set rows j i r l h = elim (eqb i j)
    as (λ t. eqb i j ≡ t → (row_at (set rows j r) i).seat ≡ (row_at rows i).seat) [
      | true ↦ λ t. let same : i ≡ j = grind (arith, nat_tests, t) in rw (
        same,
        get_or-set_same rows j r empty_row l,
      ) h
      | false ↦ λ t. let apart : ¬ (i ≡ j) = λ e. absurd (grind (arith, nat_tests, t, e)) in
          ap (λ (q : Row). q.seat) (get_or-set_other rows j i r empty_row apart)
    ] refl

-- a notice is put in
pub put_in-read : (rows : List Row) (s : AgendaState) (b : Board) (n : ℕ) (x : PendingNotice) (r : Row) →
    IsAgenda rows s b → CanPend s (notice_of n x) → r.pending ≡ Some x →
    with_notice (notice_of n x) s.agenda.pending ≡ notices_from 1 (set rows (n - 1) r)
put_in-read rows s b n x r k p h =
    let above = (k.seated n p.kept.seat).0 in
    let same : 1 + (n - 1) ≡ n = omega (arith, above) in
    rw k.read (sym (rw same at (from-with 1 rows (n - 1) r x (has-row rows s b n k p.kept.seat) (row-none rows s b n
    k above p.notice) h)))

pub put_in-kept : (rows : List Row) (s : AgendaState) (b c : Board) (n : ℕ) (x : PendingNotice) (r : Row) →
    IsAgenda rows s b → CanPend s (notice_of n x) → r.pending ≡ Some x → r.seat ≡ (row_at rows (n - 1)).seat →
    c ≡ after_relink b (seat_in s.notices n) (rank_place s (notice_of n x)) → IsSound c →
    IsAgenda (set rows (n - 1) r) (with_pending s (with_notice (notice_of n x) s.agenda.pending)) c
put_in-kept rows s b c n x r k p h seat e sound = record {
  sound = sound;
  read = put_in-read rows s b n x r k p h;
  board = e ∙ rw k.board (relinked-with s (notice_of n x) (told rows s b k) (new-notice s (notice_of n x) p));
  seats = λ i l. row-seat_set rows (n - 1) i r (has-row rows s b n k p.kept.seat) seat ∙ k.seats i (omega (
    arith,
    length-set rows (n - 1) r,
  ));
  seated = λ m l. let d = k.seated m l in (d.0, omega (arith, d.1, length-set rows (n - 1) r));
  once = k.once;
  few = omega (arith, k.few, length-set rows (n - 1) r);
  pending = Each-with (IsPending s.rules s.notices s.agenda.next_filing) (notice_of n x) s.agenda.pending p.kept
      k.pending;
  filed = (IsTold-with s (notice_of n x) (told rows s b k) (new-notice s (notice_of n x) p)).filed;
  filing = k.filing;
  ranked = k.ranked;
  next = k.next;
  classes = k.classes;
}

-- a notice is taken out
pub take_out-read : (rows : List Row) (s : AgendaState) (b : Board) (n : ℕ) (r : Row) → IsAgenda rows s b →
    has s.notices n ≡ true → r.pending ≡ None → without_notice n s.agenda.pending ≡ notices_from 1 (set rows (n - 1) r)
take_out-read rows s b n r k a h =
    let above = (k.seated n a).0 in
    let same : 1 + (n - 1) ≡ n = omega (arith, above) in
    rw k.read (sym (rw same at (from-without 1 rows (n - 1) r (has-row rows s b n k a) h)))

pub take_out-kept : (rows : List Row) (s : AgendaState) (b c : Board) (n : ℕ) (r : Row) → IsAgenda rows s b →
    has s.notices n ≡ true → r.pending ≡ None → r.seat ≡ (row_at rows (n - 1)).seat →
    c ≡ after_unlink b (seat_in s.notices n) → IsSound c →
    IsAgenda (set rows (n - 1) r) (with_pending s (without_notice n s.agenda.pending)) c
take_out-kept rows s b c n r k a h seat e sound = record {
  sound = sound;
  read = take_out-read rows s b n r k a h;
  board = e ∙ rw k.board (unlinked-without s n (told rows s b k) a);
  seats = λ i l. row-seat_set rows (n - 1) i r (has-row rows s b n k a) seat ∙ k.seats i (omega (
    arith,
    length-set rows (n - 1) r,
  ));
  seated = λ m l. let d = k.seated m l in (d.0, omega (arith, d.1, length-set rows (n - 1) r));
  once = k.once;
  few = omega (arith, k.few, length-set rows (n - 1) r);
  pending = Each-without (IsPending s.rules s.notices s.agenda.next_filing) n s.agenda.pending k.pending;
  filed = (IsTold-without s n (told rows s b k)).filed;
  filing = k.filing;
  ranked = k.ranked;
  next = k.next;
  classes = k.classes;
}

-- the place of a notice in the order doesn't depend on its number
pub passed-number : (s : AgendaState) (m n : ℕ) (x : PendingNotice) (es : List Pending) →
    notices_passed (is_before s.rules) (notice_of m x) es ≡ notices_passed (is_before s.rules) (notice_of n x) es
passed-number s m n x [] = refl
passed-number s m n x (f ∷ fs) = ap (λ (l : List Pending). cond (is_before s.rules (notice_of n x) f) [] (f ∷ l))
    (passed-number s m n x fs)

abbrev place_with : AgendaState → PendingNotice → List Pending → Place
place_with s x l = record { head = event_number s.rules x.class; before = last_of (seats_of s.notices l) }

pub rank_place-number : (s : AgendaState) (m n : ℕ) (x : PendingNotice) →
    rank_place s (notice_of m x) ≡ rank_place s (notice_of n x)
rank_place-number s m n x = ap (place_with s x) (passed-number s m n x (of_class x.class (order s)))

-- a row that is read off the rows
pub row-is : (rows : List Row) (i : ℕ) (q : Row) → i < length rows → q ≡ get_or rows i q → row_at rows i ≡ q
row-is rows i q l h = sym (h ∙ same rows i q l)
  where
    same : (rows : List Row) (i : ℕ) (q : Row) → i < length rows → get_or rows i q ≡ row_at rows i
    same [] i q l = absurd (omega arith)
    same (r ∷ rs) zero q l = refl
    same (r ∷ rs) (suc i) q l = same rs i q (omega arith)

row-is_set : (rows : List Row) (i : ℕ) (q : Row) → i < length rows → row_at (set rows i q) i ≡ q
row-is_set rows i q l = get_or-set_same rows i q empty_row l

pub read-seat : (rows : List Row) (s : AgendaState) (b : Board) (n : ℕ) (q : Row) → IsAgenda rows s b →
    has s.notices n ≡ true → q ≡ get_or rows (n - 1) q → q.seat ≡ Some (seat_in s.notices n)
read-seat rows s b n q k h e = ap (λ (r : Row). r.seat) (sym (row-is rows (n - 1) q (has-row rows s b n k h) e)) ∙
    seat-is rows s b n k h

some-same : (x y : ℕ) (o : Option ℕ) → o ≡ Some x → o ≡ Some y → x ≡ y
some-same x y o h k = cc

-- the seat that is read is the notice's
pub seat-read : (rows : List Row) (s : AgendaState) (b : Board) (n x : ℕ) (q : Row) → IsAgenda rows s b →
    has s.notices n ≡ true → q ≡ get_or rows (n - 1) q → q.seat ≡ Some x → x ≡ seat_in s.notices n
seat-read rows s b n x q k h e f = some-same x (seat_in s.notices n) q.seat f (read-seat rows s b n q k h e)

-- the seat and the place that are found are those of the notice
pub put_in-relink : (rows : List Row) (s : AgendaState) (b : Board) (n : ℕ) (x : PendingNotice) (q : Row) (seat : ℕ)
    (place :
    Place) → IsAgenda rows s b → CanPend s (notice_of n x) → q ≡ get_or rows (n - 1) q → q.seat ≡ Some seat →
    place ≡ rank_place s (notice_of 0 x) → CanRelink b seat place
put_in-relink rows s b n x q seat place k p e f g = rw (
  k.board,
  seat-read rows s b n seat q k p.kept.seat e f,
  g,
  rank_place-number s 0 n x,
) (CanRelink-rank s (notice_of n x) (told rows s b k) (new-notice s (notice_of n x) p))

pub put_in-closed : (rows : List Row) (s : AgendaState) (b c : Board) (n : ℕ) (x : PendingNotice) (q r : Row)
    (seat : ℕ) (place : Place) → IsAgenda rows s b → CanPend s (notice_of n x) → q ≡ get_or rows (n - 1) q →
    q.seat ≡ Some seat → place ≡ rank_place s (notice_of 0 x) → c ≡ after_relink b seat place → IsSound c →
    r ≡ get_or rows (n - 1) r →
    IsAgenda (set rows (n - 1) (record { seat = r.seat; pending = Some x })) (with_pending s (notices_from 1 (set rows
    (n - 1) (record { seat = r.seat; pending = Some x })))) c
put_in-closed rows s b c n x q r seat place k p e f g h sound i =
    let within = has-row rows s b n k p.kept.seat in
    let row : Row = record { seat = r.seat; pending = Some x } in
    let own : r.seat ≡ (row_at rows (n - 1)).seat = ap (λ (t : Row). t.seat) (sym (row-is rows (n - 1) r within i)) in
    let board : c ≡ after_relink b (seat_in s.notices n) (rank_place s (notice_of n x)) = h ∙
    (ap (λ (t : ℕ). after_relink b t place) (seat-read rows s b n seat q k p.kept.seat e f) ∙
    ap (λ (t : Place). after_relink b (seat_in s.notices n) t) (g ∙ rank_place-number s 0 n x)) in
    let new = put_in-kept rows s b c n x row k p refl own board sound in
    rw (put_in-read rows s b n x row k p refl) at new

-- the state that is read off the rows
pub view-with : (s t : AgendaState) (es : List Pending) (f : List Pending → List Pending) → s ≡ t →
    f s.agenda.pending ≡ es → with_pending s es ≡ with_pending t (f t.agenda.pending)
view-with s t es f e h = rw (← h, e) refl

-- a pending notice's row
pub record IsRow (rows : List Row) (s : AgendaState) (n : ℕ) : Type 0 where
  pub pending : Pending
  pub there : pending_at s.agenda.pending n ≡ Some pending
  pub seat : has s.notices n ≡ true
  pub class : is_event_class s.rules pending.class ≡ true
  pub row : n - 1 < length rows

pub pending-row : (rows : List Row) (s : AgendaState) (b : Board) (n : ℕ) → IsAgenda rows s b →
    IsSome (pending_at s.agenda.pending n) → IsRow rows s n
pending-row rows s b n k h = go (pending_at s.agenda.pending n) refl h
  where
    go : (o : Option Pending) → pending_at s.agenda.pending n ≡ o → IsSome o → IsRow rows s n
    go None e i = absurd (cc)
    go (Some p) e i = let r = pending-seat rows s b n p k e in record {
      pending = p;
      there = e;
      seat = r.0;
      class = r.1;
      row = has-row rows s b n k r.0;
    }

pub taken-linked : (rows : List Row) (s : AgendaState) (b : Board) (n seat : ℕ) (q : Row) → IsAgenda rows s b →
    IsSome (pending_at s.agenda.pending n) → q ≡ get_or rows (n - 1) q → q.seat ≡ Some seat →
    (seat < b.seats) × IsSome (head_of b.lists seat)
taken-linked rows s b n seat q k h e f =
    let r = pending-row rows s b n k h in
    let is = seat-read rows s b n seat q k r.seat e f in
    let linked = linked-seat s n r.pending (told rows s b k) (sound_board rows s b k) r.class r.there in
    (rw (k.board, is) (seat_in-below s.notices n r.seat), rw (k.board, is, linked) refl)

pub taken-entry : (rows : List Row) (s : AgendaState) (b : Board) (n : ℕ) (r : Row) → IsAgenda rows s b → 0 < n →
    IsSome (pending_at s.agenda.pending n) → r ≡ get_or rows (n - 1) r →
    pending_at s.agenda.pending n ≡ option_map (notice_of n) r.pending
taken-entry rows s b n r k a h i = ap (λ (es : List Pending). pending_at es n) k.read ∙ (pending_row rows n a ∙
    ap (λ (q : Row). option_map (notice_of n) q.pending) (row-is rows (n - 1) r (pending-row rows s b n k h).row i))

pub take_out-closed : (rows : List Row) (s : AgendaState) (b c : Board) (n : ℕ) (q r : Row) (seat : ℕ) (o : Option
    PendingNotice) → IsAgenda rows s b → IsSome (pending_at s.agenda.pending n) → q ≡ get_or rows (n - 1) q →
    q.seat ≡ Some seat → c ≡ after_unlink b seat → IsSound c → r ≡ get_or rows (n - 1) r → o ≡ None →
    IsAgenda (set rows (n - 1) (record { seat = r.seat; pending = o })) (with_pending s (notices_from 1
    (set rows (n - 1) (record { seat = r.seat; pending = o })))) c
take_out-closed rows s b c n q r seat o k a e f h sound i z =
    let p = pending-row rows s b n k a in
    let row : Row = record { seat = r.seat; pending = o } in
    let own : r.seat ≡ (row_at rows (n - 1)).seat = ap (λ (t : Row). t.seat) (sym (row-is rows (n - 1) r p.row i)) in
    let board : c ≡ after_unlink b (seat_in s.notices n) = h ∙ rw (seat-read rows s b n seat q k p.seat e f) refl in
    let new = take_out-kept rows s b c n row k p.seat z own board sound in
    rw (take_out-read rows s b n row k p.seat z) at new

-- the seat is its class's head's
pub taken-head : (rows : List Row) (s : AgendaState) (b : Board) (n seat : ℕ) (q : Row) (x : PendingNotice) →
    IsAgenda rows s b → pending_at s.agenda.pending n ≡ Some (notice_of n x) → q ≡ get_or rows (n - 1) q →
    q.seat ≡ Some seat → (seat ≡ seat_in s.notices n) × (head_of b.lists seat ≡ Some (event_number s.rules x.class))
taken-head rows s b n seat q x k h e f =
    let r = pending-seat rows s b n (notice_of n x) k h in
    let is = seat-read rows s b n seat q k r.0 e f in
    (is, rw (k.board, is) (linked-seat s n (notice_of n x) (told rows s b k) (sound_board rows s b k) r.1 h))

-- a notice that has no seat is not pending
pub unseated-idle : (rows : List Row) (s : AgendaState) (b : Board) (n : ℕ) → IsAgenda rows s b → 0 < n →
    has s.notices n ≡ false → (row_at rows (n - 1)).pending ≡ None
unseated-idle rows s b n k a h = go (row_at rows (n - 1)).pending refl
  where
    go : (o : Option PendingNotice) → (row_at rows (n - 1)).pending ≡ o → o ≡ None
    go None e = refl
    go (Some y) e =
        let there : pending_at s.agenda.pending n ≡ Some (notice_of n y) = ap (λ (es : List Pending). pending_at es n)
        k.read ∙ (pending_row rows n a ∙ ap (option_map (notice_of n)) e) in
        let seated = (pending-seat rows s b n (notice_of n y) k there).0 in
        absurd (cc)
