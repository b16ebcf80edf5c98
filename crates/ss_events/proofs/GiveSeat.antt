-- How the agenda's invariant is kept as rows and seats are made and taken off.
use Rattle.std.proofs.Common.{◌≡◌, ℕ, ◌+◌, ◌-◌, ◌≤◌, ◌<◌, ◌++◌, ◌||◌, Bool, true, false, cond, eqb, ltb, List, []}
use Rattle.std.proofs.Common.{◌∷◌, length, replicate, take, get_or, Option, Some, None, refl, sym, ap, ◌∙◌, arith}
use Rattle.std.proofs.Common.{suc, zero, length-append, append_assoc, Result, Ok, Err}
use Rattle.std.proofs.Math.ListN.{set, length-set}
use Rattle.std.proofs.lemmas.List.{get_or-set_same, get_or-set_other, replicate_more}
use Rattle.std.proofs.lemmas.Bool.Decides.{nat_tests}
use Rattle.std.specs.Option.{is_some}
use Rattle.std.specs.Result.{OnErr}
use Rattle.ss_links.specs.Board.{Board, head_of, IsSound, with_seat, without_last_seat}
use Rattle.ss_links.specs.Seats.{has, times_in}
use Rattle.ss_links.proofs.SeatLaws.{has-append, times_in-append, times_in-absent, times_in-present, length-le_count}
use Rattle.ss_words.specs.declared.limits.TheConstants.{MOST_REFERENCES}
use Rattle.ss_events.specs.declared.pending_notice.Row.{Row}
use Rattle.ss_events.specs.Agenda.{Pending}
use Rattle.ss_events.specs.Rules.{Rule}
use Rattle.ss_events.specs.State.{AgendaState, seat_in, seat_at, board_of, Each, NoneNoted, IsPending}
use Rattle.ss_events.specs.Rows.{notices_from, and_others, row_at, empty_row, IsGrown, IsAgenda}
use Rattle.ss_events.specs.Changes.{with_pending, with_notices, with_seat_for, IsLastSeat}
use Rattle.ss_events.proofs.OrderLaws.{Each-map}
use Rattle.ss_events.proofs.RowLaws.{from-same}
use Rattle.ss_events.proofs.StateLaws.{seat_in-more, seat_in-new}
use Rattle.ss_events.proofs.BoardOf.{IsTold, with_seat-more, free-seat}
use Rattle.ss_events.proofs.Stands.{told}
use Rattle.ss_events.proofs.PutAndTakeOut.{row-is}

-- empty rows say nothing
from-none : (b k : ℕ) → notices_from b (replicate k empty_row) ≡ []
from-none b zero = refl
from-none b (suc k) = from-none (b + 1) k

from-empty : (b k : ℕ) (rs : List Row) → notices_from b (rs ++ replicate k empty_row) ≡ notices_from b rs
from-empty b k [] = from-none b k
from-empty b k (r ∷ rs) = ap (and_others b r.pending) (from-empty (b + 1) k rs)

row_at-none : (k i : ℕ) → row_at (replicate k empty_row) i ≡ empty_row
row_at-none zero i = refl
row_at-none (suc k) zero = refl
row_at-none (suc k) (suc i) = row_at-none k i

pub row_at-empty : (k i : ℕ) (rs : List Row) → row_at (rs ++ replicate k empty_row) i ≡ row_at rs i
row_at-empty k i [] = row_at-none k i
row_at-empty k zero (r ∷ rs) = refl
row_at-empty k (suc i) (r ∷ rs) = row_at-empty k i rs

pub grown-read : (old new : List Row) (count : ℕ) → IsGrown old new count → notices_from 1 new ≡ notices_from 1 old
grown-read old new count g = ap (notices_from 1) g.whole ∙ from-empty 1 g.more old

-- rows grow by one
pub grown-none : (old : List Row) (count : ℕ) → IsGrown old old count
grown-none old count = record { more = 0; whole = nil old; few = λ n h k. k }
  where
    nil : (rs : List Row) → rs ≡ rs ++ []
    nil [] = refl
    nil (r ∷ rs) = ap (λ (l : List Row). r ∷ l) (nil rs)

pub grown-more : (old new : List Row) (count : ℕ) → IsGrown old new count → length new < count →
    IsGrown old (new ++ empty_row ∷ []) count
grown-more old new count g h = record {
  more = g.more + 1;
  whole = ap (λ (l : List Row). l ++ empty_row ∷ []) g.whole ∙
      (append_assoc old (replicate g.more empty_row) (empty_row ∷ []) ∙
      ap (λ (l : List Row). old ++ l) (replicate_more g.more empty_row));
  few = λ n k l. omega (arith, length-append new (empty_row ∷ []));
}

-- no seat at a number
seat_at-none : (ns : List ℕ) (n : ℕ) → has ns n ≡ false → seat_at ns n ≡ None
seat_at-none ns n h = rw h refl

pub grown-kept : (old new : List Row) (s : AgendaState) (b : Board) (count : ℕ) → IsAgenda old s b →
    IsGrown old new count → count ≤ MOST_REFERENCES → IsAgenda new s b
grown-kept old new s b count k g small =
    let long = ap length g.whole ∙ length-append old (replicate g.more empty_row) in
    record {
      read = k.read ∙ sym (grown-read old new count g);
      board = k.board;
      sound = k.sound;
      seats = λ i l. ap (λ (r : Row). r.seat) (ap (λ (rs : List Row). row_at rs i) g.whole ∙
          row_at-empty g.more i old) ∙ seat i;
      seated = λ n h. let r = k.seated n h in (r.0, omega (arith, r.1, long));
      once = k.once;
      few = g.few MOST_REFERENCES small k.few;
      pending = k.pending;
      filed = k.filed;
      filing = k.filing;
      ranked = k.ranked;
      next = k.next;
      classes = k.classes;
    }
  where
    past : (rs : List Row) (i : ℕ) → length rs ≤ i → row_at rs i ≡ empty_row
    past [] i l = refl
    past (r ∷ rs) zero l = absurd (omega arith)
    past (r ∷ rs) (suc i) l = past rs i (omega arith)

    seat : (i : ℕ) → (row_at old i).seat ≡ seat_at s.notices (i + 1)
    seat i = elim (ltb i (length old))
        as (λ t. ltb i (length old) ≡ t → (row_at old i).seat ≡ seat_at s.notices (i + 1)) [
          | true ↦ λ t. k.seats i (grind (arith, nat_tests, t))
          | false ↦ λ t. let none : has s.notices (i + 1) ≡ false = elim (has s.notices (i + 1))
              as (λ u. has s.notices (i + 1) ≡ u → u ≡ false) [
                | true ↦ λ u. let r = (k.seated (i + 1) u).1 in absurd (grind (arith, nat_tests, t, r))
                | false ↦ λ u. refl
              ] refl in let beyond : length old ≤ i = grind (arith, nat_tests, t) in
              rw (past old i beyond) (sym (seat_at-none s.notices (i + 1) none))
        ] refl

-- the same, read off the rows
pub grown-closed : (old new : List Row) (s : AgendaState) (b : Board) (count : ℕ) → IsAgenda old s b →
    IsGrown old new count → count ≤ MOST_REFERENCES → IsAgenda new (with_pending s (notices_from 1 new)) b
grown-closed old new s b count k g small = let n = grown-kept old new s b count k g small in
    let read : s.agenda.pending ≡ notices_from 1 new = n.read in rw (← read) n

pub grown-view : (old new : List Row) (s t : AgendaState) (count : ℕ) → s ≡ t →
    s.agenda.pending ≡ notices_from 1 old → IsGrown old new count → with_pending s (notices_from 1 new) ≡ t
grown-view old new s t count e h g = let read : notices_from 1 new ≡ s.agenda.pending = grown-read old new count g ∙
    sym h in rw read e

-- the seat in a row is the seat of its notice
pub row-seat : (rows : List Row) (s : AgendaState) (b : Board) (n : ℕ) (q : Row) → IsAgenda rows s b → 0 < n →
    n ≤ length rows → q ≡ get_or rows (n - 1) q → q.seat ≡ seat_at s.notices n
row-seat rows s b n q k a l h =
    let within : n - 1 < length rows = omega arith in
    let same : n - 1 + 1 ≡ n = omega arith in
    ap (λ (r : Row). r.seat) (sym (row-is rows (n - 1) q within h)) ∙ rw same at (k.seats (n - 1) within)

pub has-some : (ns : List ℕ) (n : ℕ) → is_some (seat_at ns n) ≡ has ns n
has-some ns n = elim (has ns n) as (λ t. is_some (cond t (Some (seat_in ns n)) None) ≡ t) [
  | true ↦ refl
  | false ↦ refl
]

-- few notices have seats
pub few-seats : (rows : List Row) (s : AgendaState) (b : Board) → IsAgenda rows s b → b.seats ≤ 1000001
few-seats rows s b k =
    let below : (x : ℕ) → 1000001 ≤ x → times_in s.notices x ≡ 0 = λ x l. elim (has s.notices x)
    as (λ t. has s.notices x ≡ t → times_in s.notices x ≡ 0) [
      | true ↦ λ t. let r = (k.seated x t).1 in absurd (omega (arith, r, k.few, l))
      | false ↦ λ t. times_in-absent s.notices x t
    ] refl in
    let count = length-le_count 1000001 s.notices k.once below in
    rw k.board count

-- other numbers keep their seats as one is added
seat_at-more : (ns : List ℕ) (n m : ℕ) → eqb n m ≡ false → seat_at (ns ++ n ∷ []) m ≡ seat_at ns m
seat_at-more ns n m h =
    let same : has (ns ++ n ∷ []) m ≡ has ns m = has-append ns (n ∷ []) m ∙ rw h (elim (has ns m)
    as (λ t. (t || false) ≡ t) [
      | true ↦ refl
      | false ↦ refl
    ]) in
    elim (has ns m)
    as (λ t. has ns m ≡ t → cond (has (ns ++ n ∷ []) m) (Some (seat_in (ns ++ n ∷ []) m)) None ≡ cond t (Some
    (seat_in ns m)) None) [
      | true ↦ λ t. rw (same, t, seat_in-more ns m n t) refl
      | false ↦ λ t. rw (same, t) refl
    ] refl

seat_at-new : (ns : List ℕ) (n : ℕ) → has ns n ≡ false → seat_at (ns ++ n ∷ []) n ≡ Some (length ns)
seat_at-new ns n h = let here : has (ns ++ n ∷ []) n ≡ true = has-append ns (n ∷ []) n ∙ rw h (grind (
  arith,
  nat_tests,
)) in rw (here, seat_in-new ns n h) refl

has-more : (ns : List ℕ) (n m : ℕ) → has ns m ≡ true → has (ns ++ n ∷ []) m ≡ true
has-more ns n m h = has-append ns (n ∷ []) m ∙ rw h refl

has-less : (ns : List ℕ) (n m : ℕ) → eqb n m ≡ false → has (ns ++ n ∷ []) m ≡ true → has ns m ≡ true
has-less ns n m e h = let both : (has ns m || (eqb n m || false)) ≡ true = sym (has-append ns (n ∷ []) m) ∙ h in
    grind (arith, nat_tests, both, e)

-- a row in which only the seat changes, at its own number and at others
set-seat : (rows : List Row) (j i : ℕ) (r : Row) (o : Option ℕ) → j < length rows → (eqb i j ≡ true → r.seat ≡ o) →
    (eqb i j ≡ false → (row_at rows i).seat ≡ o) → (row_at (set rows j r) i).seat ≡ o
set-seat rows j i r o l h k = elim (eqb i j) as (λ t. eqb i j ≡ t → (row_at (set rows j r) i).seat ≡ o) [
  | true ↦ λ t. let same : i ≡ j = grind (arith, nat_tests, t) in rw (
    same,
    get_or-set_same rows j r empty_row l,
  ) (h t)
  | false ↦ λ t. let apart : ¬ (i ≡ j) = λ e. absurd (grind (arith, nat_tests, t, e)) in
      ap (λ (q : Row). q.seat) (get_or-set_other rows j i r empty_row apart) ∙ k t
] refl

-- a seat is made
pub seat-closed : (rows : List Row) (s : AgendaState) (b c : Board) (n x : ℕ) (r : Row) → IsAgenda rows s b →
    has s.notices n ≡ false → 0 < n → n ≤ length rows → c ≡ with_seat b → IsSound c → x ≡ b.seats →
    r ≡ get_or rows (n - 1) r → IsAgenda (set rows (n - 1) (record { seat = Some x; pending = r.pending })) (with_pending
    (with_notices s (s.notices ++ n ∷ [])) (notices_from 1 (set rows (n - 1) (record {
      seat = Some x;
      pending = r.pending;
    })))) c
seat-closed rows s b c n x r k h a l e sound f i =
    let row : Row = record { seat = Some x; pending = r.pending } in
    let within : n - 1 < length rows = omega arith in
    let read : s.agenda.pending ≡ notices_from 1 (set rows (n - 1) row) = k.read ∙
    sym (from-same 1 rows (n - 1) row (ap (λ (q : Row). q.pending) (sym (row-is rows (n - 1) r within i)))) in
    let count : x ≡ length s.notices = f ∙ ap (λ (d : Board). d.seats) k.board in
    let kept : IsAgenda (set rows (n - 1) row) (with_notices s (s.notices ++ n ∷ [])) c = record {
      read = read;
      board = e ∙ rw k.board (with_seat-more s n (told rows s b k));
      sound = sound;
      seats = λ j m. set-seat rows (n - 1) j row (seat_at (s.notices ++ n ∷ []) (j + 1)) within (λ t. let same : j +
          1 ≡ n = grind (arith, nat_tests, t, a) in rw (
            same,
            count,
          ) (sym (seat_at-new s.notices n h))) (λ t. let apart : eqb n (j + 1) ≡ false = grind (
            arith,
            nat_tests,
            t,
            a,
          ) in k.seats j (omega (arith, length-set rows (n - 1) row)) ∙
          sym (seat_at-more s.notices n (j + 1) apart));
      seated = λ m u. elim (eqb n m) as (λ t. eqb n m ≡ t → (0 < m) × (m ≤ length (set rows (n - 1) row))) [
        | true ↦ λ t. let same : n ≡ m = grind (arith, nat_tests, t) in (
          omega arith,
          omega (
            arith,
            length-set rows (n - 1) row,
          ),
        )
        | false ↦ λ t. let d = k.seated m (has-less s.notices n m t u) in (
          d.0,
          omega (
            arith,
            d.1,
            length-set rows (n - 1) row,
          ),
        )
      ] refl;
      once = λ m. let more = times_in-append s.notices (n ∷ []) m in let one = k.once m in
          let none = times_in-absent s.notices n h in grind (arith, nat_tests, more, one, none);
      few = omega (arith, k.few, length-set rows (n - 1) row);
      pending = Each-map (IsPending s.rules s.notices s.agenda.next_filing) (IsPending s.rules (s.notices ++ n ∷ [])
          s.agenda.next_filing) (λ p q. record {
            well = q.well;
            seat = has-more s.notices n p.notice q.seat;
          }) s.agenda.pending k.pending;
      filed = k.filed;
      filing = k.filing;
      ranked = k.ranked;
      next = k.next;
      classes = k.classes;
    } in
    rw (← read) kept

pub seat-view : (rows : List Row) (s t : AgendaState) (b : Board) (n : ℕ) (row r : Row) → s ≡ t →
    IsAgenda rows s b → 0 < n → n ≤ length rows → has s.notices n ≡ false → r ≡ get_or rows (n - 1) r →
    row.pending ≡ r.pending
    → with_pending (with_notices s (s.notices ++ n ∷ [])) (notices_from 1 (set rows (n - 1) row))
    ≡ with_notices t (with_seat_for t.notices n)
seat-view rows s t b n row r e k a l h i j =
    let within : n - 1 < length rows = omega arith in
    let read : notices_from 1 (set rows (n - 1) row) ≡ s.agenda.pending = from-same 1 rows (n - 1) row (j ∙
    ap (λ (q : Row). q.pending) (sym (row-is rows (n - 1) r within i))) ∙ sym k.read in
    rw (← e, h, read) refl

-- the invariant after a growth of rows, if the seats and the board were left as they were
pub grown-closed_same : (old new : List Row) (s : AgendaState) (b c : Board) (count : ℕ) (ms : List ℕ) →
    IsAgenda old s b → IsGrown old new count → count ≤ MOST_REFERENCES → ms ≡ s.notices → c ≡ b →
    IsAgenda new (with_pending (with_notices s ms) (notices_from 1 new)) c
grown-closed_same old new s b c count ms k g small e f = rw (e, f) (grown-closed old new s b count k g small)

pub grown-view_same : (old new : List Row) (s t : AgendaState) (count : ℕ) (ms : List ℕ) → s ≡ t →
    s.agenda.pending ≡ notices_from 1 old → IsGrown old new count → ms ≡ s.notices →
    with_pending (with_notices s ms) (notices_from 1 new) ≡ t
grown-view_same old new s t count ms e h g f = rw f (grown-view old new s t count e h g)

pub on-err : {A E : Type 0} (r : Result A E) (P : Type 0) → P → OnErr r P
on-err (Ok a) P p = tt
on-err (Err e) P p = p

-- a notice that has a seat, and one that has none, as its row says
pub row-has : (rows : List Row) (s : AgendaState) (b : Board) (n : ℕ) (q : Row) (t : Bool) → IsAgenda rows s b →
    0 < n → n ≤ length rows → q ≡ get_or rows (n - 1) q → is_some q.seat ≡ t → has s.notices n ≡ t
row-has rows s b n q t k a l h e = sym (has-some s.notices n) ∙ (ap is_some (sym (row-seat rows s b n q k a l h)) ∙ e)

pub seated-same : (s t : AgendaState) (n : ℕ) → s ≡ t → has s.notices n ≡ true →
    s ≡ with_notices t (with_seat_for t.notices n)
seated-same s t n e h = rw (← e, h) refl

-- a seat is made, with the list of notices as it is after
pub seat-closed_at : (rows : List Row) (s : AgendaState) (b c : Board) (n x : ℕ) (r : Row) (ms : List ℕ) →
    ms ≡ s.notices ++ n ∷ [] → IsAgenda rows s b → has s.notices n ≡ false → 0 < n → n ≤ length rows →
    c ≡ with_seat b → IsSound c → x ≡ b.seats → r ≡ get_or rows (n - 1) r →
    IsAgenda (set rows (n - 1) (record { seat = Some x; pending = r.pending })) (with_pending (with_notices s ms)
    (notices_from 1 (set rows (n - 1) (record { seat = Some x; pending = r.pending })))) c
seat-closed_at rows s b c n x r ms w k h a l e sound f i = rw w (seat-closed rows s b c n x r k h a l e sound f i)

pub seat-view_at : (rows : List Row) (s t : AgendaState) (b : Board) (n x : ℕ) (r : Row) (ms : List ℕ) →
    ms ≡ s.notices ++ n ∷ [] → s ≡ t → IsAgenda rows s b → 0 < n → n ≤ length rows → has s.notices n ≡ false →
    r ≡ get_or rows (n - 1) r → with_pending (with_notices s ms) (notices_from 1 (set rows (n - 1) (record {
      seat = Some x;
      pending = r.pending;
    }))) ≡ with_notices t (with_seat_for t.notices n)
seat-view_at rows s t b n x r ms w e k a l h i = rw w (seat-view rows s t b n (record {
  seat = Some x;
  pending = r.pending;
}) r e k a l h i refl)

-- the last seat is taken off
each-less : (rs : List Rule) (ms ns : List ℕ) (n k : ℕ) (es : List Pending) → ns ≡ ms ++ n ∷ [] → NoneNoted n es →
    Each (IsPending rs ns k) es → Each (IsPending rs ms k) es
each-less rs ms ns n k [] e h p = tt
each-less rs ms ns n k (f ∷ fs) e h p = let apart : eqb n f.notice ≡ false = grind (arith, nat_tests, h.0) in (
  record {
    well = p.0.well;
    seat = has-less ms n f.notice apart (rw e at p.0.seat);
  },
  each-less rs ms ns n k fs e h.1 p.1,
)

last-absent : (ms : List ℕ) (n : ℕ) → times_in (ms ++ n ∷ []) n ≤ 1 → has ms n ≡ false
last-absent ms n h = elim (has ms n) as (λ t. has ms n ≡ t → t ≡ false) [
  | true ↦ λ t. absurd (grind (arith, nat_tests, h, times_in-append ms (n ∷ []) n, times_in-present ms n t))
  | false ↦ λ t. refl
] refl

abbrev board_sized : List (List ℕ) → ℕ → Board
board_sized ls k = record { lists = ls; seats = k }

pub take-last : (ms : List ℕ) (n : ℕ) → take (length (ms ++ n ∷ []) - 1) (ms ++ n ∷ []) ≡ ms
take-last ms n = let count : length (ms ++ n ∷ []) - 1 ≡ length ms = omega (arith, length-append ms (n ∷ [])) in
    rw count (take-front ms n)
  where
    take-front : (ms : List ℕ) (n : ℕ) → take (length ms) (ms ++ n ∷ []) ≡ ms
    take-front [] n = refl
    take-front (m ∷ ms) n = ap (λ (l : List ℕ). m ∷ l) (take-front ms n)

pub taken-list : (s : AgendaState) (n : ℕ) (l : IsLastSeat s n) → take (length s.notices - 1) s.notices ≡ l.others
taken-list s n l = ap (λ (ms : List ℕ). take (length ms - 1) ms) l.last ∙ take-last l.others n

pub unseated-free : (rows : List Row) (s : AgendaState) (b : Board) (n : ℕ) → IsAgenda rows s b → IsLastSeat s n →
    NoneNoted n s.agenda.pending → head_of b.lists (b.seats - 1) ≡ None
unseated-free rows s b n k l h =
    let absent = last-absent l.others n (rw l.last at (k.once n)) in
    let here : has s.notices n ≡ true = rw l.last (has-append l.others (n ∷ []) n ∙ rw absent (grind (
      arith,
      nat_tests,
    ))) in
    let seat : seat_in s.notices n ≡ length s.notices - 1 = rw l.last (seat_in-new l.others n absent ∙ omega (
      arith,
      length-append l.others (n ∷ []),
    )) in
    rw k.board (rw seat at (free-seat s n (told rows s b k) here h))

pub last-row : (rows : List Row) (s : AgendaState) (b : Board) (n : ℕ) → IsAgenda rows s b → IsLastSeat s n →
    (0 < n) × (n ≤ length rows)
last-row rows s b n k l =
    let absent = last-absent l.others n (rw l.last at (k.once n)) in
    k.seated n (rw l.last (has-append l.others (n ∷ []) n ∙ rw absent (grind (arith, nat_tests))))

pub unseat-closed : (rows : List Row) (s : AgendaState) (b c : Board) (n : ℕ) (r : Row) (ms : List ℕ) →
    ms ≡ take (length s.notices - 1) s.notices → IsAgenda rows s b → IsLastSeat s n → NoneNoted n s.agenda.pending →
    c ≡ without_last_seat b → IsSound c → r ≡ get_or rows (n - 1) r →
    IsAgenda (set rows (n - 1) (record { seat = None; pending = r.pending })) (with_pending (with_notices s ms)
    (notices_from 1 (set rows (n - 1) (record { seat = None; pending = r.pending })))) c
unseat-closed rows s b c n r ms w k l h e sound i =
    let row : Row = record { seat = None; pending = r.pending } in
    let is : ms ≡ l.others = w ∙ taken-list s n l in
    let own = last-row rows s b n k l in
    let within : n - 1 < length rows = omega arith in
    let absent = last-absent l.others n (rw l.last at (k.once n)) in
    let read : s.agenda.pending ≡ notices_from 1 (set rows (n - 1) row) = k.read ∙
    sym (from-same 1 rows (n - 1) row (ap (λ (q : Row). q.pending) (sym (row-is rows (n - 1) r within i)))) in
    let less = each-less s.rules l.others s.notices n s.agenda.next_filing s.agenda.pending l.last h k.pending in
    let t = told rows s b k in
    let new : IsTold (with_notices s l.others) = record {
      noted = t.noted;
      filed = t.filed;
      seated = Each-map (IsPending s.rules l.others s.agenda.next_filing) (λ q. has l.others q.notice ≡ true) (λ q
          p. p.seat) s.agenda.pending less;
      keyed = t.keyed;
      ranked = t.ranked;
    } in
    let whole : board_of s ≡ with_seat (board_of (with_notices s l.others)) = ap (λ (ns : List ℕ). board_of
    (with_notices s ns)) l.last ∙ sym (with_seat-more (with_notices s l.others) n new) in
    let count : length l.others + 1 - 1 ≡ length l.others = omega arith in
    let board : without_last_seat (board_of s) ≡ board_of (with_notices s l.others) = ap without_last_seat whole ∙
    ap (board_sized (board_of (with_notices s l.others)).lists) count in
    let kept : IsAgenda (set rows (n - 1) row) (with_notices s l.others) c = record {
      read = read;
      board = e ∙ (ap without_last_seat k.board ∙ board);
      sound = sound;
      seats = λ j m. set-seat rows (n - 1) j row (seat_at l.others (j + 1)) within (λ t. let same : j + 1 ≡ n = grind
          (arith, nat_tests, t, own.0) in rw same (sym (seat_at-none l.others n absent))) (λ t. let apart : eqb n (j
          + 1) ≡ false = grind (arith, nat_tests, t, own.0) in k.seats j (omega (
            arith,
            length-set rows (n - 1) row,
          )) ∙ (ap (λ (ns : List ℕ). seat_at ns (j + 1)) l.last ∙
          seat_at-more l.others n (j + 1) apart));
      seated = λ m u. let d = k.seated m (rw l.last (has-more l.others n m u)) in (
        d.0,
        omega (
          arith,
          d.1,
          length-set rows (n - 1) row,
        ),
      );
      once = λ m. let more = times_in-append l.others (n ∷ []) m in let one = rw l.last at (k.once m) in
          omega (arith, more, one);
      few = omega (arith, k.few, length-set rows (n - 1) row);
      pending = less;
      filed = k.filed;
      filing = k.filing;
      ranked = k.ranked;
      next = k.next;
      classes = k.classes;
    } in
    rw (is, ← read) kept

pub unseat-view : (rows : List Row) (s t : AgendaState) (b : Board) (n : ℕ) (r : Row) (ms : List ℕ) →
    ms ≡ take (length s.notices - 1) s.notices → s ≡ t → IsAgenda rows s b → IsLastSeat s n →
    r ≡ get_or rows (n - 1) r → with_pending (with_notices s ms) (notices_from 1 (set rows (n - 1) (record {
      seat = None;
      pending = r.pending;
    }))) ≡ with_notices t (take (length t.notices - 1) t.notices)
unseat-view rows s t b n r ms w e k l i =
    let own = last-row rows s b n k l in
    let within : n - 1 < length rows = omega arith in
    let row : Row = record { seat = None; pending = r.pending } in
    let read : notices_from 1 (set rows (n - 1) row) ≡ s.agenda.pending = from-same 1 rows (n - 1) row (ap (λ (q :
    Row). q.pending) (sym (row-is rows (n - 1) r within i))) ∙ sym k.read in
    rw (w, read, ← e) refl
