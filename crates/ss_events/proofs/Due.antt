-- How the times of the seats are kept.
use Rattle.std.proofs.Common.{◌≡◌, ℕ, ℤ, pos, ◌-◌, ◌<◌, ◌≤◌, ◌++◌, true, false, eqb, ltb, List, [], ◌∷◌, length}
use Rattle.std.proofs.Common.{take, get_or, Option, Some, None, refl, sym, ap, ◌∙◌, arith, suc, zero, length-append}
use Rattle.std.proofs.Math.ListN.{set, length-set, get_or-append}
use Rattle.std.proofs.Math.Seq.{get_or-append_seam}
use Rattle.std.proofs.lemmas.List.{get_or-set_same, get_or-set_other, get_or-take, length-take}
use Rattle.std.proofs.lemmas.Bool.Decides.{nat_tests}
use Rattle.std.specs.Option.{option_map}
use Rattle.ss_links.specs.Board.{Board}
use Rattle.ss_links.specs.Seats.{has}
use Rattle.ss_events.specs.declared.pending_notice.PendingNotice.{PendingNotice}
use Rattle.ss_events.specs.declared.pending_notice.Row.{Row}
use Rattle.ss_events.specs.State.{AgendaState, seat_in}
use Rattle.ss_events.specs.Agenda.{Pending, pending_at}
use Rattle.ss_events.specs.Rows.{notices_from, row_at, empty_row, IsGrown, IsAgenda, AreDue}
use Rattle.ss_events.proofs.RowLaws.{pending_row}
use Rattle.ss_events.proofs.StateLaws.{seat_in-notice}
use Rattle.ss_events.proofs.GiveSeat.{row_at-empty}
use Rattle.ss_events.specs.Views.{notice_of}
use Rattle.ss_events.proofs.PutAndTakeOut.{has-row, row-is, unseated-idle}
use Rattle.ss_events.proofs.Stands.{has-get_or}
use Rattle.ss_events.proofs.Listings.{seat_in-index}

-- no seats
pub due-none : (ts : List ℤ) (ns : List ℕ) (rows : List Row) → ts ≡ [] → ns ≡ [] → AreDue ts ns rows
due-none ts ns rows e f = rw (e, f) (record { count = refl; due = λ x p l h. absurd (omega (arith, l)) })

-- the same times, seats and rows
pub due-same : (ts us : List ℤ) (ns ms : List ℕ) (rows new : List Row) → AreDue ts ns rows → us ≡ ts → ms ≡ ns
    → new ≡ rows → AreDue us ms new
due-same ts us ns ms rows new d e f g = rw (e, f, g) d

-- each pending notice was pending before
abbrev pub IsFewer : List Row → List Row → Type 0
IsFewer new rows = (i : ℕ) (p : PendingNotice) → (row_at new i).pending ≡ Some p → (row_at rows i).pending ≡ Some p

pub due-fewer : (ts : List ℤ) (ns : List ℕ) (rows new : List Row) → AreDue ts ns rows → IsFewer new rows
    → AreDue ts ns new
due-fewer ts ns rows new d h = record {
  count = d.count;
  due = λ x p l e. d.due x p l (h (get_or ns x 0 - 1) p e);
}

pub none-set : (rows : List Row) (j : ℕ) (r : Row) → r.pending ≡ None → IsFewer (set rows j r) rows
none-set [] j r h i p e = e
none-set (q ∷ qs) zero r h zero p e = absurd (cc)
none-set (q ∷ qs) zero r h (suc i) p e = e
none-set (q ∷ qs) (suc j) r h zero p e = e
none-set (q ∷ qs) (suc j) r h (suc i) p e = none-set qs j r h i p e

pub same-set : (rows : List Row) (j : ℕ) (r : Row) → r.pending ≡ (row_at rows j).pending → IsFewer (set rows j r) rows
same-set [] j r h i p e = e
same-set (q ∷ qs) zero r h zero p e = sym h ∙ e
same-set (q ∷ qs) zero r h (suc i) p e = e
same-set (q ∷ qs) (suc j) r h zero p e = e
same-set (q ∷ qs) (suc j) r h (suc i) p e = same-set qs j r h i p e

pub grown-fewer : (old new : List Row) (count : ℕ) → IsGrown old new count → IsFewer new old
grown-fewer old new count g i p e =
    ap (λ (r : Row). r.pending) (sym (ap (λ (rs : List Row). row_at rs i) g.whole ∙ row_at-empty g.more i old)) ∙ e

-- a seat more, whose notice is not pending
pub due-more : (ts us : List ℤ) (ns ms : List ℕ) (rows : List Row) (n : ℕ) → AreDue ts ns rows
    → (row_at rows (n - 1)).pending ≡ None → us ≡ ts ++ pos 0 ∷ [] → ms ≡ ns ++ n ∷ [] → AreDue us ms rows
due-more ts us ns ms rows n d h e f = rw (e, f) (record {
  count = omega (arith, d.count, length-append ts (pos 0 ∷ []), length-append ns (n ∷ []));
  due = one;
})
  where
    one : (x : ℕ) (p : PendingNotice) → x < length (ns ++ n ∷ [])
        → (row_at rows (get_or (ns ++ n ∷ []) x 0 - 1)).pending ≡ Some p → get_or (ts ++ pos 0 ∷ []) x (pos 0) ≡ p.time
    one x p l g = elim (ltb x (length ns)) as (λ t. ltb x (length ns) ≡ t → get_or (ts ++ pos 0 ∷ []) x (pos 0) ≡ p.time) [
      | true ↦ λ t.
          let within : x < length ns = grind (arith, nat_tests, t) in
          let there : x < length ts = omega (arith, within, d.count) in
          get_or-append ts (pos 0 ∷ []) (pos 0) x there
          ∙ d.due x p within (rw (get_or-append ns (n ∷ []) 0 x within) at g)
      | false ↦ λ t.
          let past : length ns ≤ x = grind (arith, nat_tests, t) in
          let same : x ≡ length ns = omega (arith, past, l, length-append ns (n ∷ [])) in
          let own : get_or (ns ++ n ∷ []) x 0 ≡ n = ap (λ i. get_or (ns ++ n ∷ []) i 0) same ∙ get_or-append_seam ns n [] 0 in
          let some : (row_at rows (n - 1)).pending ≡ Some p = rw own at g in
          absurd (cc)
    ] refl

-- the last seat taken off
pub due-less : (ts us : List ℤ) (ns ms : List ℕ) (rows : List Row) (i j : ℕ) → AreDue ts ns rows → i ≡ j
    → us ≡ take i ts → ms ≡ take j ns → AreDue us ms rows
due-less ts us ns ms rows i j d k e f = rw (e, f, k) (record {
  count = omega (arith, d.count, length-take j ts, length-take j ns);
  due = λ x p l g.
      let below : x < j = omega (arith, l, length-take j ns) in
      let within : x < length ns = omega (arith, l, length-take j ns) in
      get_or-take j ts x (pos 0) below ∙ d.due x p within (rw (get_or-take j ns x 0 below) at g);
})

-- a notice put in, its time at its seat
pub due-put : (ts us : List ℤ) (rows : List Row) (s : AgendaState) (b : Board) (n x : ℕ) (y : PendingNotice) (r : Row)
    → IsAgenda rows s b → AreDue ts s.notices rows → has s.notices n ≡ true → x ≡ seat_in s.notices n
    → us ≡ set ts x y.time → r.pending ≡ Some y → AreDue us s.notices (set rows (n - 1) r)
due-put ts us rows s b n x y r k d h v w e = rw w (record {
  count = length-set ts x y.time ∙ d.count;
  due = one;
})
  where
    one : (z : ℕ) (p : PendingNotice) → z < length s.notices
        → (row_at (set rows (n - 1) r) (get_or s.notices z 0 - 1)).pending ≡ Some p
        → get_or (set ts x y.time) z (pos 0) ≡ p.time
    one z p l g = elim (eqb z x) as (λ t. eqb z x ≡ t → get_or (set ts x y.time) z (pos 0) ≡ p.time) [
      | true ↦ λ t.
          let same : z ≡ x = grind (arith, nat_tests, t) in
          let own : get_or s.notices z 0 ≡ n = rw (same, v) (seat_in-notice s.notices n 0 h) in
          let row = has-row rows s b n k h in
          let is : r.pending ≡ Some p = rw (own, get_or-set_same rows (n - 1) r empty_row row) at g in
          let both : y ≡ p = cc in
          let there : x < length ts = omega (arith, same, l, d.count) in
          ap (λ i. get_or (set ts x y.time) i (pos 0)) same ∙ (get_or-set_same ts x y.time (pos 0) there
          ∙ ap (λ (q : PendingNotice). q.time) both)
      | false ↦ λ t.
          let apart : ¬ (z ≡ x) = λ a. absurd (grind (arith, nat_tests, t, a)) in
          let index = seat_in-index s.notices z 0 k.once l in
          let other : ¬ (get_or s.notices z 0 ≡ n) = λ a. apart (sym index ∙ (ap (seat_in s.notices) a ∙ sym v)) in
          let above = (k.seated (get_or s.notices z 0) (has-get_or s.notices z 0 l)).0 in
          let own = (k.seated n h).0 in
          let far : ¬ (get_or s.notices z 0 - 1 ≡ n - 1) = λ a. other (omega (arith, a, above, own)) in
          let old = get_or-set_other rows (n - 1) (get_or s.notices z 0 - 1) r empty_row far in
          get_or-set_other ts x z y.time (pos 0) apart
          ∙ d.due z p l (ap (λ (q : Row). q.pending) (sym old) ∙ g)
    ] refl

-- rows grown
pub due-grown : (ts us : List ℤ) (ns ms : List ℕ) (old new : List Row) (count : ℕ) → AreDue ts ns old
    → IsGrown old new count → us ≡ ts → ms ≡ ns → AreDue us ms new
due-grown ts us ns ms old new count d g e f = rw (e, f) (due-fewer ts ns old new d (grown-fewer old new count g))

-- a row read and put back with the same entry
row-pending : (rows : List Row) (n : ℕ) (q r : Row) → n - 1 < length rows → q ≡ get_or rows (n - 1) q
    → r.pending ≡ q.pending → r.pending ≡ (row_at rows (n - 1)).pending
row-pending rows n q r l e h = h ∙ ap (λ (t : Row). t.pending) (sym (row-is rows (n - 1) q l e))

-- a seat is made for a notice
pub due-seat : (ts us : List ℤ) (ms : List ℕ) (rows : List Row) (s : AgendaState) (b : Board) (n : ℕ) (q r : Row)
    → IsAgenda rows s b → AreDue ts s.notices rows → has s.notices n ≡ false → 0 < n → n ≤ length rows
    → q ≡ get_or rows (n - 1) q → r.pending ≡ q.pending → us ≡ ts ++ pos 0 ∷ [] → ms ≡ s.notices ++ n ∷ []
    → AreDue us ms (set rows (n - 1) r)
due-seat ts us ms rows s b n q r k d none a l i h e f =
    let row : n - 1 < length rows = omega (arith, a, l) in
    let more = due-more ts us s.notices ms rows n d (unseated-idle rows s b n k a none) e f in
    due-fewer us ms rows (set rows (n - 1) r) more (same-set rows (n - 1) r (row-pending rows n q r row i h))

-- the last seat is taken off, which is a notice's
pub due-unseat : (ts us : List ℤ) (ns ms : List ℕ) (rows : List Row) (n i j : ℕ) (q r : Row) → AreDue ts ns rows
    → n - 1 < length rows → q ≡ get_or rows (n - 1) q → r.pending ≡ q.pending → i ≡ j → us ≡ take i ts → ms ≡ take j ns
    → AreDue us ms (set rows (n - 1) r)
due-unseat ts us ns ms rows n i j q r d l g h k e f = due-fewer us ms rows (set rows (n - 1) r)
    (due-less ts us ns ms rows i j d k e f) (same-set rows (n - 1) r (row-pending rows n q r l g h))

-- the time of a seat whose notice is pending
pub time-of : (ts : List ℤ) (ns : List ℕ) (rows : List Row) (seat : ℕ) (f : Pending) → AreDue ts ns rows
    → seat < length ns → 0 < get_or ns seat 0 → pending_at (notices_from 1 rows) (get_or ns seat 0) ≡ Some f
    → get_or ts seat (pos 0) ≡ f.time
time-of ts ns rows seat f d l a h = go (row_at rows (get_or ns seat 0 - 1)).pending refl
  where
    read : pending_at (notices_from 1 rows) (get_or ns seat 0)
        ≡ option_map (notice_of (get_or ns seat 0)) (row_at rows (get_or ns seat 0 - 1)).pending
    read = pending_row rows (get_or ns seat 0) a

    go : (o : Option PendingNotice) → (row_at rows (get_or ns seat 0 - 1)).pending ≡ o → get_or ts seat (pos 0) ≡ f.time
    go None e =
        let none : None ≡ Some f = ap (option_map (notice_of (get_or ns seat 0))) (sym e) ∙ (sym read ∙ h) in
        absurd (cc)
    go (Some x) e =
        let some : Some (notice_of (get_or ns seat 0) x) ≡ Some f =
        ap (option_map (notice_of (get_or ns seat 0))) (sym e) ∙ (sym read ∙ h) in
        let is : notice_of (get_or ns seat 0) x ≡ f = cc in
        d.due seat x l e ∙ ap (λ (q : Pending). q.time) is
