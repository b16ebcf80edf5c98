-- The notice that is directly before another of its class.
use Rattle.std.proofs.Common.{◌≡◌, ℕ, ◌<◌, ◌++◌, Bool, true, false, cond, eqb, List, [], ◌∷◌, length}
use Rattle.std.proofs.Common.{Option, Some, None, unwrap_or, refl, sym, ap, ◌∙◌, arith}
use Rattle.std.proofs.lemmas.Bool.Decides.{nat_tests}
use Rattle.std.specs.Option.{option_map, ForSome}
use Rattle.ss_links.specs.Board.{Board, list_of}
use Rattle.ss_links.specs.Seats.{has, last_of, prev_in}
use Rattle.ss_events.specs.declared.pending_notice.PendingNotice.{PendingNotice}
use Rattle.ss_events.specs.declared.pending_notice.Row.{Row}
use Rattle.ss_events.specs.Agenda.{Pending, pending_at, is_before, of_class, without_notice}
use Rattle.ss_events.specs.State.{AgendaState, Each, seat_in, seats_of, order, board_of}
use Rattle.ss_events.specs.Places.{notices_passed, last, predecessor_of, notice_on}
use Rattle.ss_events.specs.Views.{notice_of}
use Rattle.ss_events.specs.Rows.{IsAgenda}
use Rattle.ss_events.specs.Changes.{with_pending}
use Rattle.ss_events.proofs.OrderLaws.{IsOrder, IsSorted, AreNoted, Each-of_class, without-absent, of_class-without}
use Rattle.ss_events.proofs.OrderLaws.{IsSorted-of_class}
use Rattle.ss_events.proofs.BeforeLaws.{IsKeyed, IsOrder-is_before}
use Rattle.ss_events.proofs.WalkLaws.{passed-none}
use Rattle.ss_events.proofs.StateLaws.{AreSeated, AreNoted-of_class, seat_in-below, seat_in-notice}
use Rattle.ss_events.proofs.BoardOf.{AreNoted-order, AreKeyed-order, Each-order, IsSorted-order, order-without}
use Rattle.ss_events.proofs.BoardOf.{pending_in-class}
use Rattle.ss_events.proofs.Stands.{stands, each-between, told, sound_board}
use Rattle.ss_events.proofs.PutAndTakeOut.{pending-seat}

-- a pending notice is between two parts
pub record IsBetween (es : List Pending) (e : Pending) : Type 0 where
  pub front : List Pending
  pub rear : List Pending
  pub whole : es ≡ front ++ e ∷ rear

pub between : (es : List Pending) (n : ℕ) (e : Pending) → pending_at es n ≡ Some e → IsBetween es e
between [] n e h = absurd (cc)
between (f ∷ fs) n e h = elim (eqb f.notice n)
    as (λ t. cond t (Some f) (pending_at fs n) ≡ Some e → IsBetween (f ∷ fs) e) [
      | true ↦ λ k. let same : f ≡ e = cc in record { front = []; rear = fs; whole = rw same refl }
      | false ↦ λ k. let r = between fs n e k in record {
        front = f ∷ r.front;
        rear = r.rear;
        whole = ap (λ (l : List Pending). f ∷ l) r.whole;
      }
    ] h

-- without it the two parts are left
without-between : (a b : List Pending) (e : Pending) → AreNoted (a ++ e ∷ b) →
    without_notice e.notice (a ++ e ∷ b) ≡ a ++ b
without-between [] b e h = let same : eqb e.notice e.notice ≡ true = grind (arith, nat_tests) in
    rw same (without-absent e.notice b h.0)
without-between (f ∷ fs) b e h =
    let apart : eqb e.notice f.notice ≡ false = each-between (λ g. eqb g.notice f.notice ≡ false) fs b e h.0 in
    let other : eqb f.notice e.notice ≡ false = grind (arith, nat_tests, apart) in
    rw other (ap (λ (l : List Pending). f ∷ l) (without-between fs b e h.1))

-- its place is after those that were before it
passed-between : (P : Pending → Type 0) (lt : Pending → Pending → Bool) → IsOrder P lt →
    (e : Pending) (a b : List Pending) → Each P (a ++ e ∷ b) → IsSorted lt (a ++ e ∷ b) → notices_passed lt e (a ++ b)
    ≡ a
passed-between P lt o e [] b p s = passed-none lt e b s.0
passed-between P lt o e (f ∷ fs) b p s =
    let first = each-between (λ g. lt f g ≡ true) fs b e s.0 in
    let own = each-between P fs b e p.1 in
    rw (o.asymmetric f e p.0 own first) (ap (λ (l : List Pending). f ∷ l) (passed-between P lt o e fs b p.1 s.1))

-- the last seat is that of the last notice
last-seat : (ns : List ℕ) (es : List Pending) →
    last_of (seats_of ns es) ≡ option_map (λ e. seat_in ns e.notice) (last es)
last-seat ns [] = refl
last-seat ns (e ∷ es) = rw (last-seat ns es) (elim (last es)
    as (λ o. Some (unwrap_or (option_map (λ f. seat_in ns f.notice) o) (seat_in ns e.notice)) ≡ Some (seat_in ns
    (unwrap_or o e).notice)) [
      | None ↦ refl
      | Some f ↦ refl
    ])

-- a property of each notice is a property of the last
Each-last : (P : Pending → Type 0) (es : List Pending) (f : Pending) → Each P es → last es ≡ Some f → P f
Each-last P [] f h k = absurd (cc)
Each-last P (e ∷ es) f h k = elim (last es)
    as (λ o. last es ≡ o → Some (unwrap_or o e) ≡ Some f → P f) [
      | None ↦ λ a b. let same : e ≡ f = cc in rw (← same) h.0
      | Some g ↦ λ a b. let same : g ≡ f = cc in Each-last P es f h.1 (a ∙ b)
    ] refl k

-- the facts given by the last seat of some notices
record IsLastOf (s : AgendaState) (es : List Pending) (at : Option ℕ) : Type 0 where
  -- there is such a seat
  pub made : ForSome at (λ x. x < length s.notices)
  -- it is that of the last of them
  pub notice : option_map (notice_on s) at ≡ option_map (λ e. e.notice) (last es)

last-is : (s : AgendaState) (es : List Pending) → AreSeated s.notices es →
    IsLastOf s es (last_of (seats_of s.notices es))
last-is s es a = rw (last-seat s.notices es) (go (last es) refl)
  where
    go : (o : Option Pending) → last es ≡ o → IsLastOf s es (option_map (λ e. seat_in s.notices e.notice) o)
    go None h = record { made = λ x k. absurd (cc); notice = rw h refl }
    go (Some f) h =
        let seat = Each-last (λ e. has s.notices e.notice ≡ true) es f a h in
        let below = seat_in-below s.notices f.notice seat in
        record {
          made = λ x k. let same : seat_in s.notices f.notice ≡ x = cc in rw (← same) below;
          notice = ap (λ (n : ℕ). Some n) (seat_in-notice s.notices f.notice 0 seat) ∙ rw h refl;
        }

-- the seat before that of a notice that is taken out is its predecessor's
pub record IsPredecessor (s : AgendaState) (n : ℕ) (x : PendingNotice) (at : Option ℕ) : Type 0 where
  pub made : ForSome at (λ y. y < length s.notices)
  pub notice : option_map (notice_on s) at ≡ predecessor_of (with_pending s (without_notice n s.agenda.pending))
      (notice_of n x)

pub predecessor-taken : (rows : List Row) (s : AgendaState) (b : Board) (n : ℕ) (x : PendingNotice) (seat : ℕ)
    (at : Option
    ℕ) → IsAgenda rows s b → pending_at s.agenda.pending n ≡ Some (notice_of n x) → seat ≡ seat_in s.notices n →
    at ≡ prev_in (list_of b.lists seat) seat → IsPredecessor s n x at
predecessor-taken rows s b n x seat at k h i p =
    let e = notice_of n x in
    let t = told rows s b k in
    let c = (pending-seat rows s b n e k h).1 in
    let r = between (of_class x.class (order s)) n e (pending_in-class s n e t h) in
    let st = stands s x.class r.front e r.rear t (sound_board rows s b k) c r.whole in
    let here : at ≡ last_of (seats_of s.notices r.front) = p ∙ (ap (λ (d : Board). prev_in (list_of d.lists seat)
    seat) k.board ∙ (ap (λ (y : ℕ). prev_in (list_of (board_of s).lists y) y) i ∙ st.prev)) in
    let sorted = rw r.whole at (IsSorted-of_class (is_before s.rules) x.class (order s) (IsSorted-order s t)) in
    let keyed = rw r.whole at (Each-of_class (IsKeyed s.rules) x.class (order s) (AreKeyed-order s t)) in
    let noted = rw r.whole at (AreNoted-of_class x.class (order s) (AreNoted-order s t)) in
    let rest : of_class x.class (order (with_pending s (without_notice n s.agenda.pending))) ≡ r.front ++ r.rear = ap
    (of_class x.class) (order-without s n t) ∙ (of_class-without x.class n (order s) ∙
    (ap (without_notice n) r.whole ∙ without-between r.front r.rear e noted)) in
    let passes : notices_passed (is_before s.rules) e (of_class x.class (order (with_pending s (without_notice n
    s.agenda.pending)))) ≡ r.front = ap (notices_passed (is_before s.rules) e) rest ∙
    passed-between (IsKeyed s.rules) (is_before s.rules)
    (IsOrder-is_before s.rules t.ranked) e r.front r.rear keyed sorted
    in
    let seated = front-each (λ f. has s.notices f.notice ≡ true) r.front (e ∷ r.rear) (rw r.whole at (Each-of_class
    (λ f. has s.notices f.notice ≡ true) x.class (order s) (Each-order (λ f. has s.notices f.notice ≡ true) s t
    t.seated))) in
    let l = last-is s r.front seated in
    rw here (record {
      made = l.made;
      notice = l.notice ∙ ap (λ (es : List Pending). option_map (λ f. f.notice) (last es)) (sym passes);
    })
  where
    front-each : (P : Pending → Type 0) (a b : List Pending) → Each P (a ++ b) → Each P a
    front-each P [] b h = tt
    front-each P (f ∷ fs) b h = (h.0, front-each P fs b h.1)

pub predecessor-read : (s : AgendaState) (n : ℕ) (x : PendingNotice) (at : Option ℕ) (es : List Pending) →
    IsPredecessor s n x at → without_notice n s.agenda.pending ≡ es →
    option_map (notice_on s) at ≡ predecessor_of (with_pending s es) (notice_of n x)
predecessor-read s n x at es p h =
    p.notice ∙ ap (λ (l : List Pending). predecessor_of (with_pending s l) (notice_of n x)) h
