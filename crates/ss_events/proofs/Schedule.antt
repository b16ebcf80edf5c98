-- The contracts of the agenda's changes: changes fit, and lead back.
use Rattle.std.proofs.Common.{◌≡◌, ℕ, ℤ, ◌+◌, ◌-◌, ◌<◌, ◌≤◌, ◌++◌, Bool, true, false, cond, not, eqb, ltb, List, []}
use Rattle.std.proofs.Common.{w64, SFits, pos, negsuc}
use Rattle.std.proofs.Common.{◌∷◌, length, take, Option, Some, None, Ok, refl, sym, ap, ◌∙◌, arith}
use Rattle.std.proofs.lemmas.Bool.Decides.{nat_tests}
use Rattle.std.specs.Option.{is_some, option_map}
use Rattle.std.specs.Prelude.{int_lt}
use Rattle.ss_words.specs.Ranges.{in_range}
use Rattle.ss_events.specs.declared.limits.TheConstants.{MOST_SCHEDULINGS}
use Rattle.ss_events.specs.Agenda.{may_schedule}
use Rattle.ss_links.specs.Board.{Board}
use Rattle.ss_links.specs.Seats.{has}
use Rattle.ss_links.proofs.SeatLaws.{has-append}
use Rattle.ss_events.specs.declared.pending_notice.PendingNotice.{PendingNotice}
use Rattle.ss_events.specs.declared.pending_notice.Row.{Row}
use Rattle.ss_events.specs.declared.agenda.AgendaChange.TheVariants.{Scheduled, TakenOff}
use Rattle.ss_events.specs.Agenda.{Pending, without_notice}
use Rattle.ss_events.specs.Rules.{Rule, rule_at, is_event_class}
use Rattle.ss_events.specs.declared.agenda.Slot.{Slot}
use Rattle.ss_events.specs.Slots.{slot_of}
use Rattle.ss_events.specs.Agenda.{pending_at, with_notice}
use Rattle.ss_events.specs.State.{AgendaState, Each, NoneNoted, NoneFiled, AreFiled, IsPending}
use Rattle.ss_events.specs.Places.{predecessor_of}
use Rattle.ss_events.specs.Views.{notice_of}
use Rattle.ss_events.specs.Rows.{IsAgenda}
use Rattle.ss_events.specs.Changes.{with_pending, with_notices, with_filing, with_seat_for, CanPend, IsLastSeat}
use Rattle.ss_events.specs.Changes.{IsNewest}
use Rattle.ss_events.specs.Changes.{Went, after_scheduling, IsScheduled}
use Rattle.ss_events.proofs.OrderLaws.{Each-map, Each-without}
use Rattle.ss_events.proofs.RowLaws.{Ascend, Ascend-from, pending_at-each, without-with, with-without}
use Rattle.ss_events.proofs.GiveSeat.{take-last}

pub NoneNoted-without : (n : ℕ) (es : List Pending) → NoneNoted n (without_notice n es)
NoneNoted-without n [] = tt
NoneNoted-without n (e ∷ es) = elim (eqb e.notice n)
    as (λ t. eqb e.notice n ≡ t → NoneNoted n (cond t (without_notice n es) (e ∷ without_notice n es))) [
      | true ↦ λ t. NoneNoted-without n es
      | false ↦ λ t. (t, NoneNoted-without n es)
    ] refl

NoneFiled-pending_at : (k n : ℕ) (e : Pending) (es : List Pending) → NoneFiled k es → pending_at es n ≡ Some e →
    eqb e.filing k ≡ false
NoneFiled-pending_at k n e es h a = (pending_at-each (λ f. eqb f.filing k ≡ false) es n e h a).0

-- the filing number of a notice that is taken off is free
NoneFiled-without : (n : ℕ) (e : Pending) (es : List Pending) → Ascend es → AreFiled es → pending_at es n ≡ Some e →
    NoneFiled e.filing (without_notice n es)
NoneFiled-without n e [] a h p = absurd (cc)
NoneFiled-without n e (f ∷ fs) a h p = elim (eqb f.notice n)
    as (λ t. eqb f.notice n ≡ t → cond t (Some f) (pending_at fs n) ≡ Some e →
    NoneFiled e.filing (cond t (without_notice n fs) (f ∷ without_notice n fs))) [
      | true ↦ λ t q. let same : f ≡ e = cc in rw (← same) (Each-without (λ g. eqb g.filing f.filing ≡ false) n fs h.0)
      | false ↦ λ t q. let apart : eqb f.filing e.filing ≡ false = grind (
        arith,
        nat_tests,
        NoneFiled-pending_at f.filing n e fs h.0 q,
      ) in (apart, NoneFiled-without n e fs a.1 h.1 q)
    ] refl p

-- a pending notice is taken off
pub went-taken : (rows : List Row) (s new : AgendaState) (b : Board) (n : ℕ) (x : PendingNotice) (p : Option ℕ) →
    IsAgenda rows s b →
    0 < n → pending_at s.agenda.pending n ≡ Some (notice_of n x) →
    new ≡ with_pending s (without_notice n s.agenda.pending) → p ≡ predecessor_of new (notice_of n x) →
    Went (TakenOff n x p) (with_pending s (without_notice n s.agenda.pending)) s new
went-taken rows s new b n x p k above h e q =
    let up : Ascend s.agenda.pending = rw k.read (Ascend-from 1 rows) in
    let back : with_notice (notice_of n x) (without_notice n s.agenda.pending) ≡ s.agenda.pending = with-without
    s.agenda.pending n (notice_of n x) up h in
    record {
      state = e;
      fits = rw e (
        above,
        record {
          notice = NoneNoted-without n s.agenda.pending;
          filing = NoneFiled-without n (notice_of n x) s.agenda.pending up k.filed h;
          kept = (pending_at-each (IsPending s.rules s.notices s.agenda.next_filing) s.agenda.pending n (notice_of n
              x) k.pending h).0;
        },
        rw e at q,
      );
      back = rw (e, back) refl;
    }

-- a number that is not pending
pub none-noted : (n : ℕ) (es : List Pending) → is_some (pending_at es n) ≡ false → NoneNoted n es
none-noted n [] h = tt
none-noted n (e ∷ es) h = elim (eqb e.notice n)
    as (λ t. is_some (cond t (Some e) (pending_at es n)) ≡ false → (t ≡ false) × NoneNoted n es) [
      | true ↦ λ k. absurd (cc)
      | false ↦ λ k. (refl, none-noted n es k)
    ] h

pub none-filed : (rs : List Rule) (ns : List ℕ) (k : ℕ) (es : List Pending) → Each (IsPending rs ns k) es →
    NoneFiled k es
none-filed rs ns k es h = Each-map (IsPending rs ns k) (λ e. eqb e.filing k ≡ false)
    (λ e p. let below = p.well.filing in
    grind (arith, nat_tests, below)) es h

pub has-seated : (ns : List ℕ) (n : ℕ) → has (with_seat_for ns n) n ≡ true
has-seated ns n = elim (has ns n) as (λ t. has ns n ≡ t → has (cond t ns (ns ++ n ∷ [])) n ≡ true) [
  | true ↦ λ t. t
  | false ↦ λ t. has-append ns (n ∷ []) n ∙ rw t (grind (arith, nat_tests))
] refl

-- a notice that is scheduled may become pending
pub can-pend : (rows : List Row) (s : AgendaState) (b : Board) (n : ℕ) (x : PendingNotice) → IsAgenda rows s b →
    NoneNoted n s.agenda.pending → is_event_class s.rules x.class ≡ true →
    in_range x.time ≡ true → length x.keys.items ≡ length (rule_at s.rules x.class).ties →
    x.filing ≡ s.agenda.next_filing
    → CanPend (with_filing (with_notices s (with_seat_for s.notices n)) (s.agenda.next_filing
    + 1)) (notice_of n x)
can-pend rows s b n x k h c t l f = record {
  notice = h;
  filing = rw f (none-filed s.rules s.notices s.agenda.next_filing s.agenda.pending k.pending);
  kept = record {
    well = record {
      class = c;
      time = t;
      keys = l;
      filing = omega arith;
      first = omega (
        arith,
        f,
        k.next,
      );
    };
    seat = has-seated s.notices n;
  };
}

pub pending_at-with : (e : Pending) (es : List Pending) → NoneNoted e.notice es →
    pending_at (with_notice e es) e.notice ≡ Some e
pending_at-with e [] h = let same : eqb e.notice e.notice ≡ true = grind (arith, nat_tests) in rw same refl
pending_at-with e (f ∷ fs) h = let same : eqb e.notice e.notice ≡ true = grind (arith, nat_tests) in
    elim (ltb e.notice f.notice) as (λ t. pending_at (cond t (e ∷ f ∷ fs) (f ∷ with_notice e fs)) e.notice ≡ Some e) [
      | true ↦ rw same refl
      | false ↦ rw h.0 (pending_at-with e fs h.1)
    ]

-- the state in which a notice is scheduled
abbrev scheduling : AgendaState → Pending → AgendaState
scheduling s e = record s {
  agenda = record {
    pending = with_notice e s.agenda.pending;
    next_filing = s.agenda.next_filing + 1;
  };
  notices = with_seat_for s.notices e.notice;
}

-- a notice is scheduled
pub went-scheduled : (rows : List Row) (s new : AgendaState) (b : Board) (e : Pending) (made : Bool) →
    IsAgenda rows s b → 0 < e.notice → NoneNoted e.notice s.agenda.pending → e.filing ≡ s.agenda.next_filing →
    made ≡ not (has s.notices e.notice) → new ≡ scheduling s e → Went (Scheduled e.notice made) (scheduling s e) s new
went-scheduled rows s new b e made k above h f m n =
    let same : eqb e.notice e.notice ≡ true = grind (arith, nat_tests) in
    let gone : without_notice e.notice (with_notice e s.agenda.pending) ≡ s.agenda.pending = without-with e.notice e
    s.agenda.pending h same in
    let count : s.agenda.next_filing + 1 - 1 ≡ s.agenda.next_filing = omega arith in
    let others : Each (λ g. g.filing < e.filing) s.agenda.pending = Each-map (IsPending s.rules s.notices
    s.agenda.next_filing) (λ g. g.filing < e.filing) (λ g p. let below = p.well.filing in
    omega arith) s.agenda.pending k.pending in
    let last : made ≡ true → IsLastSeat (scheduling s e) e.notice = λ t. record {
      others = s.notices;
      last = let none : has s.notices e.notice ≡ false = no (has s.notices e.notice) (sym m ∙ t) in
          rw none refl;
    } in
    let seats : cond made (take (length (with_seat_for s.notices e.notice) - 1) (with_seat_for s.notices e.notice))
    (with_seat_for
    s.notices e.notice) ≡ s.notices = elim (has s.notices e.notice)
    as (λ t. made ≡ not t → cond made (take (length (cond t s.notices (s.notices ++ e.notice ∷ [])) - 1) (cond t
    s.notices (s.notices ++ e.notice ∷ []))) (cond t s.notices (s.notices ++ e.notice ∷ [])) ≡ s.notices) [
      | true ↦ λ t. rw t refl
      | false ↦ λ t. rw t (take-last s.notices e.notice)
    ] m in
    record {
      state = n;
      fits = rw n (
        above,
        record {
          newest = e;
          pending = pending_at-with e s.agenda.pending h;
          filing = ap (λ (j : ℕ). j + 1) f;
          first = omega (arith, f, k.next);
          others = rw gone others;
        },
        last,
      );
      back = rw (n, gone, count, seats) refl;
    }
  where
    no : (t : Bool) → not t ≡ true → t ≡ false
    no true h = absurd (cc)
    no false h = refl

pub is_some-map : {A B : Type 0} (f : A → B) (o : Option A) (t : Bool) → is_some (option_map f o) ≡ t → is_some o ≡ t
is_some-map f None t h = h
is_some-map f (Some a) t h = h

-- the steps of a scheduling
pub record IsStepped (s s1 s2 : AgendaState) (n : ℕ) (x : PendingNotice) : Type 0 where
  pub first : s1 ≡ with_notices s (with_seat_for s.notices n)
  pub second : s2 ≡ with_filing s1 (s1.agenda.next_filing + 1)
  pub filing : x.filing ≡ s1.agenda.next_filing
  pub idle : is_some (pending_at s.agenda.pending n) ≡ false
  pub class : is_event_class s.rules x.class ≡ true
  pub time : in_range x.time ≡ true
  pub keys : length x.keys.items ≡ length (rule_at s.rules x.class).ties

pub stepped-filing : (s s1 s2 : AgendaState) (n : ℕ) (x : PendingNotice) → IsStepped s s1 s2 n x →
    x.filing ≡ s.agenda.next_filing
stepped-filing s s1 s2 n x p = p.filing ∙ ap (λ (t : AgendaState). t.agenda.next_filing) p.first

pub stepped-state : (s s1 s2 : AgendaState) (n : ℕ) (x : PendingNotice) → IsStepped s s1 s2 n x →
    s2 ≡ with_filing (with_notices s (with_seat_for s.notices n)) (s.agenda.next_filing + 1)
stepped-state s s1 s2 n x p = rw (p.second, p.first) refl

pub stepped-can : (rows : List Row) (s s1 s2 : AgendaState) (b : Board) (n : ℕ) (x : PendingNotice) → IsAgenda rows s b
    →
    IsStepped s s1 s2 n x → CanPend s2 (notice_of n x)
stepped-can rows s s1 s2 b n x k p = rw (stepped-state s s1 s2 n x p) (can-pend rows s b n x k (none-noted n
    s.agenda.pending p.idle) p.class p.time p.keys (stepped-filing s s1 s2 n x p))

abbrev pending_of : ℕ → ℤ → ℕ → List ℤ → ℕ → Pending
pending_of n t c ks f = record { notice = n; time = t; class = c; keys = ks; filing = f }

abbrev record_with : AgendaState → ℕ → Pending → AgendaState
record_with s n v = with_pending (with_filing (with_notices s (with_seat_for s.notices n)) (s.agenda.next_filing + 1))
    (with_notice v s.agenda.pending)

pub stepped-went : (rows : List Row) (s s1 s2 new : AgendaState) (b : Board) (n : ℕ) (time clock : ℤ) (keys : List ℤ)
    (x : PendingNotice) (made : Bool) → IsAgenda rows s b → IsStepped s s1 s2 n x → 0 < n → int_lt time clock ≡ false →
    s.agenda.next_filing ≤ MOST_SCHEDULINGS → x.time ≡ time → x.keys.items ≡ keys → made ≡ not (has s.notices n) →
    new ≡ with_pending s2 (with_notice (notice_of n x) s2.agenda.pending) →
    IsScheduled (Ok (Scheduled n made)) (may_schedule s.agenda n time clock) (after_scheduling s n time x.class keys)
    s new
stepped-went rows s s1 s2 new b n time clock keys x made k p above h1 h2 t l m e =
    let filing = stepped-filing s s1 s2 n x p in
    let free : ltb MOST_SCHEDULINGS s.agenda.next_filing ≡ false = grind (arith, nat_tests, h2) in
    let q : Pending = record {
      notice = n;
      time = time;
      class = x.class;
      keys = keys;
      filing = s.agenda.next_filing;
    } in
    let same : notice_of n x ≡ q = ap (λ (v : ℤ). pending_of n v x.class x.keys.items x.filing) t ∙
    (ap (λ (v : List ℤ). pending_of n time x.class v x.filing) l ∙
    ap (λ (v : ℕ). pending_of n time x.class keys v) filing) in
    let new_is : new ≡ scheduling s q = e ∙ (ap (λ (v : AgendaState). with_pending v (with_notice (notice_of n x)
    v.agenda.pending)) (stepped-state s s1 s2 n x p) ∙ ap (λ (v : Pending). record_with s n v) same) in
    rw (h1, p.idle, free) (went-scheduled rows s new b q made k above (none-noted n s.agenda.pending p.idle) refl m
    new_is)

-- a notice without a slot is not pending
pub no-slot : (o : Option Slot) (p : Option Pending) (t : Bool) → o ≡ option_map slot_of p → t ≡ is_some o →
    t ≡ false → is_some p ≡ false
no-slot o p t h k e = is_some-map slot_of p false (ap (λ (q : Option Slot). is_some q) (sym h) ∙ (sym k ∙ e))

-- the newest notice's filing number is free after the notice is taken out
pub newest-free : (s t : AgendaState) (n : ℕ) → t ≡ with_pending s (without_notice n s.agenda.pending) →
    IsNewest s n → (1 < t.agenda.next_filing) × Each (λ e. e.filing + 1 < t.agenda.next_filing) t.agenda.pending
newest-free s t n e w = rw e (
  omega (arith, w.filing, w.first),
  Each-map (λ g. g.filing < w.newest.filing) (λ g. g.filing + 1 < s.agenda.next_filing) (λ g p. omega (
    arith,
    p,
    w.filing,
  )) (without_notice n s.agenda.pending) w.others,
)

-- a number that fits 64 bits is in range
pub fits-range : (z : ℤ) → SFits w64 z → in_range z ≡ true
fits-range (pos n) h = let fits = h.sfits in grind (arith, nat_tests, fits)
fits-range (negsuc n) h = let fits = h.sfits in grind (arith, nat_tests, fits)
