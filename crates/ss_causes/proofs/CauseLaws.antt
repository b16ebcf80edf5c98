-- Each cause is before its state and kept, and the chain of causes ends at the start.
use Rattle.std.proofs.Common.{◌≡◌, ℕ, zero, suc, ◌+◌, ◌<◌, ◌≤◌, Bool, true, false, List, [], ◌∷◌, Option, Some, None}
use Rattle.std.proofs.Common.{refl, inl, arith, subst, nat_lt}
use Rattle.std.specs.Prelude.{if◌then◌else◌}
use borrow.Author.Tests.{ltb-true, ltb-false}
use Rattle.ss_events.specs.Agenda.{Pending}
use Rattle.ss_events.specs.declared.agenda.Slot.{Slot}
use Rattle.ss_state.specs.Run.{Input, run}
use Rattle.ss_debug.specs.Move.{runs_event}
use Rattle.ss_trace.specs.History.{newest, positions_where}
use Rattle.ss_trace.specs.Laws.{IsAmong}
use Rattle.ss_trace.specs.Movements.{frames_at, is_outside}
use Rattle.ss_trace.proofs.HistoryLaws.{only}
use Rattle.ss_causes.specs.declared.cause.Cause.{Cause}
use Rattle.ss_causes.specs.declared.cause.Cause.TheVariants.{Start, Called, Scheduled, NotKept}
use Rattle.ss_causes.specs.Causes.{newest_where, is_in_main, opening, notice_started, makes_pending, scheduling}
use Rattle.ss_causes.specs.Causes.{cause_of_notice, cause_of_event, cause_of_frame, cause_at}
use Rattle.ss_causes.specs.Turn.{cause_end, cause_in, state_after_back_cause}
use Rattle.ss_causes.specs.Laws.{IsEarlier, CausesAreEarlier, CausesMakePending, BackCauseGoesBack, BackCausesEnd}
use Rattle.ss_causes.specs.Laws.{StartHasNoCause}

-- ---- the newest step

newest_among : (qs : List ℕ) (q : ℕ) → newest qs ≡ Some q → IsAmong q qs
newest_among [] q h = absurd (cc)
newest_among (r ∷ rs) q h = let e : q ≡ r = cc in inl e

newest_is : (test : ℕ → Bool) (low p q : ℕ) → newest_where test low p ≡ Some q →
    (low ≤ q) × (q < p) × (test q ≡ true)
newest_is test low p q h = only test low p q (newest_among (positions_where test low p) q h)

-- ---- a cause is before its state, and kept

earlier_notice : (t : Input) (low q p : ℕ) (n : Pending) (o : Option ℕ) → scheduling t n.notice low q ≡ o → q < p →
    IsEarlier low p (cause_of_notice n o)
earlier_notice t low q p n None e b = tt
earlier_notice t low q p n (Some r) e b =
    let h = newest_is (makes_pending t n.notice) low q r e in (h.0, omega (arith, h.1, b))

earlier_event : (t : Input) (low q p : ℕ) (o : Option Pending) → q < p → IsEarlier low p (cause_of_event t low q o)
earlier_event t low q p None b = tt
earlier_event t low q p (Some n) b = earlier_notice t low q p n (scheduling t n.notice low q) refl b

earlier_frame : (t : Input) (low p : ℕ) (o : Option ℕ) → opening t low p ≡ o → IsEarlier low p (cause_of_frame t low p o)
earlier_frame t low p None e = tt
earlier_frame t low p (Some q) e =
    by_kind (runs_event t (run t p)) (newest_is (is_outside t (frames_at t p)) low p q e)
  where
    by_kind : (b : Bool) → (low ≤ q) × (q < p) × (is_outside t (frames_at t p) q ≡ true) →
        IsEarlier low p (if b then cause_of_event t low q (notice_started t q) else Called q)
    by_kind true h = earlier_event t low q p (notice_started t q) h.1
    by_kind false h = (h.0, h.1)

pub earlier : CausesAreEarlier
unfolding cause_at
earlier t low p = by_main (is_in_main t p) (earlier_frame t low p (opening t low p) refl)
  where
    by_main : (b : Bool) → IsEarlier low p (cause_of_frame t low p (opening t low p)) →
        IsEarlier low p (if b then Start else cause_of_frame t low p (opening t low p))
    by_main true h = tt
    by_main false h = h

-- ---- the cause of an event made its notice pending

pending_notice : (t : Input) (low p q k : ℕ) (slot : Slot) (n : Pending) (o : Option ℕ) →
    scheduling t n.notice low p ≡ o → cause_of_notice n o ≡ Scheduled q k slot → makes_pending t k q ≡ true
pending_notice t low p q k slot n None e h = absurd (cc)
pending_notice t low p q k slot n (Some r) e h =
    let step : r ≡ q = cc in
    let notice : n.notice ≡ k = cc in
    let m = newest_is (makes_pending t n.notice) low p r e in
    subst (λ (j : ℕ). makes_pending t j q ≡ true) notice
    (subst (λ (j : ℕ). makes_pending t n.notice j ≡ true) step m.2)

pending_event : (t : Input) (low p q k : ℕ) (slot : Slot) (o : Option Pending) →
    cause_of_event t low p o ≡ Scheduled q k slot → makes_pending t k q ≡ true
pending_event t low p q k slot None h = absurd (cc)
pending_event t low p q k slot (Some n) h = pending_notice t low p q k slot n (scheduling t n.notice low p) refl h

pending_frame : (t : Input) (low p q k : ℕ) (slot : Slot) (o : Option ℕ) →
    cause_of_frame t low p o ≡ Scheduled q k slot → makes_pending t k q ≡ true
pending_frame t low p q k slot None h = absurd (cc)
pending_frame t low p q k slot (Some r) h = by_kind (runs_event t (run t p)) h
  where
    by_kind : (b : Bool) →
        (if b then cause_of_event t low r (notice_started t r) else Called r) ≡ Scheduled q k slot →
        makes_pending t k q ≡ true
    by_kind true e = pending_event t low r q k slot (notice_started t r) e
    by_kind false e = absurd (cc)

pub pending : CausesMakePending
unfolding cause_at
pending t low p q k slot h = by_main (is_in_main t p) h
  where
    by_main : (b : Bool) → (if b then Start else cause_of_frame t low p (opening t low p)) ≡ Scheduled q k slot →
        makes_pending t k q ≡ true
    by_main true e = absurd (cc)
    by_main false e = pending_frame t low p q k slot (opening t low p) e

-- ---- BACK CAUSE

end_earlier : (low p : ℕ) (c : Cause) → IsEarlier low p c → low < p → cause_end low c < p
end_earlier low p Start h l = l
end_earlier low p (Called q) h l = h.1
end_earlier low p (Scheduled q k slot) h l = h.1
end_earlier low p NotKept h l = l

end_kept : (low p : ℕ) (c : Cause) → IsEarlier low p c → low ≤ cause_end low c
end_kept low p Start h = omega arith
end_kept low p (Called q) h = h.0
end_kept low p (Scheduled q k slot) h = h.0
end_kept low p NotKept h = omega arith

end_stays : (low p : ℕ) (c : Cause) → IsEarlier low p c → p ≤ low → cause_end low c ≡ low
end_stays low p Start h l = refl
end_stays low p (Called q) h l = absurd (omega (arith, h.0, h.1, l))
end_stays low p (Scheduled q k slot) h l = absurd (omega (arith, h.0, h.1, l))
end_stays low p NotKept h l = refl

pub goes_back : BackCauseGoesBack
goes_back t d l = end_earlier d.earliest d.position (cause_in t d) (earlier t d.earliest d.position) l

nearer : (low p q n : ℕ) (b : Bool) → nat_lt low p ≡ b → (low < p → q < p) → (p ≤ low → q ≡ low) → p ≤ low + suc n →
    q ≤ low + n
nearer low p q n true e f g a = let h : q < p = f (ltb-true _ _ e) in omega (arith, h, a)
nearer low p q n false e f g a = let h : q ≡ low = g (ltb-false _ _ e) in omega (arith, h)

pub ends : BackCausesEnd
ends t zero d a b = omega (arith, a, b)
ends t (suc n) d a b =
    let low = d.earliest in
    let p = d.position in
    let c : Cause = cause_in t d in
    let h : IsEarlier low p c = earlier t low p in
    ends t n (state_after_back_cause t d) (end_kept low p c h)
    (nearer low p (cause_end low c) n (nat_lt low p) refl (end_earlier low p c h) (end_stays low p c h) b)

pub started : StartHasNoCause
unfolding cause_at
started t = refl
