-- The pending notices in order: their properties, and their lines.
use Rattle.std.proofs.Common.{◌≡◌, ℕ, zero, suc, ◌+◌, ◌<◌, ◌≤◌, Bool, true, false, cond, eqb, List, [], ◌∷◌, ◌++◌}
use Rattle.std.proofs.Common.{length, drop, refl, sym, ap, ◌∙◌, ◌≢◌, arith, rules, Option, Some, None, slice_get, subst}
use Rattle.std.specs.Prelude.{codes}
use Rattle.std.specs.Option.{option_map}
use Rattle.std.specs.Ordering.{is_lt}
use Rattle.std.proofs.lemmas.Bool.Decides.{nat_tests}
use Rattle.std.proofs.lemmas.List.{append-nil, append_assoc}
use Rattle.ss_program.specs.Program.{ProgramTable}
use Rattle.ss_events.specs.Rules.{Rule, rules_of}
use Rattle.ss_events.specs.Agenda.{Pending, Agenda, pending_at, by_time, least_of, first_notices, in_order}
use Rattle.ss_events.specs.declared.agenda.Slot.{Slot}
use Rattle.ss_events.specs.Slots.{slot_of}
use Rattle.ss_events.specs.State.{Each}
use Rattle.ss_events.specs.WellAgenda.{IsRising, IsWellAgenda}
use Rattle.ss_events.proofs.OrderLaws.{Each-without, Each-map}
use Rattle.ss_store.proofs.Core.{some_eq}
use Rattle.ss_state.specs.State.{State}
use Rattle.ss_state.specs.Run.{Input, run}
use Rattle.ss_debug.specs.Answer.{notice_line, notice_lines, pending_text, events_text}

-- ---- a property of each pending notice holds of each in order

each_chosen : (P : Pending → Type 0) (b : Bool) (m n : Pending) → P m → P n → P (cond b m n)
each_chosen P true m n h k = h
each_chosen P false m n h k = k

each_least : (P : Pending → Type 0) (rules : List Rule) (n : Pending) (ms : List Pending) → P n → Each P ms →
    P (least_of rules n ms)
each_least P rules n [] h hs = h
each_least P rules n (m ∷ ms) h hs =
    each_least P rules (cond (is_lt (by_time rules m n)) m n) ms
    (each_chosen P (is_lt (by_time rules m n)) m n hs.0 h) hs.1

each_first : (P : Pending → Type 0) (rules : List Rule) (j : ℕ) (ms : List Pending) → Each P ms →
    Each P (first_notices rules j ms)
each_first P rules zero ms h = tt
each_first P rules (suc j) [] h = tt
each_first P rules (suc j) (n ∷ ms) h =
    let l = least_of rules n ms in
    (each_least P rules n ms h.0 h.1, each_first P rules j _ (Each-without P l.notice (n ∷ ms) h))

each_at : (P : Pending → Type 0) (es : List Pending) (i : ℕ) (e : Pending) → Each P es → slice_get es i ≡ Some e → P e
each_at P [] i e h k = absurd (cc)
each_at P (f ∷ es) zero e h k = let same : f ≡ e = cc in subst P same h.0
each_at P (f ∷ es) (suc i) e h k = each_at P es i e h.1 k

-- ---- properties of a pending notice

above : (n : ℕ) (es : List Pending) → IsRising n es → Each (λ f. n < f.notice) es
above n [] h = tt
above n (e ∷ es) h = (
  h.0,
  Each-map (λ f. e.notice < f.notice) (λ f. n < f.notice) (λ f k. omega (arith, k, h.0)) es
      (above e.notice es h.1),
)

past_one : (e f : Pending) (es : List Pending) → e.notice < f.notice → pending_at es f.notice ≡ Some f →
    pending_at (e ∷ es) f.notice ≡ Some f
past_one e f es h k = let other : eqb e.notice f.notice ≡ false = grind (arith, nat_tests, h) in rw other k

found : (n : ℕ) (es : List Pending) → IsRising n es → Each (λ e. pending_at es e.notice ≡ Some e) es
found n [] h = tt
found n (e ∷ es) h =
    let same : eqb e.notice e.notice ≡ true = grind (arith, nat_tests) in
    (rw same refl, both es es (found e.notice es h.1) (above e.notice es h.1))
  where
    both : (fs gs : List Pending) → Each (λ f. pending_at gs f.notice ≡ Some f) fs →
        Each (λ f. e.notice < f.notice) fs →
        Each (λ f. pending_at (e ∷ gs) f.notice ≡ Some f) fs
    both [] gs a b = tt
    both (f ∷ fs) gs a b = (past_one e f gs b.0 a.0, both fs gs a.1 b.1)

-- a notice that a listing has listed
pub record IsListed (a : Agenda) (es : List Pending) (i k : ℕ) : Type 0 where
  pub entry : Pending
  pub at : slice_get es i ≡ Some entry
  pub notice : k ≡ entry.notice
  pub number : 0 < k
  pub pending : pending_at a.pending k ≡ Some entry

known_of : (rules : List Rule) (a : Agenda) (i notice : ℕ) (o : Option Pending) → IsWellAgenda rules a →
    slice_get (in_order rules a) i ≡ o → Some notice ≡ option_map (λ e. e.notice) o →
    IsListed a (in_order rules a) i notice
known_of rules a i notice None w k e = absurd (cc)
known_of rules a i notice (Some x) w k e =
    let same : notice ≡ x.notice = cc in
    let number =
    each_at (λ f. 0 < f.notice) _ i x
    (each_first _ rules (length a.pending) a.pending (above 0 a.pending w.references)) k
    in
    let here =
    each_at (λ f. pending_at a.pending f.notice ≡ Some f) _ i x
    (each_first _ rules (length a.pending) a.pending (found 0 a.pending w.references)) k in
    record {
      entry = x;
      at = k;
      notice = same;
      number = rw same number;
      pending = rw same here;
    }

-- properties of the notice that a listing lists
pub listed : (rules : List Rule) (a : Agenda) (i notice : ℕ) → IsWellAgenda rules a →
    Some notice ≡ option_map (λ e. e.notice) (slice_get (in_order rules a) i) →
    IsListed a (in_order rules a) i notice
listed rules a i notice w e = known_of rules a i notice _ w refl e

-- when it is due, and of which class it is
pub slot_is : (o : Option Slot) (q : Option Pending) (e : Pending) (slot : Slot) → o ≡ option_map slot_of q →
    q ≡ Some e → o ≡ Some slot → slot ≡ slot_of e
slot_is o q e slot a b d = sym (some_eq (ap (option_map slot_of) (sym b) ∙ sym a ∙ d))

-- ---- the lines

-- the notices from one on are that one and those after it
pub dropped : (es : List Pending) (i : ℕ) (e : Pending) → slice_get es i ≡ Some e → drop i es ≡ e ∷ drop (suc i) es
dropped [] i e h = absurd (cc)
dropped (f ∷ es) zero e h = let same : f ≡ e = cc in rw same refl
dropped (f ∷ es) (suc i) e h = dropped es i e h

-- one line more
pub line_more : (p : ProgramTable) (es : List Pending) (i j : ℕ) (e : Pending) (text new all : List ℕ) →
    slice_get es i ≡ Some e → j ≡ i + 1 →
    text ++ notice_lines p (drop i es) ≡ all → new ≡ text ++ notice_line p e.notice (slot_of e) →
    new ++ notice_lines p (drop j es) ≡ all
line_more p es i j e text new all h n k l =
    let next : j ≡ suc i = omega (arith, n) in
    rw (l, next)
    (append_assoc text _ _ ∙ ap (λ (l : List Pending). text ++ notice_lines p l) (sym (dropped es i e h)) ∙ k)

-- after the last there are none
pub dropped_none : (es : List Pending) (i : ℕ) → slice_get es i ≡ None → drop i es ≡ []
dropped_none [] zero h = refl
dropped_none [] (suc i) h = refl
dropped_none (f ∷ es) zero h = absurd (cc)
dropped_none (f ∷ es) (suc i) h = dropped_none es i h

-- no notice is that of no entry
pub none_of : (o : Option Pending) → None ≡ option_map (λ (e : Pending). e.notice) o → o ≡ None
none_of None h = refl
none_of (Some e) h = absurd (cc)

-- all lines, when the listing has ended
pub all_lines : (p : ProgramTable) (es : List Pending) (i : ℕ) (text all : List ℕ) →
    None ≡ option_map (λ (e : Pending). e.notice) (slice_get es i) →
    text ++ notice_lines p (drop i es) ≡ all → text ≡ all
all_lines p es i text all h k =
    sym (append-nil text) ∙ ap (λ (l : List Pending). text ++ notice_lines p l)
    (sym (dropped_none es i (none_of (slice_get es i) h))) ∙ k

-- and all are listed then
pub all_listed : (es : List Pending) (i : ℕ) → None ≡ option_map (λ (e : Pending). e.notice) (slice_get es i) →
    i ≤ length es → i ≡ length es
all_listed es i h k = ended es i (none_of (slice_get es i) h) k
  where
    ended : (es : List Pending) (i : ℕ) → slice_get es i ≡ None → i ≤ length es → i ≡ length es
    ended [] i h k = omega (arith, k)
    ended (f ∷ es) zero h k = absurd (cc)
    ended (f ∷ es) (suc i) h k = ap suc (ended es i h (omega (arith, k)))

-- the answer if none is pending
pub nothing_pending : (p : ProgramTable) (es : List Pending) → length es ≡ 0 → pending_text p es ≡ codes "NO EVENTS\n"
nothing_pending p [] h = refl
nothing_pending p (e ∷ es) h = absurd (omega (arith, h))

-- if some are, it is their lines
pub some_pending : (p : ProgramTable) (es : List Pending) → length es ≢ 0 → pending_text p es ≡ notice_lines p es
some_pending p [] h = absurd (h refl)
some_pending p (e ∷ es) h = refl

-- the answer, by the agenda of state p
pub events_are : (t : Input) (p : ℕ) (s : State) → s ≡ run t p →
    events_text t p ≡ pending_text t.program (in_order (rules_of t.program) s.agenda)
unfolding events_text
events_are t p s e = rw e refl
