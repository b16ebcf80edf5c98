-- Laws of the pending notices that are read off rows.
use Rattle.std.proofs.Common.{◌≡◌, ℕ, ◌+◌, ◌-◌, ◌≤◌, ◌<◌, true, false, cond, eqb, ltb, List, [], ◌∷◌, length}
use Rattle.std.proofs.Common.{Option, Some, None, refl, sym, ap, ◌∙◌, arith, suc, zero}
use Rattle.std.proofs.Math.ListN.{set}
use Rattle.std.proofs.lemmas.Bool.Decides.{nat_tests}
use Rattle.std.specs.Option.{option_map, IsSome}
use Rattle.ss_events.specs.declared.pending_notice.PendingNotice.{PendingNotice}
use Rattle.ss_events.specs.declared.pending_notice.Row.{Row}
use Rattle.ss_events.specs.Agenda.{Pending, without_notice}
use Rattle.ss_events.specs.Agenda.{pending_at, with_notice}
use Rattle.ss_events.specs.State.{Each, NoneNoted}
use Rattle.ss_events.specs.Views.{notice_of}
use Rattle.ss_events.specs.Rows.{and_others, notices_from, row_at}
use Rattle.ss_events.proofs.OrderLaws.{AreNoted, Each-map, without-absent}

-- numbers go up
abbrev pub Ascend : List Pending → Type 0
Ascend [] = Unit {0}
Ascend (e ∷ es) = Each (λ f. e.notice < f.notice) es × Ascend es

from-above : (n : ℕ) (rs : List Row) → Each (λ e. n ≤ e.notice) (notices_from n rs)
from-above n [] = tt
from-above n (r ∷ rs) =
    let rest = Each-map (λ e. n + 1 ≤ e.notice) (λ e. n ≤ e.notice) (λ e h. omega arith) (notices_from (n + 1) rs)
    (from-above (n + 1) rs) in
    elim (r.pending) as (λ o. Each (λ e. n ≤ e.notice) (and_others n o (notices_from (n + 1) rs))) [
      | None ↦ rest
      | Some x ↦ (omega arith, rest)
    ]

pub Ascend-from : (n : ℕ) (rs : List Row) → Ascend (notices_from n rs)
Ascend-from n [] = tt
Ascend-from n (r ∷ rs) =
    let rest = Ascend-from (n + 1) rs in
    let above = Each-map (λ e. n + 1 ≤ e.notice) (λ e. n < e.notice) (λ e h. omega arith) (notices_from (n + 1) rs)
    (from-above (n + 1) rs) in
    elim (r.pending) as (λ o. Ascend (and_others n o (notices_from (n + 1) rs))) [
      | None ↦ rest
      | Some x ↦ (above, rest)
    ]

pub AreNoted-ascend : (es : List Pending) → Ascend es → AreNoted es
AreNoted-ascend [] h = tt
AreNoted-ascend (e ∷ es) h = (
  Each-map (λ f. e.notice < f.notice) (λ f. eqb f.notice e.notice ≡ false) (λ f k. grind
      (arith, nat_tests, k)) es h.0,
  AreNoted-ascend es h.1,
)

pub AreNoted-from : (n : ℕ) (rs : List Row) → AreNoted (notices_from n rs)
AreNoted-from n rs = AreNoted-ascend (notices_from n rs) (Ascend-from n rs)

-- a number that no notice has
pub pending_at-none : (n : ℕ) (es : List Pending) → NoneNoted n es → pending_at es n ≡ None
pending_at-none n [] h = refl
pending_at-none n (e ∷ es) h = rw h.0 (pending_at-none n es h.1)

-- a property of each notice is a property of the notice with a number
pub pending_at-each : (P : Pending → Type 0) (es : List Pending) (n : ℕ) (e : Pending) → Each P es →
    pending_at es n ≡ Some e → P e × (e.notice ≡ n)
pending_at-each P [] n e h k = absurd (cc)
pending_at-each P (f ∷ fs) n e h k = elim (eqb f.notice n)
    as (λ t. eqb f.notice n ≡ t → cond t (Some f) (pending_at fs n) ≡ Some e → P e × (e.notice ≡ n)) [
      | true ↦ λ t a. let same : f ≡ e = cc in rw (← same) (h.0, grind (arith, nat_tests, t))
      | false ↦ λ t a. pending_at-each P fs n e h.1 a
    ] refl k

-- the notice with a row's number
pub pending_at-from : (b : ℕ) (rs : List Row) (i : ℕ) →
    pending_at (notices_from b rs) (b + i) ≡ option_map (notice_of (b + i)) (row_at rs i).pending
pending_at-from b [] i = refl
pending_at-from b (r ∷ rs) zero =
    let rest = pending_at-none b (notices_from (b + 1) rs) (Each-map (λ e. b + 1 ≤ e.notice) (λ f. eqb f.notice b ≡
    false) (λ f k. grind (arith, nat_tests, k)) (notices_from (b + 1) rs) (from-above (b + 1) rs)) in
    let here : b + 0 ≡ b = omega arith in
    let same : eqb b b ≡ true = grind (arith, nat_tests) in
    rw here (elim (r.pending)
    as (λ o. pending_at (and_others b o (notices_from (b + 1) rs)) b ≡ option_map (notice_of b) o) [
      | None ↦ rest
      | Some x ↦ rw same refl
    ])
pending_at-from b (r ∷ rs) (suc i) =
    let more : b + suc i ≡ b + 1 + i = omega arith in
    let rest = pending_at-from (b + 1) rs i in
    let other : eqb b (b + 1 + i) ≡ false = grind (arith, nat_tests) in
    rw more (elim (r.pending)
    as (λ o. pending_at (and_others b o (notices_from (b + 1) rs)) (b + 1 + i) ≡ option_map (notice_of (b + 1 +
    i)) (row_at rs i).pending) [
      | None ↦ rest
      | Some x ↦ rw other rest
    ])

-- a notice before all others is put in first
pub with-first : (e : Pending) (es : List Pending) → Each (λ f. e.notice < f.notice) es → e ∷ es ≡ with_notice e es
with-first e [] n = refl
with-first e (f ∷ fs) n = let first : ltb e.notice f.notice ≡ true = grind (arith, nat_tests, n.0) in rw first refl

-- a row's entry is put in
pub from-with : (b : ℕ) (rs : List Row) (i : ℕ) (r : Row) (x : PendingNotice) → i < length rs → (row_at rs i).pending
    ≡ None →
    r.pending ≡ Some x → notices_from b (set rs i r) ≡ with_notice (notice_of (b + i) x) (notices_from b rs)
from-with b [] i r x l h k = absurd (omega arith)
from-with b (q ∷ qs) zero r x l h k =
    let here : b + 0 ≡ b = omega arith in
    rw (here, h, k) (with-first (notice_of b x) (notices_from (b + 1) qs) (Each-map (λ e. b + 1 ≤ e.notice) (λ e. b <
    e.notice) (λ e n. omega arith) (notices_from (b + 1) qs) (from-above (b + 1) qs)))
from-with b (q ∷ qs) (suc i) r x l h k =
    let more : b + suc i ≡ b + 1 + i = omega arith in
    let rest = from-with (b + 1) qs i r x (omega arith) h k in
    let after : ltb (b + 1 + i) b ≡ false = grind (arith, nat_tests) in
    rw more (elim (q.pending)
    as (λ o. and_others b o (notices_from (b + 1) (set qs i r)) ≡ with_notice (notice_of (b + 1 + i) x)
    (and_others b o (notices_from (b + 1) qs))) [
      | None ↦ rest
      | Some y ↦ rw after (ap (λ (l : List Pending). notice_of b y ∷ l) rest)
    ])

-- a row's entry is taken out
pub from-without : (b : ℕ) (rs : List Row) (i : ℕ) (r : Row) → i < length rs → r.pending ≡ None →
    notices_from b (set rs i r) ≡ without_notice (b + i) (notices_from b rs)
from-without b [] i r l h = absurd (omega arith)
from-without b (q ∷ qs) zero r l h =
    let here : b + 0 ≡ b = omega arith in
    let same : eqb b b ≡ true = grind (arith, nat_tests) in
    let none : NoneNoted b (notices_from (b + 1) qs) = Each-map (λ e. b + 1 ≤ e.notice) (λ f. eqb f.notice b ≡ false)
    (λ f k. grind (arith, nat_tests, k)) (notices_from (b + 1) qs) (from-above (b + 1) qs) in
    let rest = without-absent b (notices_from (b + 1) qs) none in
    rw (here, h) (elim (q.pending)
    as (λ o. notices_from (b + 1) qs ≡ without_notice b (and_others b o (notices_from (b + 1) qs))) [
      | None ↦ sym rest
      | Some y ↦ rw same (sym rest)
    ])
from-without b (q ∷ qs) (suc i) r l h =
    let more : b + suc i ≡ b + 1 + i = omega arith in
    let rest = from-without (b + 1) qs i r (omega arith) h in
    let other : eqb b (b + 1 + i) ≡ false = grind (arith, nat_tests) in
    rw more (elim (q.pending)
    as (λ o. and_others b o (notices_from (b + 1) (set qs i r)) ≡ without_notice (b + 1 + i) (and_others b o
    (notices_from (b + 1) qs))) [
      | None ↦ rest
      | Some y ↦ rw other (ap (λ (l : List Pending). notice_of b y ∷ l) rest)
    ])

-- a row whose entry stays
pub from-same : (b : ℕ) (rs : List Row) (i : ℕ) (r : Row) → r.pending ≡ (row_at rs i).pending →
    notices_from b (set rs i r) ≡ notices_from b rs
from-same b [] i r h = refl
from-same b (q ∷ qs) zero r h = rw h refl
from-same b (q ∷ qs) (suc i) r h = ap (and_others b q.pending) (from-same (b + 1) qs i r h)

-- a notice taken out and put in again, or put in and taken out
pub with-without : (es : List Pending) (n : ℕ) (e : Pending) → Ascend es → pending_at es n ≡ Some e →
    with_notice e (without_notice n es) ≡ es
with-without [] n e a h = absurd (cc)
with-without (f ∷ fs) n e a h =
    let here : Some f ≡ Some e → eqb f.notice n ≡ true →
    with_notice e (without_notice n fs) ≡ f ∷ fs = λ k t. let same : f ≡ e = cc in
    let none : NoneNoted n fs = Each-map (λ g. f.notice < g.notice) (λ g. eqb g.notice n ≡ false) (λ g m. grind
    (arith, nat_tests, m, t)) fs a.0 in rw (without-absent n fs none, ← same) (sym (with-first f fs a.0)) in
    let there : pending_at fs n ≡ Some e → eqb f.notice n ≡ false →
    with_notice e (f ∷ without_notice n fs) ≡ f ∷ fs = λ k t. let above = pending_at-each (λ g. f.notice <
    g.notice) fs n e a.0 k in let after : ltb e.notice f.notice ≡ false = grind (arith, nat_tests, above.0) in
    rw after (ap (λ (l : List Pending). f ∷ l) (with-without fs n e a.1 k)) in
    elim (eqb f.notice n)
    as (λ t. eqb f.notice n ≡ t → cond t (Some f) (pending_at fs n) ≡ Some e →
    with_notice e (cond t (without_notice n fs) (f ∷ without_notice n fs)) ≡ f ∷ fs) [
      | true ↦ λ t k. here k t
      | false ↦ λ t k. there k t
    ] refl h

pub without-with : (n : ℕ) (e : Pending) (es : List Pending) → NoneNoted n es → eqb e.notice n ≡ true →
    without_notice n (with_notice e es) ≡ es
without-with n e [] h k = rw k refl
without-with n e (f ∷ fs) h k =
    let rest = without-absent n fs h.1 in
    elim (ltb e.notice f.notice) as (λ t. without_notice n (cond t (e ∷ f ∷ fs) (f ∷ with_notice e fs)) ≡ f ∷ fs) [
      | true ↦ rw (k, h.0, rest) refl
      | false ↦ rw h.0 (ap (λ (l : List Pending). f ∷ l) (without-with n e fs h.1 k))
    ]

-- the notice with a number, read off its row
pub pending_row : (rs : List Row) (n : ℕ) → 0 < n →
    pending_at (notices_from 1 rs) n ≡ option_map (notice_of n) (row_at rs (n - 1)).pending
pending_row rs n h = let same : 1 + (n - 1) ≡ n = omega arith in rw same at (pending_at-from 1 rs (n - 1))

pub pending_of_row : (rs qs : List Row) (n : ℕ) (o : Option PendingNotice) (es : List Pending) → 0 < n →
    notices_from 1 rs ≡ es → qs ≡ rs → o ≡ (row_at qs (n - 1)).pending → pending_at es n ≡ option_map (notice_of n) o
pending_of_row rs qs n o es h e f g = let row = pending_row rs n h in rw (← e, g, f) row

-- the entry of a pending notice, as its row has it
pub entry-some : (rs : List Row) (n : ℕ) (o : Option PendingNotice) (f : Pending) → 0 < n →
    pending_at (notices_from 1 rs) n ≡ Some f → o ≡ (row_at rs (n - 1)).pending → IsSome o
entry-some rs n o f h e g = go o (sym (pending_row rs n h ∙ ap (option_map (notice_of n)) (sym g)) ∙ e)
  where
    go : (o : Option PendingNotice) → option_map (notice_of n) o ≡ Some f → IsSome o
    go None e = absurd (cc)
    go (Some y) e = refl

pub entry-is : (rs : List Row) (n : ℕ) (y : PendingNotice) (f : Pending) → 0 < n →
    pending_at (notices_from 1 rs) n ≡ Some f → Some y ≡ (row_at rs (n - 1)).pending → f ≡ notice_of n y
entry-is rs n y f h e g =
    let same : Some f ≡ Some (notice_of n y) = sym e ∙ (pending_row rs n h ∙ ap (option_map (notice_of n)) (sym g)) in cc
