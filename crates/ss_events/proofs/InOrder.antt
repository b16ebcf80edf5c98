-- The notices in order are the notices put at their places in the order.
use Rattle.std.proofs.Common.{◌≡◌, ℕ, Bool, true, false, cond, eqb, List, [], ◌∷◌, length}
use Rattle.std.proofs.Common.{Option, Some, None, refl, ap, ◌∙◌, arith, suc, zero}
use Rattle.std.proofs.lemmas.Bool.Decides.{nat_tests}
use Rattle.ss_events.specs.Rules.{Rule}
use Rattle.ss_events.specs.State.{Each, AreFiled, AreRanked}
use Rattle.ss_events.specs.Agenda.{Pending, Agenda, is_before, least_of, least, without_notice, first_notices, in_order}
use Rattle.ss_events.proofs.OrderLaws.{IsOrder, AreNoted, sorted, first_of_two, least_by, taken_in_turn}
use Rattle.ss_events.proofs.OrderLaws.{in_turn-sorted, Each-least, Each-without, AreFiled-without}
use Rattle.ss_events.proofs.BeforeLaws.{IsKeyed, IsOrder-is_before}

-- of three notices the first is found two by two
first-left : (P : Pending → Type 0) (lt : Pending → Pending → Bool) → IsOrder P lt →
    (n m : Pending) (o : Option Pending) → P n → P m → ((h : Pending) → o ≡ Some h → P h) → lt m n ≡ true →
    ((h : Pending) → o ≡ Some h → eqb h.filing m.filing ≡ false) →
    first_of_two lt m o ≡ first_of_two lt n (Some (first_of_two lt m o))
first-left P lt r n m None p q s h k = rw (r.asymmetric m n q p h) refl
first-left P lt r n m (Some g) p q s h k =
    let own : P g = s g refl in
    let apart : eqb m.filing g.filing ≡ false = grind (arith, nat_tests, k g refl) in
    elim (lt m g) as (λ t. lt m g ≡ t → cond t m g ≡ cond (lt n (cond t m g)) n (cond t m g)) [
      | true ↦ λ t. rw (r.asymmetric m n q p h) refl
      | false ↦ λ t.
          let less = r.transitive g m n own q p (r.total m g q own apart t) h in
          rw (r.asymmetric g n own p less) refl
    ] refl

first-right : (P : Pending → Type 0) (lt : Pending → Pending → Bool) → IsOrder P lt →
    (n m : Pending) (o : Option Pending) → P n → P m → ((h : Pending) → o ≡ Some h → P h) → lt n m ≡ true →
    first_of_two lt n o ≡ first_of_two lt n (Some (first_of_two lt m o))
first-right P lt r n m None p q s h = rw h refl
first-right P lt r n m (Some g) p q s h = elim (lt m g)
    as (λ t. lt m g ≡ t → cond (lt n g) n g ≡ cond (lt n (cond t m g)) n (cond t m g)) [
      | true ↦ λ t. rw (h, r.transitive n m g p q (s g refl) h t) refl
      | false ↦ λ t. refl
    ] refl

-- the least of a notice and others
pub least_of-first : (rules : List Rule) (n : Pending) (ms : List Pending) → AreRanked rules →
    Each (IsKeyed rules) (n ∷ ms) → AreFiled (n ∷ ms) →
    least_of rules n ms ≡ first_of_two (is_before rules) n (least_by (is_before rules) ms)
least_of-first rules n [] r k f = refl
least_of-first rules n (m ∷ ms) r k f =
    let lt = is_before rules in
    let P = IsKeyed rules in
    let o = IsOrder-is_before rules r in
    let apart : eqb m.filing n.filing ≡ false = f.0.0 in
    let each : (h : Pending) → least_by lt ms ≡ Some h → P h = λ h e. Each-least P lt ms h k.1.1 e in
    elim (is_before rules m n)
    as (λ t. is_before rules m n ≡ t → least_of rules (cond t m n) ms ≡ first_of_two lt n (Some (first_of_two lt m
    (least_by lt ms)))) [
      | true ↦ λ t. least_of-first rules m ms r k.1 f.1 ∙
          first-left P lt o n m (least_by lt ms) k.0 k.1.0 each t (λ h e. Each-least (λ g. eqb g.filing m.filing ≡
          false) lt ms h f.1.0 e)
      | false ↦ λ t. least_of-first rules n ms r (k.0, k.1.1) (f.0.1, f.1.1) ∙
          first-right P lt o n m (least_by lt ms) k.0 k.1.0 each (o.total m n k.1.0 k.0 apart t)
    ] refl

pub least-first : (rules : List Rule) (es : List Pending) → AreRanked rules → Each (IsKeyed rules) es →
    AreFiled es → least rules es ≡ least_by (is_before rules) es
least-first rules [] r k f = refl
least-first rules (n ∷ ms) r k f = ap (λ (e : Pending). Some e) (least_of-first rules n ms r k f)

first_notices-taken : (rules : List Rule) (j : ℕ) (es : List Pending) → AreRanked rules → Each (IsKeyed rules) es →
    AreFiled es → first_notices rules j es ≡ taken_in_turn (is_before rules) j es
first_notices-taken rules zero es r k f = refl
first_notices-taken rules (suc j) [] r k f = refl
first_notices-taken rules (suc j) (n ∷ ms) r k f =
    let first = least_of-first rules n ms r k f in
    let g = first_of_two (is_before rules) n (least_by (is_before rules) ms) in
    ap (λ (h : Pending). h ∷ first_notices rules j (without_notice h.notice (n ∷ ms))) first ∙
    ap (λ (l : List Pending). g ∷ l) (first_notices-taken rules j (without_notice g.notice (n ∷ ms)) r
    (Each-without (IsKeyed rules) g.notice (n ∷ ms) k) (AreFiled-without g.notice (n ∷ ms) f))

-- the notices in order are the notices put at their places in the order
pub in_order-sorted : (rules : List Rule) (a : Agenda) → AreRanked rules → Each (IsKeyed rules) a.pending →
    AreFiled a.pending → AreNoted a.pending → in_order rules a ≡ sorted (is_before rules) a.pending
in_order-sorted rules a r k f n = first_notices-taken rules (length a.pending) a.pending r k f ∙
    in_turn-sorted (is_before rules) a.pending n
