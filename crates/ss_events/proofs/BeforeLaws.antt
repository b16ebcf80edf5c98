-- One notice comes before another: a strict order of the notices that have a key for each of their class's.
use Rattle.std.proofs.Common.{◌≡◌, ℕ, ℤ, neg_ℤ, true, false, cond, eqb, ltb, List, [], ◌∷◌, length, refl, sym, ap}
use Rattle.std.proofs.Common.{◌∙◌, arith}
use Rattle.std.proofs.lemmas.Bool.Decides.{nat_tests}
use Rattle.std.proofs.lemmas.Cmp.{nat_cmp_total, int_cmp_total, lists_total, on_total, then_total}
use Rattle.std.proofs.lemmas.Cmp.{ranked as numbers_ranked}
use Rattle.std.proofs.lemmas.Int.{ints}
use Rattle.std.specs.Prelude.{int_lt}
use Rattle.std.specs.Cmp.{IsTotalOrder}
use Rattle.std.specs.Cmp.Lexicographic.{slice_cmp}
use Rattle.std.specs.Ordering.{is_lt, on, then_cmp, ordering_then, ordering_reverse, nat_cmp, int_cmp}
use Rattle.std.specs.declared.cmp.Ordering.{Ordering}
use Rattle.std.specs.declared.cmp.Ordering.TheVariants.{Less, Equal, Greater}
use Rattle.ss_words.specs.declared.terms.Rank.{Rank}
use Rattle.ss_words.specs.declared.terms.Rank.TheVariants.{High, Low}
use Rattle.ss_program.specs.declared.keys.Key.{Key}
use Rattle.ss_program.specs.Keys.{order_by_rank, by_keys}
use Rattle.ss_events.specs.Rules.{Rule, rule_at, is_event_class}
use Rattle.ss_events.specs.State.{AreRanked}
use Rattle.ss_events.specs.Agenda.{Pending, by_time, is_before}
use Rattle.ss_events.proofs.EventLaws.{event-below}
use Rattle.ss_events.proofs.OrderLaws.{IsOrder}

-- two times decide if they are different
pub int-apart : (x y : ℤ) (o : Ordering) → (x ≡ y → ⊥) → int_lt x y ≡ is_lt (ordering_then (int_cmp x y) o)
int-apart x y o n = elim (int_lt x y)
    as (λ t. int_lt x y ≡ t → t ≡ is_lt (ordering_then (cond t Less (cond (int_lt y x) Greater Equal)) o)) [
      | true ↦ λ t. refl
      | false ↦ λ t. elim (int_lt y x)
          as (λ u. int_lt y x ≡ u → false ≡ is_lt (ordering_then (cond u Greater Equal) o)) [
            | true ↦ λ u. refl
            | false ↦ λ u. absurd (n (grind (arith, ints, t, u)))
          ] refl
    ] refl

-- a notice of an event class, with a key for each of the class's
abbrev pub IsKeyed : List Rule → Pending → Type 0
IsKeyed rules e = (is_event_class rules e.class ≡ true) × (length e.keys ≡ length (rule_at rules e.class).ties)

-- a key's value, that of HIGH with the other sign
abbrev weight : Rank → ℤ → ℤ
weight High x = neg_ℤ x
weight Low x = x

-- the values of keys, so that the less comes first of each
abbrev weights : List Key → List ℤ → List ℤ
weights [] _ = []
weights (_ ∷ _) [] = []
weights (k ∷ ks) (x ∷ xs) = weight k.rank x ∷ weights ks xs

-- an order of all notices, which is that of those with a key for each of their class's
abbrev by_weights : List Rule → Pending → Pending → Ordering
by_weights rules =
    then_cmp (on (λ e. e.time) int_cmp)
    (then_cmp (on (λ e. (rule_at rules e.class).priority) nat_cmp)
    (then_cmp (on (λ e. weights (rule_at rules e.class).ties e.keys) (slice_cmp int_cmp)) (on (λ e. e.filing) nat_cmp)))

IsTotalOrder-by_weights : (rules : List Rule) → IsTotalOrder (by_weights rules)
IsTotalOrder-by_weights rules =
    then_total (on_total (λ e. e.time) int_cmp_total)
    (then_total (on_total (λ e. (rule_at rules e.class).priority) nat_cmp_total)
    (then_total (on_total (λ e. weights (rule_at rules e.class).ties e.keys) (lists_total int_cmp_total))
    (on_total (λ e. e.filing) nat_cmp_total)))

ranked-weight : (r : Rank) (x y : ℤ) → order_by_rank r x y ≡ int_cmp (weight r x) (weight r y)
ranked-weight High x y = grind (arith, ints)
ranked-weight Low x y = refl

by_keys-weights : (ks : List Key) (xs ys : List ℤ) → length xs ≡ length ks → length ys ≡ length ks →
    by_keys ks xs ys ≡ slice_cmp int_cmp (weights ks xs) (weights ks ys)
by_keys-weights [] xs ys h l = refl
by_keys-weights (k ∷ ks) [] ys h l = absurd (omega arith)
by_keys-weights (k ∷ ks) (x ∷ xs) [] h l = absurd (omega arith)
by_keys-weights (k ∷ ks) (x ∷ xs) (y ∷ ys) h l =
    rw (ranked-weight k.rank x y, by_keys-weights ks xs ys (omega arith) (omega arith)) refl

-- the order after two numbers matters if these are the same
then-same : (p q : ℕ) (a b : Ordering) → (p ≡ q → a ≡ b) → ordering_then (nat_cmp p q) a ≡ ordering_then (nat_cmp p q) b
then-same p q a b h = elim (ltb p q)
    as (λ t. ordering_then (cond t Less (cond (eqb p q) Equal Greater)) a ≡ ordering_then (cond t Less (cond (eqb p q)
    Equal Greater)) b) [
      | true ↦ refl
      | false ↦ elim (eqb p q)
          as (λ t. eqb p q ≡ t → ordering_then (cond t Equal Greater) a ≡ ordering_then (cond t Equal Greater) b) [
            | true ↦ λ t. h (grind (arith, nat_tests, t))
            | false ↦ λ t. refl
          ] refl
    ]

by_time-weights : (rules : List Rule) → AreRanked rules → (e f : Pending) → IsKeyed rules e → IsKeyed rules f →
    by_time rules e f ≡ by_weights rules e f
by_time-weights rules r e f h k =
    let own = (rule_at rules e.class).ties in
    let other = (rule_at rules f.class).ties in
    let last = nat_cmp e.filing f.filing in
    ap (ordering_then (int_cmp e.time f.time)) (then-same (rule_at rules e.class).priority (rule_at rules
    f.class).priority (ordering_then (by_keys own e.keys f.keys) last) (ordering_then (slice_cmp int_cmp (weights own
    e.keys) (weights other f.keys)) last) (λ p.
    let class = r e.class f.class (event-below rules e.class h.0) (event-below rules f.class k.0) p in
    let ties : other ≡ own = ap (λ c. (rule_at rules c).ties) (sym class) in
    let long : length f.keys ≡ length own = k.1 ∙ ap length ties in
    ap (λ o. ordering_then o last) (by_keys-weights own e.keys f.keys h.1 long
    ∙ ap (λ (ks : List Key). slice_cmp int_cmp (weights own e.keys) (weights ks f.keys)) (sym ties))))

less-is : (o : Ordering) → is_lt o ≡ true → o ≡ Less
less-is Less h = refl
less-is Equal h = absurd (cc)
less-is Greater h = absurd (cc)

less-back : (o : Ordering) → is_lt o ≡ true → is_lt (ordering_reverse o) ≡ false
less-back Less h = refl
less-back Equal h = absurd (cc)
less-back Greater h = absurd (cc)

not-less-back : (o : Ordering) → (o ≡ Equal → ⊥) → is_lt o ≡ false → is_lt (ordering_reverse o) ≡ true
not-less-back Less n h = absurd (cc)
not-less-back Equal n h = absurd (n refl)
not-less-back Greater n h = refl

then-equal : (a b : Ordering) → ordering_then a b ≡ Equal → b ≡ Equal
then-equal Less b h = absurd (cc)
then-equal Equal b h = h
then-equal Greater b h = absurd (cc)

same-filing : (rules : List Rule) (e f : Pending) → by_weights rules e f ≡ Equal → e.filing ≡ f.filing
same-filing rules e f h =
    let keys = slice_cmp int_cmp (weights (rule_at rules e.class).ties e.keys) (weights (rule_at rules f.class).ties
    f.keys) in
    let last = nat_cmp e.filing f.filing in
    let behind_time = then-equal (int_cmp e.time f.time) (ordering_then (nat_cmp (rule_at rules e.class).priority
    (rule_at rules f.class).priority) (ordering_then keys last)) h in
    let behind_class = then-equal (nat_cmp (rule_at rules e.class).priority (rule_at rules f.class).priority)
    (ordering_then keys last) behind_time in
    numbers_ranked e.filing f.filing Equal (sym (then-equal keys last behind_class))

pub IsOrder-is_before : (rules : List Rule) → AreRanked rules → IsOrder (IsKeyed rules) (is_before rules)
IsOrder-is_before rules r = record {
  asymmetric = λ e f p q h. let a = less-back (by_weights rules e f) (sym (agree e f p q) ∙ h) in
      agree f e q p ∙ (ap is_lt (o.antisymm f e) ∙ a);
  transitive = λ e f g p q s h k. agree e g p s ∙ ap is_lt (o.trans e f g
      (less-is (by_weights rules e f) (sym (agree e f p q) ∙ h))
      (less-is (by_weights rules f g) (sym (agree f g q s) ∙ k)));
  total = λ e f p q n h.
      let apart : by_weights rules e f ≡ Equal → ⊥ = λ i. let same = same-filing rules e f i in
      absurd (grind (arith, nat_tests, same, n)) in
      agree f e q p ∙ (ap is_lt (o.antisymm f e)
      ∙ not-less-back (by_weights rules e f) apart (sym (agree e f p q) ∙ h));
}
  where
    o : IsTotalOrder (by_weights rules)
    o = IsTotalOrder-by_weights rules

    agree : (e f : Pending) → IsKeyed rules e → IsKeyed rules f → is_before rules e f ≡ is_lt (by_weights rules e f)
    agree e f p q = ap is_lt (by_time-weights rules r e f p q)
