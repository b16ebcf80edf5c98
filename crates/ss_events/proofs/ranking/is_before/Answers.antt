use Rattle.std.proofs.Common.{◌≡◌, ℕ, ◌<◌, ℤ, Bool, true, false, cond, eqb, ltb, List, length, map, get_or}
use Rattle.std.proofs.Common.{Option, unwrap_or, w64, SFits, to_z, of_z, refl, sym, ap, ◌∙◌, arith, rules}
use Rattle.std.specs.Prelude.{int_lt}
use Rattle.std.specs.Ordering.{is_lt, ordering_then, nat_cmp, int_cmp}
use Rattle.std.specs.declared.cmp.Ordering.{Ordering}
use Rattle.std.specs.declared.cmp.Ordering.TheVariants.{Less, Equal, Greater}
use Rattle.std.proofs.lemmas.Bool.Decides.{nat_tests}
use Rattle.std.proofs.lemmas.Cmp.{tied_itself, nat_cmp_total, int_cmp_total}
use Rattle.std.proofs.lemmas.Int.{to_z-of_z}
use Rattle.std.proofs.lemmas.List.{length-map, get_or-map}
use Rattle.ss_program.specs.declared.keys.Key.{Key}
use Rattle.ss_program.specs.Keys.{by_keys}
use Rattle.ss_events.specs.declared.rule.ClassRule.{ClassRule}
use Rattle.ss_events.specs.declared.pending_notice.PendingNotice.{PendingNotice}
use Rattle.ss_events.specs.Agenda.{is_before}
use Rattle.ss_events.specs.Rules.{Rule, rule_at}
use Rattle.ss_events.specs.Views.{rule_of, notice_of}
use Rattle.ss_events.specs.Rows.{IsEntry}
use Rattle.ss_events.specs.State.{AreRanked}
use Rattle.ss_events.proofs.BeforeLaws.{int-apart}
use Rattle.ss_events.proofs.EventLaws.{event-below}
use Rattle.ss_events.proofs.ranking.is_before.Goals as goal

-- two numbers decide if they are different; the order after them decides if they are the same
nat-apart : (p q : ℕ) (o : Ordering) → (p ≡ q → ⊥) → ltb p q ≡ is_lt (ordering_then (nat_cmp p q) o)
nat-apart p q o n = elim (ltb p q)
    as (λ t. t ≡ is_lt (ordering_then (cond t Less (cond (eqb p q) Equal Greater)) o)) [
      | true ↦ refl
      | false ↦ elim (eqb p q)
          as (λ u. eqb p q ≡ u → false ≡ is_lt (ordering_then (cond u Equal Greater) o)) [
            | true ↦ λ u. absurd (n (grind (arith, nat_tests, u)))
            | false ↦ λ u. refl
          ] refl
    ]

nat-last : (p q : ℕ) → ltb p q ≡ is_lt (nat_cmp p q)
nat-last p q = elim (ltb p q) as (λ t. t ≡ is_lt (cond t Less (cond (eqb p q) Equal Greater))) [
  | true ↦ refl
  | false ↦ elim (eqb p q) as (λ u. false ≡ is_lt (cond u Equal Greater)) [
    | true ↦ refl
    | false ↦ refl
  ]
]

int-same : (x y : ℤ) (o : Ordering) → x ≡ y → is_lt o ≡ is_lt (ordering_then (int_cmp x y) o)
int-same x y o e = ap (λ r. is_lt (ordering_then r o)) (sym (ap (λ z. int_cmp z y) e ∙ tied_itself int_cmp_total y))

nat-same : (p q : ℕ) (o : Ordering) → p ≡ q → is_lt o ≡ is_lt (ordering_then (nat_cmp p q) o)
nat-same p q o e = ap (λ r. is_lt (ordering_then r o)) (sym (ap (λ z. nat_cmp z q) e ∙ tied_itself nat_cmp_total q))

class-below : (rules : List ClassRule) (x : PendingNotice) → IsEntry (map rule_of rules) x → x.class < length rules
class-below rules x h = omega (arith, event-below (map rule_of rules) x.class h.0, length-map rules rule_of)

rule-at : (rules : List ClassRule) (p : ClassRule) (x : PendingNotice) → IsEntry (map rule_of rules) x →
    rule_of (get_or rules x.class p) ≡ rule_at (map rule_of rules) x.class
rule-at rules p x h = sym (get_or-map rule_of rules x.class p _ (class-below rules x h))

-- the orders that decide after the times, and after the classes
abbrev by_keys_then : List Rule → PendingNotice → PendingNotice → Ordering
by_keys_then rules a b =
    ordering_then (by_keys (rule_at rules a.class).ties a.keys.items b.keys.items) (nat_cmp a.filing b.filing)

abbrev by_class_then : List Rule → PendingNotice → PendingNotice → Ordering
by_class_then rules a b =
    ordering_then (nat_cmp (rule_at rules a.class).priority (rule_at rules b.class).priority) (by_keys_then rules a b)

by-class : (rules : List ClassRule) (a b : PendingNotice) (p q : ClassRule) → IsEntry (map rule_of rules) a →
    IsEntry (map rule_of rules) b → AreRanked (map rule_of rules) → a.time ≡ b.time → (a.class ≡ b.class → ⊥) →
    ltb (get_or rules a.class p).priority (get_or rules b.class q).priority
    ≡ is_before (map rule_of rules) (notice_of 0 a) (notice_of 0 b)
by-class rules a b p q h k ranked same apart =
    let rs = map rule_of rules in
    let m : ℕ = (rule_at rs a.class).priority in
    let n : ℕ = (rule_at rs b.class).priority in
    let e : (get_or rules a.class p).priority ≡ m = ap (λ (r : Rule). r.priority) (rule-at rules p a h) in
    let f : (get_or rules b.class q).priority ≡ n = ap (λ (r : Rule). r.priority) (rule-at rules q b k) in
    let different : m ≡ n → ⊥ = λ i.
    apart (ranked a.class b.class (event-below rs a.class h.0) (event-below rs b.class k.0) i) in
    ap (λ (i : ℕ). ltb i (get_or rules b.class q).priority) e
    ∙ (ap (λ (i : ℕ). ltb m i) f
    ∙ (nat-apart m n (by_keys_then rs a b) different ∙ int-same a.time b.time (by_class_then rs a b) same))

by-keys : (rules : List ClassRule) (a b : PendingNotice) (p : ClassRule) (ties : List Key) (x y : List ℤ)
    (r : Option Bool) →
    IsEntry (map rule_of rules) a → a.time ≡ b.time → a.class ≡ b.class → ties ≡ (get_or rules a.class p).ties.items →
    x ≡ a.keys.items → y ≡ b.keys.items →
    ((o : Ordering) → is_lt (ordering_then (by_keys ties x y) o) ≡ unwrap_or r (is_lt o)) →
    unwrap_or r (ltb a.filing b.filing) ≡ is_before (map rule_of rules) (notice_of 0 a) (notice_of 0 b)
by-keys rules a b p ties x y r h same class t k l decided =
    let rs = map rule_of rules in
    let own : ties ≡ (rule_at rs a.class).ties = t ∙ ap (λ (q : Rule). q.ties) (rule-at rules p a h) in
    let even : (rule_at rs a.class).priority ≡ (rule_at rs b.class).priority = ap (λ (c : ℕ). (rule_at rs c).priority)
    class in
    let last : Ordering = nat_cmp a.filing b.filing in
    let keys : by_keys ties x y ≡ by_keys (rule_at rs a.class).ties a.keys.items b.keys.items = rw (own, k, l) refl in
    ap (λ (z : Bool). unwrap_or r z) (nat-last a.filing b.filing)
    ∙ (sym (decided last)
    ∙ (ap (λ (o : Ordering). is_lt (ordering_then o last)) keys
    ∙ (nat-same (rule_at rs a.class).priority (rule_at rs b.class).priority (by_keys_then rs a b) even
    ∙ int-same a.time b.time (by_class_then rs a b) same)))

same-time : (x y : ℤ) → SFits w64 x → SFits w64 y → of_z w64 x ≡ of_z w64 y → x ≡ y
same-time x y f g e = sym (to_z-of_z w64 x f) ∙ (ap (to_z w64) e ∙ to_z-of_z w64 y g)

pub returns-then-a-b : goal.returns-then-a-b
returns-then-a-b c =
    let a : SFits w64 c.args.a.now.time = search rules in
    let b : SFits w64 c.args.b.now.time = search rules in
    let x : to_z w64 (of_z w64 c.args.a.now.time) ≡ c.args.a.now.time = to_z-of_z w64 _ a in
    let y : to_z w64 (of_z w64 c.args.b.now.time) ≡ c.args.b.now.time = to_z-of_z w64 _ b in
    ap (λ (z : ℤ). int_lt z (to_z w64 (of_z w64 c.args.b.now.time))) x
    ∙ (ap (λ (z : ℤ). int_lt c.args.a.now.time z) y
    ∙ int-apart c.args.a.now.time c.args.b.now.time (by_class_then (map rule_of c.args.rules.now) c.args.a.now
    c.args.b.now) (λ e. c.if-a-b.true (ap (of_z w64) e)))

pub bounds-rules-a : goal.bounds-rules-a
bounds-rules-a c = class-below c.args.rules.now c.args.a.now c.requires.a

pub bounds-rules-a-then-a-b-2 : goal.bounds-rules-a-then-a-b-2
bounds-rules-a-then-a-b-2 c = class-below c.args.rules.now c.args.a.now c.requires.a

pub bounds-rules-b : goal.bounds-rules-b
bounds-rules-b c = class-below c.args.rules.now c.args.b.now c.requires.b

pub bounds-rules-b-then-a-b-2 : goal.bounds-rules-b-then-a-b-2
bounds-rules-b-then-a-b-2 c = class-below c.args.rules.now c.args.b.now c.requires.b

pub returns-then-a-b-2 : goal.returns-then-a-b-2
returns-then-a-b-2 c =
    let a : SFits w64 c.args.a.now.time = search rules in
    let b : SFits w64 c.args.b.now.time = search rules in
    by-class c.args.rules.now c.args.a.now c.args.b.now c.index-rules-a.result c.index-rules-b.result c.requires.a
    c.requires.b c.requires.ranked (same-time _ _ a b c.if-a-b.false) c.if-a-b-2.true

pub bounds-rules-a-2 : goal.bounds-rules-a-2
bounds-rules-a-2 c = class-below c.args.rules.now c.args.a.now c.requires.a

pub keys_decide-requires-clause-a : goal.keys_decide-requires-clause-a
keys_decide-requires-clause-a c =
    let own = rule-at c.args.rules.now c.index-rules-a-2.result c.args.a.now c.requires.a in
    ap (λ (xs : List ℤ). length xs) c.deref-2.ensures.value
    ∙ (c.requires.a.1
    ∙ (ap (λ (r : Rule). length r.ties) (sym own) ∙ ap (λ (ks : List Key). length ks) (sym c.deref.ensures.value)))

pub keys_decide-requires-clause-b : goal.keys_decide-requires-clause-b
keys_decide-requires-clause-b c =
    let own = rule-at c.args.rules.now c.index-rules-a-2.result c.args.a.now c.requires.a in
    ap (λ (xs : List ℤ). length xs) c.deref-3.ensures.value
    ∙ (c.requires.b.1
    ∙ (ap (λ (n : ℕ). length (rule_at (map rule_of c.args.rules.now) n).ties) (sym c.if-a-b-2.false)
    ∙ (ap (λ (r : Rule). length r.ties) (sym own) ∙ ap (λ (ks : List Key). length ks) (sym c.deref.ensures.value))))

pub returns-in-Some : goal.returns-in-Some
returns-in-Some c =
    let a : SFits w64 c.args.a.now.time = search rules in
    let b : SFits w64 c.args.b.now.time = search rules in
    ap (λ (o : Option Bool). unwrap_or o (ltb c.args.a.now.filing c.args.b.now.filing)) (sym c.in-Some.is)
    ∙ by-keys c.args.rules.now c.args.a.now c.args.b.now c.index-rules-a-2.result c.deref.result.now
    c.deref-2.result.now c.deref-3.result.now c.keys_decide.result c.requires.a
    (same-time _ _ a b c.if-a-b.false) c.if-a-b-2.false c.deref.ensures.value c.deref-2.ensures.value
    c.deref-3.ensures.value c.keys_decide.ensures

pub returns-in-None : goal.returns-in-None
returns-in-None c =
    let a : SFits w64 c.args.a.now.time = search rules in
    let b : SFits w64 c.args.b.now.time = search rules in
    ap (λ (o : Option Bool). unwrap_or o (ltb c.args.a.now.filing c.args.b.now.filing)) (sym c.in-None.is)
    ∙ by-keys c.args.rules.now c.args.a.now c.args.b.now c.index-rules-a-2.result c.deref.result.now
    c.deref-2.result.now c.deref-3.result.now c.keys_decide.result c.requires.a
    (same-time _ _ a b c.if-a-b.false) c.if-a-b-2.false c.deref.ensures.value c.deref-2.ensures.value
    c.deref-3.ensures.value c.keys_decide.ensures
