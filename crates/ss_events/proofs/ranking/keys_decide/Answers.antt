use Rattle.std.proofs.Common.{◌≡◌, ℕ, ◌+◌, ◌<◌, ℤ, pos, true, false, List, ◌∷◌, length, get_or, drop}
use Rattle.std.proofs.Common.{w64, SFits, to_z, of_z, refl, ap, ◌∙◌, arith, rules}
use Rattle.std.specs.Prelude.{int_lt}
use Rattle.std.specs.Ordering.{is_lt, ordering_then, int_cmp}
use Rattle.std.specs.declared.cmp.Ordering.{Ordering}
use Rattle.std.specs.declared.cmp.Ordering.TheVariants.{Less, Equal, Greater}
use Rattle.std.proofs.lemmas.Int.{to_z-of_z}
use Rattle.std.proofs.lemmas.List.{at_drop_more, at_drop_all}
use Rattle.ss_program.specs.declared.keys.Key.{Key}
use Rattle.ss_program.specs.Keys.{order_by_rank, by_keys}
use Rattle.ss_words.specs.declared.terms.Rank.{Rank}
use Rattle.ss_words.specs.declared.terms.Rank.TheVariants.{High, Low}
use Rattle.ss_events.proofs.ranking.keys_decide.Goals as goal
use Rattle.ss_events.proofs.ranking.keys_decide.Goals.{in-High, in-Low}

abbrev tie : List Key → ℕ → Key
tie ties i = get_or ties i (record { attribute = 0; rank = High })

abbrev key : List ℤ → ℕ → ℤ
key xs i = get_or xs i (pos 0)

abbrev pair : ℤ → ℤ → ℤ × ℤ
pair x y = (x, y)

-- two numbers are two keys, the one that is to be less for the first to come first in front
abbrev AreOf : Rank → ℤ → ℤ → ℤ × ℤ → Type 0
AreOf rank p q x = order_by_rank rank p q ≡ int_cmp (to_z w64 (of_z w64 x.0)) (to_z w64 (of_z w64 x.1))

kept : (p : ℤ) → SFits w64 p → to_z w64 (of_z w64 (to_z w64 (of_z w64 p))) ≡ p
kept p f = ap (λ z. to_z w64 (of_z w64 z)) (to_z-of_z w64 p f) ∙ to_z-of_z w64 p f

high : (rank : Rank) (p q : ℤ) (x : ℤ × ℤ) → SFits w64 p → SFits w64 q → rank ≡ High →
    x ≡ pair (to_z w64 (of_z w64 q)) (to_z w64 (of_z w64 p)) → AreOf rank p q x
high rank p q x f g h e = rw (h, e, kept p f, kept q g) refl

low : (rank : Rank) (p q : ℤ) (x : ℤ × ℤ) → SFits w64 p → SFits w64 q → rank ≡ Low →
    x ≡ pair (to_z w64 (of_z w64 p)) (to_z w64 (of_z w64 q)) → AreOf rank p q x
low rank p q x f g h e = rw (h, e, kept p f, kept q g) refl

is-less : (x y : ℤ) → int_lt x y ≡ true → int_cmp x y ≡ Less
is-less x y e = rw e refl

is-greater : (x y : ℤ) → int_lt x y ≡ false → int_lt y x ≡ true → int_cmp x y ≡ Greater
is-greater x y e f = rw (e, f) refl

is-equal : (x y : ℤ) → int_lt x y ≡ false → int_lt y x ≡ false → int_cmp x y ≡ Equal
is-equal x y e f = rw (e, f) refl

abbrev behind : List Key → List ℤ → List ℤ → ℕ → Ordering
behind ties a b i = by_keys (drop (i + 1) ties) (drop (i + 1) a) (drop (i + 1) b)

-- the keys that are left, the first in front
keys-at : (ties : List Key) (a b : List ℤ) (i : ℕ) (o : Ordering) → i < length ties → length a ≡ length ties →
    length b ≡ length ties → by_keys ties a b ≡ by_keys (drop i ties) (drop i a) (drop i b) →
    order_by_rank (tie ties i).rank (key a i) (key b i) ≡ o → by_keys ties a b ≡ ordering_then o (behind ties a b i)
keys-at ties a b i o h la lb left e =
    let ks = tie ties i ∷ drop (i + 1) ties in
    let xs = key a i ∷ drop (i + 1) a in
    left
    ∙ (at_drop_more (λ (l : List Key). by_keys l (drop i a) (drop i b)) ties i _ h
    ∙ (at_drop_more (λ (l : List ℤ). by_keys ks l (drop i b)) a i (pos 0) (omega (arith, h, la))
    ∙ (at_drop_more (λ (l : List ℤ). by_keys ks xs l) b i (pos 0) (omega (arith, h, lb))
    ∙ ap (λ (r : Ordering). ordering_then r (behind ties a b i)) e)))

pub returns-then-x-y : goal.returns-then-x-y
returns-then-x-y c =
    let i = c.loop-i.i in
    let rank = (tie c.args.ties.now i).rank in
    let p = key c.args.a.now i in
    let q = key c.args.b.now i in
    let f : SFits w64 p = search rules in
    let g : SFits w64 q = search rules in
    let e : AreOf rank p q c.match-ties-i.x = elim c.match-ties-i.branch [
      | in-High w ↦ high rank p q c.match-ties-i.x f g w.in-High.is w.x-is
      | in-Low w ↦ low rank p q c.match-ties-i.x f g w.in-Low.is w.x-is
    ] in
    let at = keys-at c.args.ties.now c.args.a.now c.args.b.now i Less c.loop-i-test.true c.requires.a c.requires.b
    c.loop-i.invariant (e ∙ is-less
    (to_z w64 (of_z w64 c.match-ties-i.x.0)) (to_z w64 (of_z w64 c.match-ties-i.x.1)) c.if-x-y.true) in
    λ then. ap (λ o. is_lt (ordering_then o then)) at

pub returns-then-y-x : goal.returns-then-y-x
returns-then-y-x c =
    let i = c.loop-i.i in
    let rank = (tie c.args.ties.now i).rank in
    let p = key c.args.a.now i in
    let q = key c.args.b.now i in
    let f : SFits w64 p = search rules in
    let g : SFits w64 q = search rules in
    let e : AreOf rank p q c.match-ties-i.x = elim c.match-ties-i.branch [
      | in-High w ↦ high rank p q c.match-ties-i.x f g w.in-High.is w.x-is
      | in-Low w ↦ low rank p q c.match-ties-i.x f g w.in-Low.is w.x-is
    ] in
    let at = keys-at c.args.ties.now c.args.a.now c.args.b.now i Greater c.loop-i-test.true c.requires.a c.requires.b
    c.loop-i.invariant (e ∙ is-greater
    (to_z w64 (of_z w64 c.match-ties-i.x.0)) (to_z w64 (of_z w64 c.match-ties-i.x.1)) c.if-x-y.false c.if-y-x.true) in
    λ then. ap (λ o. is_lt (ordering_then o then)) at

pub loop-i-preserved : goal.loop-i-preserved
loop-i-preserved c =
    let i = c.loop-i.i in
    let rank = (tie c.args.ties.now i).rank in
    let p = key c.args.a.now i in
    let q = key c.args.b.now i in
    let f : SFits w64 p = search rules in
    let g : SFits w64 q = search rules in
    let e : AreOf rank p q c.match-ties-i.x = elim c.match-ties-i.branch [
      | in-High w ↦ high rank p q c.match-ties-i.x f g w.in-High.is w.x-is
      | in-Low w ↦ low rank p q c.match-ties-i.x f g w.in-Low.is w.x-is
    ] in
    keys-at c.args.ties.now c.args.a.now c.args.b.now i Equal c.loop-i-test.true c.requires.a c.requires.b
    c.loop-i.invariant (e ∙ is-equal
    (to_z w64 (of_z w64 c.match-ties-i.x.0)) (to_z w64 (of_z w64 c.match-ties-i.x.1)) c.if-x-y.false c.if-y-x.false)

pub returns : goal.returns
returns c = λ then.
    let i = c.loop-i.i in
    ap (λ o. is_lt (ordering_then o then)) (c.loop-i.invariant
    ∙ at_drop_all (λ (l : List Key). by_keys l (drop i c.args.a.now) (drop i c.args.b.now)) c.args.ties.now i
    c.loop-i-test.false)
