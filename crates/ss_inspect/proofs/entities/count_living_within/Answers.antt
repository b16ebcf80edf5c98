use Rattle.std.proofs.Common.{◌≡◌, ℕ, suc, ◌+◌, List, length, refl, arith, ap, ◌∙◌}
use Rattle.std.proofs.lemmas.List.{length-append}
use Rattle.ss_debug.specs.Entities.{lines_below}
use Rattle.ss_inspect.specs.Living.{living_at}
use Rattle.ss_inspect.proofs.Numbers.{all_living}
use Rattle.ss_inspect.proofs.entities.count_living_within.Goals as goal

one_more : (text : ℕ → List ℕ) (n m old one : ℕ) → m ≡ n + 1 → old ≡ length (lines_below text n) →
    one ≡ length (text n) → old + one ≡ length (lines_below text m)
one_more text n m old one e h k =
    let next : m ≡ suc n = omega (arith, e) in
    let sum : length (lines_below text (suc n)) ≡ length (lines_below text n) + length (text n) =
    length-append (lines_below text n) (text n) in
    rw next (omega (arith, sum, h, k))

pub loop-below-preserved : goal.loop-below-preserved
loop-below-preserved g c = record {
  count =
      one_more (living_at c.args.store.now.state c.args.class) c.loop-below.below _ c.loop-below.count _ refl
      c.loop-below.invariant.count c.one_if_living-count.ensures.count;
  few = omega (arith, c.loop-below.invariant.few, c.one_if_living-count.ensures.one);
}

pub returns : goal.returns
returns g c =
    let whole : c.loop-below.below ≡ c.args.limit = omega (arith, c.loop-below-test.false, c.loop-below.auto.below-end) in
    c.loop-below.invariant.count
    ∙ ap (λ (l : List ℕ). length l)
    (all_living c.args.store.now.state c.args.class c.loop-below.below (omega (arith, whole, c.requires)))
