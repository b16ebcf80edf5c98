use Rattle.std.proofs.Common.{◌≡◌, [], refl, arith, ◌∙◌}
use Rattle.ss_inspect.specs.Living.{living_at}
use Rattle.ss_inspect.proofs.TextSequences.{text_more}
use Rattle.ss_inspect.proofs.Numbers.{all_living}
use Rattle.ss_inspect.proofs.entities.living_within.Goals as goal

pub loop-below-preserved : goal.loop-below-preserved
loop-below-preserved g c =
    text_more (living_at c.args.store.now.state c.args.class) c.loop-below.below _ [] c.loop-below.numbers.items _ refl
    c.loop-below.invariant c.in_ok-push_if_living.ensures

pub returns : goal.returns
returns g c =
    let whole : c.loop-below.below ≡ c.args.limit = omega (arith, c.loop-below-test.false, c.loop-below.auto.below-end) in
    c.loop-below.invariant
    ∙ all_living c.args.store.now.state c.args.class c.loop-below.below (omega (arith, whole, c.requires))
