use Rattle.std.proofs.Common.{◌≡◌, ◌≤◌, ℕ, ℤ, suc, ◌+◌, ◌++◌, refl, arith, ap, ◌∙◌, List, subst, rules, w64, FitsSigned}
use Rattle.std.proofs.Common.{to_z, of_z}
use Rattle.std.specs.Prelude.{codes, decimal}
use Rattle.std.proofs.lemmas.Int.{to_z-of_z}
use Rattle.ss_store.specs.Store.{number_of, greatest_number}
use Rattle.ss_debug.specs.Entities.{lines_below}
use Rattle.ss_inspect.specs.Lists.{list_with, owned_list_with}
use Rattle.ss_inspect.proofs.TextSequences.{text_more}
use Rattle.ss_inspect.proofs.Shapes.{all_lists}
use Rattle.ss_inspect.proofs.places.push_owned_lists_with.Goals as goal

pub loop-below-preserved : goal.loop-below-preserved
loop-below-preserved g c =
    let m = c.args.machine.now in
    let k = number_of (to_z w64 (of_z w64 c.args.x)) in
    let next : c.loop-below.below + 1 ≡ suc c.loop-below.below = omega arith in
    let said : ℕ → Type 0 = λ j. c.push_owned_list_with.new.text.items ≡ c.loop-below.text.items
    ++ list_with m.input.program m.state.store c.args.set k (codes " " ++ decimal j) j in
    text_more (owned_list_with m.input.program m.state.store c.args.set k) c.loop-below.below _ c.args.text.now.items
    c.loop-below.text.items c.push_owned_list_with.new.text.items refl c.loop-below.invariant
    (subst said next c.in_ok-push_owned_list_with.ensures)

pub returns : goal.returns
returns g c =
    let m = c.args.machine.now in
    let whole : c.loop-below.below ≡ c.number_limit-below-end.result =
    omega (arith, c.loop-below-test.false, c.loop-below.auto.below-end) in
    let fits : FitsSigned w64 c.args.x = search rules in
    let same : to_z w64 (of_z w64 c.args.x) ≡ c.args.x = to_z-of_z w64 _ fits in
    let said : ℤ → Type 0 = λ x. c.loop-below.text.items ≡ c.args.text.now.items
    ++ lines_below (owned_list_with m.input.program m.state.store c.args.set (number_of x)) c.loop-below.below in
    let past : greatest_number m.state.store c.args.class ≤ c.number_limit-below-end.result = search rules in
    let all =
    all_lists m.input.program m.state.store c.args.set c.args.class (number_of c.args.x) c.loop-below.below
    c.requires.set c.requires.owner (omega (arith, whole, past)) in
    subst said same c.loop-below.invariant ∙ ap (λ (l : List ℕ). c.args.text.now.items ++ l) all
