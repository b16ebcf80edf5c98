use Rattle.std.proofs.Common.{◌≡◌, true, false, ap, arith, rules}
use Rattle.ss_index.specs.Trees.{inorder}
use Rattle.ss_index.proofs.ForkLaws.{others-here, others-left, others-right, without-left, without-right, without-here}
use Rattle.ss_index.proofs.ForkLaws.{fewer-left, fewer-right, apart}
use Rattle.ss_index.proofs.FilingLaws.{is_at-behind, is_at-front}
use Rattle.ss_index.proofs.tree.+remove.Goals as goal

pub is_behind-requires : goal.is_behind-requires
is_behind-requires g t c =
    let e = ap inorder c.in-Fork.is in
    let n = apart _ _ (rw c.deref.ensures at c.if-deref-seat.false) in
    rw c.deref-else-deref-seat.ensures (others-here _ _ _ _ e n c.requires.known)

pub remove-left-requires : goal.remove-left-requires
remove-left-requires g t c κs within =
    let e = ap inorder c.in-Fork.is in
    let n = apart _ _ (rw c.deref.ensures at c.if-deref-seat.false) in
    let b : g.O.Order.behind c.args.order.now c.in-Fork.fork.value.seat ≡ true = cc in
    let is = c.replace-inner.ensures.value in
    let was = c.deref_mut-then-is_behind.ensures.value in (
      rw (is, was, ← c.decreases) (fewer-left _ _ _ e),
      (
        search rules,
        (
          rw (is, was) (others-left _ _ _ _ e n c.requires.known),
          rw (is, was) (is_at-behind _ _ _ _ _ b n (rw e at c.requires.at)),
        ),
      ),
    )

pub remove-right-requires : goal.remove-right-requires
remove-right-requires g t c κs within =
    let e = ap inorder c.in-Fork.is in
    let n = apart _ _ (rw c.deref.ensures at c.if-deref-seat.false) in
    let b : g.O.Order.behind c.args.order.now c.in-Fork.fork.value.seat ≡ false = cc in
    let is = c.replace-inner-else-is_behind.ensures.value in
    let was = c.deref_mut-else-is_behind.ensures.value in (
      rw (is, was, ← c.decreases) (fewer-right _ _ _ e),
      (
        search rules,
        (
          rw (is, was) (others-right _ _ _ _ e n c.requires.known),
          rw (is, was) (is_at-front _ _ _ _ _ b n (rw e at c.requires.at)),
        ),
      ),
    )

pub returns-then-deref-seat-clause-seats : goal.returns-then-deref-seat-clause-seats
returns-then-deref-seat-clause-seats g t c =
    let e = ap inorder c.in-Fork.is in
    let same : c.in-Fork.fork.value.seat ≡ c.args.seat = cc in
    let w = without-here _ _ _ _ _ _ e same c.requires.at in
    grind arith

pub returns-then-is_behind-clause-seats : goal.returns-then-is_behind-clause-seats
returns-then-is_behind-clause-seats g t c =
    let e = ap inorder c.in-Fork.is in
    let n = apart _ _ (rw c.deref.ensures at c.if-deref-seat.false) in
    let b : g.O.Order.behind c.args.order.now c.in-Fork.fork.value.seat ≡ true = cc in
    let w = without-left _ _ _ _ _ _ e n b c.requires.at in
    grind arith

pub returns-else-is_behind-clause-seats : goal.returns-else-is_behind-clause-seats
returns-else-is_behind-clause-seats g t c =
    let e = ap inorder c.in-Fork.is in
    let n = apart _ _ (rw c.deref.ensures at c.if-deref-seat.false) in
    let b : g.O.Order.behind c.args.order.now c.in-Fork.fork.value.seat ≡ false = cc in
    let w = without-right _ _ _ _ _ _ e n b c.requires.at in
    grind arith
