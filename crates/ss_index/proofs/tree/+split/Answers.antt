use Rattle.std.proofs.Common.{◌≡◌, true, false, ap, arith, rules}
use Rattle.ss_index.specs.Trees.{inorder}
use Rattle.ss_index.proofs.FilingLaws.{seats_passed-behind, rest-behind, seats_passed-front, rest-front}
use Rattle.ss_index.proofs.ForkLaws.{known-here, known-left, known-right, divided-left, divided-right, fewer-left}
use Rattle.ss_index.proofs.ForkLaws.{fewer-right}
use Rattle.ss_index.proofs.tree.+split.Goals as goal

pub is_behind-requires : goal.is_behind-requires
is_behind-requires g t c =
    rw c.deref.ensures (known-here _ _ _ (ap inorder c.in-Fork.is) c.requires.known)

pub split-front-requires : goal.split-front-requires
split-front-requires g t c κs within =
    let e = ap inorder c.in-Fork.is in
    let b : g.O.Order.behind c.args.order.now c.in-Fork.fork.value.seat ≡ true = cc in (
      rw (c.replace-inner.ensures.value, c.deref_mut.ensures.value, ← c.decreases) (fewer-left _ _ _ e),
      (
        search rules,
        (
          rw (c.replace-inner.ensures.value, c.deref_mut.ensures.value) (known-left _ _ _ e c.requires.known),
          rw (c.replace-inner.ensures.value, c.deref_mut.ensures.value) (divided-left _ _ _ _ _ e b c.requires.divided),
        ),
      ),
    )

pub split-front-requires-else-is_behind : goal.split-front-requires-else-is_behind
split-front-requires-else-is_behind g t c κs within =
    let e = ap inorder c.in-Fork.is in
    let b : g.O.Order.behind c.args.order.now c.in-Fork.fork.value.seat ≡ false = cc in (
      rw (c.replace-inner-else-is_behind.ensures.value, c.deref_mut-else-is_behind.ensures.value, ← c.decreases) (fewer-right _ _ _ e),
      (
        search rules,
        (
          rw (c.replace-inner-else-is_behind.ensures.value, c.deref_mut-else-is_behind.ensures.value) (known-right _ _ _ e c.requires.known),
          rw (c.replace-inner-else-is_behind.ensures.value, c.deref_mut-else-is_behind.ensures.value) (divided-right _ _ _ _ _ e b c.requires.divided),
        ),
      ),
    )

pub returns-then-is_behind-clause-front : goal.returns-then-is_behind-clause-front
returns-then-is_behind-clause-front g t c =
    let e = ap inorder c.in-Fork.is in
    grind (arith, seats_passed-behind (g.O.Order.behind c.args.order.now))

pub returns-then-is_behind-clause-rest : goal.returns-then-is_behind-clause-rest
returns-then-is_behind-clause-rest g t c =
    let e = ap inorder c.in-Fork.is in
    grind (arith, rest-behind (g.O.Order.behind c.args.order.now))

pub returns-else-is_behind-clause-front : goal.returns-else-is_behind-clause-front
returns-else-is_behind-clause-front g t c =
    let e = ap inorder c.in-Fork.is in
    let divided = c.requires.divided in
    grind (arith, seats_passed-front (g.O.Order.behind c.args.order.now))

pub returns-else-is_behind-clause-rest : goal.returns-else-is_behind-clause-rest
returns-else-is_behind-clause-rest g t c =
    let e = ap inorder c.in-Fork.is in
    let divided = c.requires.divided in
    grind (arith, rest-front (g.O.Order.behind c.args.order.now))
