use Rattle.ss_store.specs.Order.{seat_after}
use Rattle.ss_store.proofs.Climbing.{looked, keys_follow}
use Rattle.ss_store.proofs.ranking.first_look.Goals as goal

pub returns-then-may_begin : goal.returns-then-may_begin
returns-then-may_begin g c = looked (g.S.SetBoard.board c.args.board.now) c.args.list.head c.in-Some.seat
    (seat_after c.args.list.entities.now c.args.list.numbers.now c.args.keys.now c.args.list.set.now.member) _ _
    (c.may_begin.ensures.stands c.if-may_begin.true) c.next.ensures.value
    (λ x y. keys_follow c.args.keys.now _ _ c.args.ours.now) (c.requires.order c.in-Some.seat c.in-Some.is)
    (c.may_begin.ensures.passed c.if-may_begin.true)
