use Rattle.std.proofs.Common.{rules, ◌≡◌, length, arith}
use Rattle.std.specs.VecDeque.{deque_len, deque_capacity}
use Rattle.ss_journal.proofs.Bytes.{room_for_long}
use Rattle.ss_journal.proofs.sizes.Sizes.push.Goals as goal

pub push_back_reserved-requires-else-size-lt-LONG-2 :
    goal.push_back_reserved-requires-else-size-lt-LONG-2
push_back_reserved-requires-else-size-lt-LONG-2 c =
    let full : deque_len c.self.inside.longs ≡ length c.self.inside.longs.items = search rules in
    let fits = rw (← c.self.view_is) at c.requires.most in
    let room =
    room_for_long c.self.inside.bytes.items c.self.inside.longs.items c.args.size
    (deque_capacity c.self.inside.longs) c.self.invariant fits (omega (arith, c.if-size-lt-LONG.false)) in
    omega (arith, full, room)
