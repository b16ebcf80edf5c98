use Rattle.std.proofs.Common.{rules, ◌≡◌, length, drop, arith}
use Rattle.std.specs.VecDeque.{deque_len, deque_capacity}
use Rattle.ss_journal.proofs.Bytes.{room_for_long}
use Rattle.ss_byte_journal.proofs.step_sizes.StepSizes.push_long.Goals as goal

pub push_back_reserved-requires : goal.push_back_reserved-requires
push_back_reserved-requires c =
    let full : deque_len c.self.inside.longs ≡ length c.self.inside.longs.items = search rules in
    let fits = rw (← c.self.view_is) at c.requires.most in
    let room =
    room_for_long (drop c.self.inside.forgotten c.self.inside.bytes.items) c.self.inside.longs.items c.args.size
    (deque_capacity c.self.inside.longs) c.self.invariant.0 fits c.requires.long in
    omega (arith, full, room)
