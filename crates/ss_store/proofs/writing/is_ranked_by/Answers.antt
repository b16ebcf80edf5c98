use Rattle.std.proofs.Common.{arith}
use Rattle.ss_store.proofs.Agree.{get_read}
use Rattle.ss_store.proofs.writing.is_ranked_by.Goals as goal

pub overflow_add-seat : goal.overflow_add-seat
overflow_add-seat g c =
    let there = get_read c.args.sets.now c.loop-set.set-index c.set-item.result (omega arith) c.set-item.is in
    let below = c.requires c.set-item.result (c.loop-set.set-index, there) c.if-set-class.true in
    let small = c.known.ensures.seats in omega (arith, below, small)

pub place-requires : goal.place-requires
place-requires g c =
    let there = get_read c.args.sets.now c.loop-set.set-index c.set-item.result (omega arith) c.set-item.is in
    c.requires c.set-item.result (c.loop-set.set-index, there) c.if-set-class.true
