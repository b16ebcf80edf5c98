use Rattle.std.proofs.Common.{arith}
use Rattle.ss_store.proofs.SearchPlaces.{among_in, fewer_in}
use Rattle.ss_store.proofs.Climbing.{walks_begin, walks_next, walks_before, keys_rank}
use Rattle.ss_store.proofs.ranking.climbs.Goals as goal

pub loop-at-init : goal.loop-at-init
loop-at-init g c = walks_begin _ _ _ c.first-at.ensures.value

pub falls-requires-clause-before : goal.falls-requires-clause-before
falls-requires-clause-before g c x e = let b = walks_before (g.S.SetBoard.board c.args.board.now) c.args.list.head _ _ _
    c.requires.sound c.loop-at.invariant x e in let n = c.requires.numbers in omega (arith, b, n)

pub falls-requires-clause-seat : goal.falls-requires-clause-seat
falls-requires-clause-seat g c = let b = among_in (g.S.SetBoard.board c.args.board.now) c.args.list.head _ _ _
    c.in-Some.seat c.requires.sound c.loop-at.invariant.among c.in-Some.is in
    let n = c.requires.numbers in omega (arith, b, n)

pub next-at-requires : goal.next-at-requires
next-at-requires g c = among_in (g.S.SetBoard.board c.args.board.now) c.args.list.head _ _ _ c.in-Some.seat
    c.requires.sound c.loop-at.invariant.among c.in-Some.is

pub loop-at-smaller : goal.loop-at-smaller
loop-at-smaller g c = fewer_in (g.S.SetBoard.board c.args.board.now) c.args.list.head _ _ _ c.in-Some.seat _
    c.requires.sound c.loop-at.invariant.among c.in-Some.is c.next-at.ensures.value

pub loop-at-preserved : goal.loop-at-preserved
loop-at-preserved g c = walks_next (g.S.SetBoard.board c.args.board.now) c.args.list.head _ _ _ c.in-Some.seat _
    c.requires.sound (keys_rank c.args.keys.now _) c.loop-at.invariant c.in-Some.is
    (c.falls.ensures c.if-falls.false) c.next-at.ensures.value
