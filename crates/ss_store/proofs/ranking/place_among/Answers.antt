use Rattle.std.proofs.Common.{sym, ◌∙◌, arith}
use Rattle.ss_store.proofs.SearchPlaces.{among_in, fewer_in, among_next}
use Rattle.ss_store.proofs.ranking.place_among.Goals as goal

pub loop-at-init : goal.loop-at-init
loop-at-init g c = c.first_look-before.ensures

pub seat_behind-requires : goal.seat_behind-requires
seat_behind-requires g c = let b = among_in (g.S.SetBoard.board c.args.board.now) c.args.list.head _ _ _ c.in-Some.seat
    c.requires.sound c.loop-at.invariant c.in-Some.is in let n = c.requires.numbers in omega (arith, b, n)

pub next-at-requires : goal.next-at-requires
next-at-requires g c = among_in (g.S.SetBoard.board c.args.board.now) c.args.list.head _ _ _ c.in-Some.seat
    c.requires.sound c.loop-at.invariant c.in-Some.is

pub loop-at-smaller : goal.loop-at-smaller
loop-at-smaller g c = fewer_in (g.S.SetBoard.board c.args.board.now) c.args.list.head _ _ _ c.in-Some.seat _
    c.requires.sound c.loop-at.invariant c.in-Some.is c.next-at.ensures.value

pub loop-at-preserved : goal.loop-at-preserved
loop-at-preserved g c = among_next (g.S.SetBoard.board c.args.board.now) c.args.list.head _ _ _ c.in-Some.seat _
    c.requires.sound c.loop-at.invariant c.in-Some.is (sym c.seat_behind.ensures
    ∙ c.if-seat_behind.false) c.next-at.ensures.value
