use Rattle.std.proofs.Common.{ap, ◌∙◌}
use Rattle.ss_links.specs.Board.{Board}
use Rattle.ss_store.proofs.Room.{free_above}
use Rattle.ss_store.proofs.growing.add_seats.Goals as goal

pub take_seats-requires-clause-free : goal.take_seats-requires-clause-free
take_seats-requires-clause-free g c = λ t le. free_above (g.S.SetBoard.board c.args.board.now)
    (g.S.SetBoard.board c.try_add_seat.new.self) c.seats-before.result t c.seats-before.ensures.sound
    (ap (λ (b : Board). b.lists) (c.in-Err.ensures.err ∙ c.loop.invariant.0)) c.seats-before.ensures.count le
