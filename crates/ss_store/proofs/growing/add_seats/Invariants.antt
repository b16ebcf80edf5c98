use Rattle.std.proofs.Common.{◌≡◌}
use Rattle.ss_links.specs.Board.{IsSound}
use Rattle.ss_store.specs.Making.{with_seats}
use Rattle.ss_store.proofs.growing.add_seats.Given as goal

abbrev pub invariant-loop : goal.invariant-loop
invariant-loop g l = (g.S.SetBoard.board l.board ≡ with_seats l.counter (g.S.SetBoard.board l.fn.board))
    × IsSound (g.S.SetBoard.board l.board)
