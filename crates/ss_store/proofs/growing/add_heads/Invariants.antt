use Rattle.std.proofs.Common.{◌≡◌}
use Rattle.ss_links.specs.Board.{IsSound}
use Rattle.ss_store.specs.Making.{with_heads}
use Rattle.ss_store.proofs.growing.add_heads.Given as goal

abbrev pub invariant-loop : goal.invariant-loop
invariant-loop g l = (g.S.SetBoard.board l.board ≡ with_heads l.counter (g.S.SetBoard.board l.fn.board))
    × IsSound (g.S.SetBoard.board l.board)
