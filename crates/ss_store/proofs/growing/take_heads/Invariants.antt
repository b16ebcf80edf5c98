use Rattle.std.proofs.Common.{◌≡◌, ◌≤◌, ◌-◌, length, take}
use Rattle.ss_store.proofs.growing.take_heads.Given as goal

-- heads are taken off the end
abbrev pub invariant-loop-board : goal.invariant-loop-board
invariant-loop-board g l =
    (g.S.SetBoard.board l.board ≡ record {
      lists =
          take (length (g.S.SetBoard.board l.board).lists) (g.S.SetBoard.board l.fn.board).lists;
      seats = (g.S.SetBoard.board l.fn.board).seats;
    })
    × (l.left ≤ length (g.S.SetBoard.board l.board).lists)

abbrev pub decreases-loop-board : goal.decreases-loop-board
decreases-loop-board g l = length (g.S.SetBoard.board l.board).lists - l.left
