use Rattle.std.proofs.Common.{◌≡◌, ◌≤◌, ◌-◌}
use Rattle.ss_store.proofs.growing.take_seats.Given as goal

-- seats are taken off the end
abbrev pub invariant-loop-board : goal.invariant-loop-board
invariant-loop-board g l =
    ((g.S.SetBoard.board l.board).lists ≡ (g.S.SetBoard.board l.fn.board).lists)
    × (l.left ≤ (g.S.SetBoard.board l.board).seats)

abbrev pub decreases-loop-board : goal.decreases-loop-board
decreases-loop-board g l = (g.S.SetBoard.board l.board).seats - l.left
