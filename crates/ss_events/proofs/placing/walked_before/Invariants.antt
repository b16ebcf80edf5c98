use Rattle.ss_links.specs.Board.{list_at}
use Rattle.ss_events.proofs.Walks.{IsWalked}
use Rattle.ss_events.proofs.placing.walked_before.Given as goal

abbrev pub invariant-loop : goal.invariant-loop
invariant-loop g l =
    IsWalked (g.O.Order.behind l.place) (list_at (g.S.SetBoard.board l.board).lists l.head) l.counter l.before
