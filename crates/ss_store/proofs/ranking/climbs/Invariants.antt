use Rattle.std.proofs.Common.{length}
use Rattle.ss_links.specs.Board.{list_at}
use Rattle.ss_store.specs.Order.{seat_after}
use Rattle.ss_store.proofs.SearchPlaces.{rest_from}
use Rattle.ss_store.proofs.Climbing.{Walks}
use Rattle.ss_store.proofs.ranking.climbs.Given as goal

-- no member that was passed ranks after a later one
abbrev pub invariant-loop-at : goal.invariant-loop-at
invariant-loop-at g l = Walks (seat_after l.list.entities.now l.list.numbers.now l.keys l.list.set.now.member)
    (list_at (g.S.SetBoard.board l.board).lists l.list.head) l.before l.at

abbrev pub decreases-loop-at : goal.decreases-loop-at
decreases-loop-at g l = length (rest_from (list_at (g.S.SetBoard.board l.board).lists l.list.head) l.at)
