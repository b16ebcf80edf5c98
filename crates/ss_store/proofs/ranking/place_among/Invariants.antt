use Rattle.std.proofs.Common.{length}
use Rattle.std.specs.Ordering.{is_gt}
use Rattle.ss_links.specs.Board.{list_at}
use Rattle.ss_program.specs.Keys.{by_keys, key_values}
use Rattle.ss_store.specs.Finding.{keys_in, Among}
use Rattle.ss_store.specs.Parts.{number_at}
use Rattle.ss_store.proofs.SearchPlaces.{rest_from}
use Rattle.ss_store.proofs.ranking.place_among.Given as goal

-- the list is the seats that were passed, none of which ranks after, and the seats that are left
abbrev pub invariant-loop-at : goal.invariant-loop-at
invariant-loop-at g l = Among (list_at (g.S.SetBoard.board l.board).lists l.list.head)
    (λ t. is_gt (by_keys l.keys
    (keys_in l.list.entities.now l.keys l.list.set.now.member (number_at l.list.numbers.now t))
    (key_values l.keys l.ours)))
    l.before l.at

abbrev pub decreases-loop-at : goal.decreases-loop-at
decreases-loop-at g l = length (rest_from (list_at (g.S.SetBoard.board l.board).lists l.list.head) l.at)
