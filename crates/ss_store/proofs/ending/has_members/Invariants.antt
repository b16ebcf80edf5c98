use Rattle.std.proofs.Common.{◌≡◌, false}
use Rattle.std.specs.List.{list_any}
use Rattle.ss_links.specs.Board.{list_at}
use Rattle.ss_store.specs.Store.{is_filled}
use Rattle.ss_store.specs.Parts.{owned_from}
use Rattle.ss_store.proofs.ending.has_members.Given as goal

-- those that were passed are empty
abbrev pub invariant-loop-list : goal.invariant-loop-list
invariant-loop-list g l =
    list_any is_filled (owned_from (list_at (g.S.SetBoard.board l.board).lists) l.head l.list) ≡ false
