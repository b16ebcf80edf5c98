use Rattle.std.proofs.Common.{◌≡◌, ◌+◌, ◌==◌, ◌&&◌, drop}
use Rattle.std.specs.Prelude.{is_some}
use Rattle.std.specs.List.{list_any}
use Rattle.ss_links.specs.Board.{head_of}
use Rattle.ss_store.specs.declared.shape.SetShape.{SetShape}
use Rattle.ss_store.proofs.ending.stands_anywhere.Given as goal

-- in the sets that were passed it is in no list
abbrev pub invariant-loop-set : goal.invariant-loop-set
invariant-loop-set g l =
    let stands = λ (s : SetShape). (s.member == l.class)
    && is_some (head_of (g.S.SetBoard.board l.board).lists (l.seat + s.slot)) in
    list_any stands (drop l.set-index l.sets) ≡ list_any stands l.sets
