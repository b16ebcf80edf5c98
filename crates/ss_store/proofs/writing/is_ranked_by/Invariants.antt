use Rattle.std.proofs.Common.{◌≡◌, ◌+◌, ◌==◌, ◌&&◌, drop}
use Rattle.std.specs.Prelude.{is_some}
use Rattle.std.specs.List.{list_any}
use Rattle.ss_links.specs.Board.{head_of}
use Rattle.ss_store.specs.declared.shape.SetShape.{SetShape}
use Rattle.ss_store.specs.Order.{is_key}
use Rattle.ss_store.proofs.writing.is_ranked_by.Given as goal

-- in the sets that were passed it is in no list that the attribute ranks
abbrev pub invariant-loop-set : goal.invariant-loop-set
invariant-loop-set g l =
    let ranks = λ (s : SetShape). (s.member == l.class)
    && is_key s l.attribute
    && is_some (head_of (g.S.SetBoard.board l.board).lists (l.seat + s.slot)) in
    list_any ranks (drop l.set-index l.sets) ≡ list_any ranks l.sets
