use Rattle.std.proofs.Common.{ℕ, ◌++◌, ◌∷◌, [], ap, ◌∙◌}
use Rattle.ss_links.specs.Board.{Board, list_of}
use Rattle.ss_links.specs.Seats.{next_in}
use Rattle.ss_events.proofs.Stands.{kept, sound_board}
use Rattle.ss_events.proofs.Walks.{listed-below, laid-has, laid-more}
use Rattle.ss_events.proofs.agenda.Agenda.index_of.Goals as goal

pub next-next-requires : goal.next-next-requires
next-next-requires g c =
    let k = kept _ _ _ _ c.self.view_is c.self.invariant.0 in
    rw k.board (listed-below _ c.args.head c.unwrap-seat.result (sound_board _ _ _ k) (laid-has _ _ _ _ _ c.loop.invariant
    c.unwrap-seat.ensures))

pub loop-preserved : goal.loop-preserved
loop-preserved g c =
    let k = kept _ _ _ _ c.self.view_is c.self.invariant.0 in
    laid-more _ _ _ c.unwrap-seat.result _ _ _ _ (sound_board _ _ _ k) c.loop.invariant c.unwrap-seat.ensures
    (c.put_last.ensures ∙ ap (λ (x : ℕ). c.loop.index ++ x ∷ []) c.in_ok-node.ensures)
    (c.next-next.ensures.value ∙ ap (λ (d : Board). next_in (list_of d.lists c.unwrap-seat.result) c.unwrap-seat.result)
    k.board)
