use Rattle.std.proofs.Common.{ap, ◌∙◌}
use Rattle.ss_links.specs.Board.{Board}
use Rattle.ss_store.proofs.Room.{heads_there, heads_empty, heads_back}
use Rattle.ss_store.proofs.growing.add_places.Goals as goal

pub take_heads-requires-clause-there : goal.take_heads-requires-clause-there
take_heads-requires-clause-there g c =
    heads_there (g.S.SetBoard.board c.args.board.now).lists _ c.args.heads c.heads-before.result
    (ap (λ (b : Board). b.lists) (c.in-Err.ensures.err ∙ c.in_ok-add_heads.ensures.ok)) c.heads-before.ensures.count

pub take_heads-requires-clause-empty : goal.take_heads-requires-clause-empty
take_heads-requires-clause-empty g c = λ h le.
    heads_empty (g.S.SetBoard.board c.args.board.now).lists _ c.args.heads c.heads-before.result h
    (ap (λ (b : Board). b.lists) (c.in-Err.ensures.err ∙ c.in_ok-add_heads.ensures.ok)) c.heads-before.ensures.count le

pub returns-in-Err-clause-err : goal.returns-in-Err-clause-err
returns-in-Err-clause-err g c =
    heads_back (g.S.SetBoard.board c.args.board.now) (g.S.SetBoard.board c.add_seats.new.board) _ c.args.heads
    c.heads-before.result (c.in-Err.ensures.err ∙ c.in_ok-add_heads.ensures.ok) c.heads-before.ensures.count
    c.take_heads.ensures.board
