use Rattle.std.proofs.Common.{sym, ◌∙◌, ap}
use Rattle.std.specs.Prelude.{is_some}
use Rattle.ss_links.specs.Board.{list_at}
use Rattle.ss_store.proofs.ReferenceEnds.{filled_next, filled_here, filled_first, none_first}
use Rattle.ss_store.proofs.ending.has_members.Goals as goal

pub returns-then-is_some : goal.returns-then-is_some
returns-then-is_some g c =
    sym (filled_here (list_at (g.S.SetBoard.board c.args.board.now).lists) c.args.head c.args.lists c.loop-list.list
    c.loop-list-test.true
    (filled_first _ ∙ ap is_some (sym c.first.ensures.value) ∙ sym c.is_some.ensures ∙ c.if-is_some.true))

pub loop-list-preserved : goal.loop-list-preserved
loop-list-preserved g c =
    filled_next (list_at (g.S.SetBoard.board c.args.board.now).lists) c.args.head c.loop-list.list c.loop-list.invariant
    (none_first _ (ap is_some (sym c.first.ensures.value) ∙ sym c.is_some.ensures ∙ c.if-is_some.false))
