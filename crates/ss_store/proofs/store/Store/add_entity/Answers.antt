use Rattle.ss_store.proofs.MakingAnswers.{at_of, heads_fit, seats_fit, added_pair, added_makes, kept_pair, kept_value}
use Rattle.ss_store.proofs.Room.{if_ok, if_ok_err, on_err, on_err_ok}
use Rattle.ss_store.proofs.MakingAnswers.{Adds}
use Rattle.ss_store.proofs.ListOrders.{added_order, fewer_known, kept_order}
use Rattle.ss_store.proofs.store.Store.add_entity.Goals.{in-Err, in-Ok}
use Rattle.ss_store.proofs.store.Store.add_entity.Goals as goal

pub grow-grown-requires-clause-heads : goal.grow-grown-requires-clause-heads
grow-grown-requires-clause-heads g c = heads_fit _ _ c.args.class c.index-shape.result.now
    (at_of _ _ c.args.class c.index-shape.result.now c.self.view_is c.self.invariant.2 c.requires.class
    c.index-shape.ensures)

pub grow-grown-requires-clause-seats : goal.grow-grown-requires-clause-seats
grow-grown-requires-clause-seats g c = seats_fit _ _ c.args.class c.index-shape.result.now
    (at_of _ _ c.args.class c.index-shape.result.now c.self.view_is c.self.invariant.2 c.requires.class
    c.index-shape.ensures)

pub invariant_of-self : goal.invariant_of-self
invariant_of-self g c = (
  c.self.invariant.0,
  c.self.invariant.1,
  c.self.invariant.2,
  fewer_known _ _ _ c.try_grow.ensures c.self.invariant.3,
)

pub invariant_of-self-2 : goal.invariant_of-self-2
invariant_of-self-2 g c = elim c.match-grown.branch [
  | in-Err w ↦
      kept_pair _ _ _ _ c.self.invariant.2 w.in-Err.ensures.err_rows w.in-Err.ensures.err_numbers
      w.in-Err.ensures.err_board _ (kept_order _ _ _ _ _ _ w.in-Err.ensures.err_rows w.in-Err.ensures.err_numbers
      w.in-Err.ensures.err_board c.try_grow.ensures c.self.invariant.3)
  | in-Ok w ↦
      let k = at_of _ _ c.args.class c.index-shape.result.now c.self.view_is c.self.invariant.2 c.requires.class
      c.index-shape.ensures in
      let d : Adds _ c.args.class c.index-shape.result.now _ _ _ _ = record {
        row_is = w.in-Ok.ensures.row;
        rows = w.in-Ok.ensures.rows;
        numbers = w.in-Ok.ensures.numbers;
        board = w.in-Ok.ensures.board;
        sound = c.grow-grown.ensures.sound;
      } in
      added_pair _ _ c.args.class c.index-shape.result.now _ _ _ _ k c.requires.few d _ (added_order _ _ _ _ c.args.class c.index-shape.result.now _ _ _ _ k c.requires.few d
      c.try_grow.ensures c.self.invariant.3)
]

pub returns-clause-ok : goal.returns-clause-ok
returns-clause-ok g c = elim c.match-grown.branch [
  | in-Err w ↦ if_ok_err _ _ _ w.result-is
  | in-Ok w ↦ if_ok _ _ _ w.result-is (added_makes _ _ c.args.class c.index-shape.result.now _ _ _ _
      (at_of _ _ c.args.class c.index-shape.result.now c.self.view_is c.self.invariant.2 c.requires.class
      c.index-shape.ensures) c.requires.few (record {
        row_is = w.in-Ok.ensures.row;
        rows = w.in-Ok.ensures.rows;
        numbers = w.in-Ok.ensures.numbers;
        board = w.in-Ok.ensures.board;
        sound = c.grow-grown.ensures.sound;
      }))
]

pub returns-clause-err : goal.returns-clause-err
returns-clause-err g c = elim c.match-grown.branch [
  | in-Err w ↦ on_err _ _ _ w.result-is (kept_value _ _ _ _ _ c.self.view_is c.self.invariant.2
      w.in-Err.ensures.err_rows w.in-Err.ensures.err_numbers w.in-Err.ensures.err_board)
  | in-Ok w ↦ on_err_ok _ _ _ w.result-is
]
