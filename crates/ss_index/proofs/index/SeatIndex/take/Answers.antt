use Rattle.std.proofs.Common.{◌≡◌}
use Rattle.ss_links.specs.Seats.{list_without as without}
use Rattle.ss_links.proofs.SeatLaws.{has-without}
use Rattle.ss_index.specs.Trees.{inorder}
use Rattle.ss_index.proofs.FilingLaws.{is_at-seats_filed}
use Rattle.ss_index.proofs.index.SeatIndex.take.Goals as goal

pub remove-others-requires-clause-at : goal.remove-others-requires-clause-at
remove-others-requires-clause-at g c =
    let e : inorder c.replace-root.result ≡ c.args.self.now = cc in
    let free = has-without c.args.self.now c.args.seat in
    rw (e, c.requires.placed) (is_at-seats_filed (g.O.Order.behind c.args.order.now) c.args.seat
    (without c.args.self.now c.args.seat) free c.requires.divided)
