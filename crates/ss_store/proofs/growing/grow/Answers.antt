use Rattle.std.proofs.Common.{ap, sym, ◌∙◌}
use Rattle.ss_links.specs.Board.{Board}
use Rattle.ss_store.proofs.Room.{free_grown, seats_there, heads_there, heads_empty, front_back, places_back}
use Rattle.ss_store.proofs.growing.grow.Goals as goal

pub take_seats-requires-clause-there : goal.take_seats-requires-clause-there
take_seats-requires-clause-there g c =
    seats_there (g.S.SetBoard.board c.args.board.now) _ c.args.class.shape.owned c.args.class.shape.joined
    c.seats-seat.result c.in_default.ensures.ok c.seats-seat.ensures.count

pub take_seats-requires-clause-free : goal.take_seats-requires-clause-free
take_seats-requires-clause-free g c = λ t le. free_grown (g.S.SetBoard.board c.args.board.now)
    (g.S.SetBoard.board c.add_places.new.board) c.args.class.shape.owned c.args.class.shape.joined c.seats-seat.result t
    c.requires.sound c.in_default.ensures.ok c.seats-seat.ensures.count le

pub take_heads-requires-clause-there : goal.take_heads-requires-clause-there
take_heads-requires-clause-there g c =
    heads_there (g.S.SetBoard.board c.args.board.now).lists _ c.args.class.shape.owned c.heads-head.result
    (ap (λ (b : Board). b.lists) c.take_seats.ensures.board ∙ ap (λ (b : Board). b.lists) c.in_default.ensures.ok)
    c.heads-head.ensures.count

pub take_heads-requires-clause-empty : goal.take_heads-requires-clause-empty
take_heads-requires-clause-empty g c = λ h le.
    heads_empty (g.S.SetBoard.board c.args.board.now).lists _ c.args.class.shape.owned c.heads-head.result h
    (ap (λ (b : Board). b.lists) c.take_seats.ensures.board ∙ ap (λ (b : Board). b.lists) c.in_default.ensures.ok)
    c.heads-head.ensures.count le

pub returns-in-Err-push-clause-err_board : goal.returns-in-Err-push-clause-err_board
returns-in-Err-push-clause-err_board g c =
    places_back (g.S.SetBoard.board c.args.board.now) (g.S.SetBoard.board c.add_places.new.board)
    (g.S.SetBoard.board c.take_seats.new.board) _ c.args.class.shape.owned c.args.class.shape.joined c.heads-head.result
    c.seats-seat.result c.in_default.ensures.ok c.heads-head.ensures.count c.seats-seat.ensures.count
    c.take_seats.ensures.board c.take_heads.ensures.board

pub returns-in-Err-clause-err_numbers : goal.returns-in-Err-clause-err_numbers
returns-in-Err-clause-err_numbers g c =
    front_back c.args.numbers.now.items _ c.add_numbers.new.numbers.items _ c.seats-seat.result
    c.in_ok-add_numbers.ensures.ok (c.seats-seat.ensures.count ∙ sym c.requires.numbers) c.truncate.ensures.items

pub returns-in-Err-push-clause-err_numbers : goal.returns-in-Err-push-clause-err_numbers
returns-in-Err-push-clause-err_numbers g c =
    front_back c.args.numbers.now.items _ c.add_numbers.new.numbers.items _ c.seats-seat.result
    c.in_ok-add_numbers.ensures.ok (c.seats-seat.ensures.count ∙ sym c.requires.numbers)
    c.truncate-in-Err-push.ensures.items
