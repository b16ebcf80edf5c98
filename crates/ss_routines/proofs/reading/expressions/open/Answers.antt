use Rattle.std.proofs.Common.{sym, ◌∙◌, arith}
use Rattle.ss_routines.proofs.Rooms.{open_more, open_shut, open_not}
use Rattle.ss_routines.proofs.reading.expressions.open.Goals as goal

pub returns-then-room-gt0-clause-exact : goal.returns-then-room-gt0-clause-exact
returns-then-room-gt0-clause-exact c =
    rw (open_more c.args.room (omega (arith, c.if-room-gt0.true))) c.eat.ensures.exact

pub returns-then-is_next-clause-exact : goal.returns-then-is_next-clause-exact
returns-then-is_next-clause-exact c =
    open_shut c.args.room c.args.cursor.now (omega (arith, c.if-room-gt0.false))
    (sym c.is_next.ensures ∙ c.if-is_next.true)

pub returns-clause-exact : goal.returns-clause-exact
returns-clause-exact c =
    open_not c.args.room c.args.cursor.now (omega (arith, c.if-room-gt0.false))
    (sym c.is_next.ensures ∙ c.if-is_next.false)
