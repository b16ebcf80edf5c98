use Rattle.ss_routines.proofs.Rooms.{expr_at-is}
use Rattle.ss_routines.proofs.reading.expressions.expression.Goals as goal

pub returns-clause-exact : goal.returns-clause-exact
returns-clause-exact c = rw (expr_at-is c.args.room) c.expr.ensures.exact
