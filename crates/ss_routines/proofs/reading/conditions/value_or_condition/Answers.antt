use Rattle.ss_routines.proofs.EitherRooms.{either_at_is}
use Rattle.ss_routines.proofs.reading.conditions.value_or_condition.Goals as goal

pub returns-clause-exact : goal.returns-clause-exact
returns-clause-exact c = rw (either_at_is c.args.room) c.either.ensures.exact
