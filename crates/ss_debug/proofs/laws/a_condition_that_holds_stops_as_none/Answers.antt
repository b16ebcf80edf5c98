use Rattle.ss_debug.proofs.BreakLaws.{holds_as_none}
use Rattle.ss_debug.proofs.laws.a_condition_that_holds_stops_as_none.Goals as goal

pub returns : goal.returns
returns c = holds_as_none
