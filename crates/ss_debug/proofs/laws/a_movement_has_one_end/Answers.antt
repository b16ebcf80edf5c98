use Rattle.ss_debug.proofs.Moves.{forward_ends, one_end}
use Rattle.ss_debug.proofs.laws.a_movement_has_one_end.Goals as goal

pub returns-clause-ends : goal.returns-clause-ends
returns-clause-ends c = forward_ends

pub returns-clause-unique : goal.returns-clause-unique
returns-clause-unique c = one_end
