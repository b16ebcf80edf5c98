use Rattle.ss_debug.proofs.Moves.{search_back_ends, one_search_back_end}
use Rattle.ss_debug.proofs.laws.a_movement_back_has_one_end.Goals as goal

pub returns-clause-ends : goal.returns-clause-ends
returns-clause-ends c = search_back_ends

pub returns-clause-unique : goal.returns-clause-unique
returns-clause-unique c = one_search_back_end
