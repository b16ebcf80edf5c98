use Rattle.std.proofs.Common.{refl}
use Rattle.ss_debug.specs.Move.{least}
use Rattle.ss_debug.proofs.laws.a_search_back_ends_at_the_earliest_kept_position.Goals as goal

pub returns-clause-found : goal.returns-clause-found
unfolding least
returns-clause-found c = refl

pub returns-clause-there : goal.returns-clause-there
unfolding least
returns-clause-there c = refl

pub returns-clause-before : goal.returns-clause-before
unfolding least
returns-clause-before c = refl

pub returns-clause-bound : goal.returns-clause-bound
unfolding least
returns-clause-bound c = refl
