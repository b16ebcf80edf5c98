use Rattle.std.proofs.Common.{refl}
use Rattle.ss_debug.specs.Move.{least}
use Rattle.ss_debug.proofs.laws.no_movement_passes_the_last_position.Goals as goal

pub returns-clause-step : goal.returns-clause-step
unfolding least
returns-clause-step c = λ t. refl

pub returns-clause-run : goal.returns-clause-run
unfolding least
returns-clause-run c = λ t. refl
