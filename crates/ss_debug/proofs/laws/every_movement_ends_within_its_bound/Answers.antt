use Rattle.ss_debug.proofs.Bounds.{movement_within}
use Rattle.ss_debug.proofs.laws.every_movement_ends_within_its_bound.Goals as goal

pub returns : goal.returns
returns c = movement_within
