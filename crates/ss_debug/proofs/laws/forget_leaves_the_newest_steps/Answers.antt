use Rattle.ss_debug.proofs.Bounds.{forget_leaves}
use Rattle.ss_debug.proofs.laws.forget_leaves_the_newest_steps.Goals as goal

pub returns : goal.returns
returns c = forget_leaves
