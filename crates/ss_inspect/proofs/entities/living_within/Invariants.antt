use Rattle.std.proofs.Common.{◌≡◌}
use Rattle.ss_debug.specs.Entities.{lines_below}
use Rattle.ss_inspect.specs.Living.{living_at}
use Rattle.ss_inspect.proofs.entities.living_within.Given as goal

abbrev pub invariant-loop-below : goal.invariant-loop-below
invariant-loop-below g l = l.numbers.items ≡ lines_below (living_at l.store.state l.class) l.below
