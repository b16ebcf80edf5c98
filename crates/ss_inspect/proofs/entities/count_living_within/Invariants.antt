use Rattle.std.proofs.Common.{◌≡◌, ◌≤◌, length}
use Rattle.ss_debug.specs.Entities.{lines_below}
use Rattle.ss_inspect.specs.Living.{living_at}
use Rattle.ss_inspect.proofs.entities.count_living_within.Given as goal

abbrev pub invariant-loop-below : goal.invariant-loop-below
invariant-loop-below g l = record {
  count : l.count ≡ length (lines_below (living_at l.store.state l.class) l.below);
  few : l.count ≤ l.below;
}
