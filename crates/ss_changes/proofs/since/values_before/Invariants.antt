use Rattle.std.proofs.Common.{◌≡◌, ◌++◌, drop, map}
use Rattle.ss_changes.specs.Snapshots.{value_before}
use Rattle.ss_changes.proofs.since.values_before.Given as goal

abbrev pub invariant-loop-part : goal.invariant-loop-part
invariant-loop-part l =
    l.values.items ++ map (value_before l.lived) (drop l.part-index l.parts) ≡ map (value_before l.lived) l.parts
