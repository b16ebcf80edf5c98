use Rattle.std.proofs.Common.{◌≡◌, ◌++◌, drop}
use Rattle.ss_changes.specs.Snapshots.{numbers_of}
use Rattle.ss_changes.proofs.numbers.numbers_of.Given as goal

abbrev pub invariant-loop-part : goal.invariant-loop-part
invariant-loop-part l = l.numbers.items ++ numbers_of (drop l.part-index l.parts) ≡ numbers_of l.parts
