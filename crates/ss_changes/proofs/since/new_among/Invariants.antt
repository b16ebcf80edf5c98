use Rattle.std.proofs.Common.{◌≡◌, ◌++◌, drop}
use Rattle.ss_changes.specs.Snapshots.{new_among}
use Rattle.ss_changes.proofs.since.new_among.Given as goal

abbrev pub invariant-loop-part : goal.invariant-loop-part
invariant-loop-part l = l.parts.items ++ new_among l.known (drop l.part-index l.among) ≡ new_among l.known l.among
