use Rattle.std.proofs.Common.{◌≡◌, ◌≤◌, length, take}
use Rattle.ss_words.specs.TextRuns.{without_stops}
use Rattle.ss_words.proofs.scan.run.without_stops.Given as goal

abbrev pub invariant-loop-len : goal.invariant-loop-len
invariant-loop-len l = (l.len ≤ length l.run) × (without_stops l.run ≡ without_stops (take l.len l.run))

abbrev pub decreases-loop-len : goal.decreases-loop-len
decreases-loop-len l = l.len
