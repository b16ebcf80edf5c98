use Rattle.std.proofs.Common.{◌≡◌, take}
use Rattle.ss_run.specs.Measure.{is_measured}
use Rattle.ss_run.proofs.measure.is_measured.Given as goal

-- whether one of those so far is
abbrev pub invariant-loop-measure : goal.invariant-loop-measure
invariant-loop-measure l = l.is_there ≡ is_measured (take l.measure-index l.measures) l.text
