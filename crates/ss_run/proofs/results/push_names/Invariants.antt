use Rattle.std.proofs.Common.{◌≡◌, ◌++◌, [], map, take}
use Rattle.csv.specs.Records.{fields_of, partial_of}
use Rattle.ss_run.specs.Measure.{measure_name}
use Rattle.ss_run.proofs.results.push_names.Given as goal

abbrev pub invariant-loop-measure : goal.invariant-loop-measure
invariant-loop-measure l = record {
  partial : partial_of l.cells ≡ [];
  fields : fields_of l.cells ≡ fields_of l.initial.cells ++ map measure_name (take l.measure-index l.measures);
}
